-- `pages::known::homes_here` meets its contract.
use Rattle.homes.specs.Homes.{home_in}
use Rattle.layouts.specs.Layout.{in_use}
use Rattle.pages.specs.Area.{part_at}
use Rattle.pages.proofs.Read.{held_few, ready}
use Rattle.pages.proofs.Homing.{here_page}
use Rattle.pages.proofs.known.homes_here.Goals as goal
use Rattle.pages.proofs.known.homes_here.Goals.{then-full_before, else-full_before}

pub homes_on-requires : goal.homes_on-requires
homes_on-requires c =
    let b = c.args in
    let e = c.requires.a_bound.2 in (
      (ready _ _ e (held_few in_use (part_at b.area.now b.a))).0,
      here_page in_use (home_in b.shape) b.area.now b.a b.page _ e
          (elim c.if-full_before.branch [ then-full_before w ↦ rw (← c.full_before.ensures, w.if-full_before.true) w.known-is | else-full_before w ↦ rw (← c.full_before.ensures, w.if-full_before.false) w.known-is ])
          c.requires.ready,
    )
