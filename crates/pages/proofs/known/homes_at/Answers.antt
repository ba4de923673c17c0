-- `pages::known::homes_at` meets its contract.
use mathlib.Core.Path.{◌∙◌}
use Rattle.homes.specs.Steps.NewHomes.{new_home}
use Rattle.layouts.specs.Layout.{in_use}
use Rattle.pages.specs.Area.{part_at}
use Rattle.pages.proofs.Read.{held_few, ready}
use Rattle.pages.proofs.Homing.{known_page, homes_page}
use Rattle.pages.proofs.known.homes_at.Goals as goal
use Rattle.pages.proofs.known.homes_at.Goals.{then-not-keeps, else-not-keeps+then-full_before, else-not-keeps+else-full_before}

pub homes_on-requires : goal.homes_on-requires
homes_on-requires c =
    let b = c.args in
    let e = c.requires.a_bound.2 in (
      (ready _ _ e (held_few in_use (part_at b.area.now b.a))).0,
      known_page in_use b.new b.area.now b.a b.page _ e
          (elim c.if-not-keeps.branch [ then-not-keeps w ↦ rw (← c.keeps.ensures, w.if-not-keeps.true) w.known-is | else-not-keeps+then-full_before w ↦ rw (← c.keeps.ensures, w.if-not-keeps.false, ← w.full_before.ensures, w.if-full_before.true) w.known-is | else-not-keeps+else-full_before w ↦ rw (← c.keeps.ensures, w.if-not-keeps.false, ← w.full_before.ensures, w.if-full_before.false) w.known-is ])
          c.requires.usable.1,
    )

pub returns : goal.returns
returns c = c.homes_on.ensures ∙ homes_page (new_home c.args.new) c.args.page _ c.requires.a_bound.2
