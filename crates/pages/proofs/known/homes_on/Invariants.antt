-- `pages::known::homes_on` meets its contract. The loop's invariant is `Homing`: the homes from
-- record i on are still to be stored.
use Rattle.homes.specs.Homes.{home_in}
use Rattle.pages.proofs.Homing.{Homing}
use Rattle.pages.proofs.known.homes_on.Given as goal

abbrev pub invariant-loop-i : goal.invariant-loop-i
invariant-loop-i l = Homing (home_in l.shape) l.a l.page.count l.page.keys l.page.values l.page.runs l.once l.homes l.here l.i
