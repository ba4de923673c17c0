-- `homes::lanes::pick` meets its contract. The loop's invariant: the places below i hold the pages
-- picked.
use lib.ListN.{get_or}
use Rattle.homes.specs.Steps.Lanes.{picked}
use Rattle.homes.proofs.Rowed.{Passed}
use Rattle.homes.proofs.lanes.pick.Given as goal

abbrev pub invariant-loop-i : goal.invariant-loop-i
invariant-loop-i l = Passed 12 (λ j. picked l.p (get_or l.after j 0) (get_or l.before j 0)) l.pages l.i
