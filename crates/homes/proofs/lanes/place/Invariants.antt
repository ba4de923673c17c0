-- `homes::lanes::place` meets its contract. The loop's invariant: in both rows the places below i
-- hold the lanes of their pages.
use Prim.Native.Nat.{◌/◌, ◌%◌}
use lib.ListN.{get_or}
use Rattle.homes.proofs.Rowed.{Passed}
use Rattle.homes.proofs.lanes.place.Given as goal

abbrev pub invariant-loop-i : goal.invariant-loop-i
invariant-loop-i l = Passed 16 (λ j. get_or l.pages j 0 / l.g) l.turns l.i
    × Passed 16 (λ j. get_or l.pages j 0 % l.g) l.groups l.i
