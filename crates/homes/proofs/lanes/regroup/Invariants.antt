-- `homes::lanes::regroup` meets its contract. The loop's invariant: in both rows that change, the
-- places below i are regrouped.
use Prim.Native.Nat.{◌+◌, ◌*◌, ◌/◌, ◌%◌}
use lib.ListN.{get_or}
use Rattle.homes.proofs.Rowed.{Passed}
use Rattle.homes.proofs.lanes.regroup.Given as goal

abbrev pub invariant-loop-i : goal.invariant-loop-i
invariant-loop-i l = Passed 16 (λ j. get_or l.old_turns j 0 / 2) l.turns l.i
    × Passed 16 (λ j. get_or l.old_turns j 0 % 2 * l.g + get_or l.old_groups j 0) l.groups l.i
