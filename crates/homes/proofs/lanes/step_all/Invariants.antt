-- `homes::lanes::step_all` meets its contract. The loop's invariant: in the rows that it fills, the
-- places below i are those after the step.
use Prim.Native.Nat.{ℕ}
use lib.ListN.{get_or}
use Rattle.homes.specs.declared.lane.Lane.{Lane}
use Rattle.homes.specs.Steps.Lanes.{address_of, gone_to}
use Rattle.homes.proofs.Rowed.{Passed}
use Rattle.homes.proofs.lanes.step_all.Given as goal

-- the lane of these numbers after the step
abbrev pub after : (s g np m turn group : ℕ) → Lane
after s g np m u r = gone_to s g np m (record { turn = u; group = r })

abbrev pub invariant-loop-i : goal.invariant-loop-i
invariant-loop-i l = Passed 16 (λ j. (after l.sweeps.s l.g l.np (get_or l.moves j 0) (get_or l.old_turns j 0) (get_or l.old_groups j 0)).turn) l.turns l.i
    × Passed 16 (λ j. (after l.sweeps.s l.g l.np (get_or l.moves j 0) (get_or l.old_turns j 0) (get_or l.old_groups j 0)).group) l.groups l.i
    × Passed 16 (λ j. address_of l.g (after l.sweeps.s l.g l.np (get_or l.moves j 0) (get_or l.old_turns j 0) (get_or l.old_groups j 0))) l.pages l.i
