use mathlib.Core.Logic.{inl, inr}
use native.Mathlib.Omega.{arith}
use Rattle.sliding.proofs.Pulling.{slot_low, pulling_turn, pulled_all}
use Rattle.sliding.proofs.pull.Goals as goal

pub overflow_add-after : goal.overflow_add-after
overflow_add-after c = record { fits = omega (arith, slot_low c.loop-count.invariant c.loop-count-test.true c.if-place-cap.true) }

pub loop-count-preserved : goal.loop-count-preserved
loop-count-preserved c =
    pulling_turn c.loop-count.invariant c.loop-count-test.true c.if-place-cap.true _ c.record_at-x.ensures _ c.strange-moved.ensures _
    c.to_stayer-place-in-loop-count.ensures.within c.to_stayer-place-in-loop-count.ensures.by_index

pub returns-else-place-cap-clause-by_index : goal.returns-else-place-cap-clause-by_index
returns-else-place-cap-clause-by_index c = pulled_all c.loop-count.invariant (inr c.if-place-cap.false) c.requires.2 _ c.to_stayer-place.ensures.within c.to_stayer-place.ensures.by_index

pub returns-after-loop-count-clause-by_index : goal.returns-after-loop-count-clause-by_index
returns-after-loop-count-clause-by_index c = pulled_all c.loop-count.invariant (inl c.loop-count-test.false) c.requires.2 _ c.to_stayer-place.ensures.within c.to_stayer-place.ensures.by_index
