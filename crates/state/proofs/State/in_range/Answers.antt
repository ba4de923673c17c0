-- `state::State::in_range` meets its contract: its tests are those of the ranges, in their order.
use Rattle.state.specs.State.{in_range}
use Rattle.state.proofs.Ranges.{tests_all}
use Rattle.state.proofs.State.in_range.Goals as goal

pub returns : goal.returns
unfolding in_range
returns c = rw c.slots_on_by_number-most.ensures.value (tests_all _ _ _ _ _ _ _ _ _ _ _ _ _)
