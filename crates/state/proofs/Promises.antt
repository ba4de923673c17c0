-- What is promised of a state's tests holds.
--
use mathlib.Core.Path.{◌≡◌}
use mathlib.Core.Bool.{true}
use mathlib.Core.Logic.{◌↔◌}
use Prim.Native.Nat.{◌*◌, ◌<◌}
use native.Mathlib.Omega.{arith}
use lib.Dec.{ltb}
use borrow.Author.Tests.{ltb-true, lt-ltb}
use Rattle.numbers.proofs.Records.{and_left, and_right}
use Rattle.layouts.specs.Layout.{Layout, slots_on}
use Rattle.state.specs.declared.State.{State}
use Rattle.state.specs.State.{in_range, is_due}
use Rattle.state.specs.Promises.{Ranged, StatePromises}
use Rattle.state.proofs.Ranges.{ranged, in_range_lem}

due_when : (f : Layout) (x : State) → (is_due f x ≡ true) ↔ (Ranged f x × (4 * slots_on f x.p < 5 * x.r))
due_when f x =
    let load = ltb (4 * slots_on f x.p) (5 * x.r) in
    ((λ e. (ranged f x (and_left (in_range f x) load e), ltb-true _ _ (and_right (in_range f x) load e))), (λ w. rw (in_range_lem f x w.0, lt-ltb _ _ w.1)))

pub state_promises : StatePromises
state_promises =
    record { in_range = λ f x. (ranged f x, in_range_lem f x); due = due_when; twelve = λ p. omega arith; ten = λ p. omega arith }
