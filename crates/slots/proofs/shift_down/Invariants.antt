-- `slots::shift_down` meets its contract. The loop's invariant: the bytes before i have been moved.
-- The measure is how many are left.
use mathlib.Core.Path.{◌≡◌}
use Prim.Native.Nat.{◌-◌, ◌≤◌}
use lib.ListN.{length}
use Rattle.numbers.specs.Little.{written}
use Rattle.slots.proofs.Shifting.{between}
use Rattle.slots.proofs.shift_down.Given as goal

abbrev pub invariant-loop-i : goal.invariant-loop-i
invariant-loop-i l = (l.start ≤ l.i) × (l.i ≤ l.end) × (length l.part ≡ length l.initial.part) × (l.part ≡ written l.initial.part (l.start - l.by) (between l.initial.part l.start l.i))

abbrev pub decreases-loop-i : goal.decreases-loop-i
decreases-loop-i l = l.end - l.i
