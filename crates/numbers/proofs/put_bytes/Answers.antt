use mathlib.Core.Path.{◌≡◌, sym, ◌∙◌}
use mathlib.Core.List.{List}
use Prim.Native.Nat.{ℕ, suc, ◌≤◌, ◌<◌, ◌+◌, ◌-◌, ◌/◌, ◌%◌}
use native.Mathlib.Nat.{sub_self, add_assoc}
use native.Mathlib.Omega.{arith}
use lib.ListN.{length, set}
use Rattle.numbers.specs.Little.{bytes_of, written}
use Rattle.numbers.proofs.Laws.{written-nil, written-cons}
use Rattle.numbers.proofs.put_bytes.Goals as goal

-- a turn stores the lowest byte of what is left to write
turn : (s : List ℕ) (at i width y : ℕ) → i < width → at + width ≤ length s
    → written (set s (at + i) (y % 256)) (at + (i + 1)) (bytes_of (width - (i + 1)) (y / 256)) ≡ written s (at + i) (bytes_of (width - i) y)
unfolding bytes_of
turn s at i width y t h =
    let e : width - i ≡ suc (width - (i + 1)) = omega arith in
    rw (e, ← add_assoc) (written-cons s (at + i) (y % 256) (bytes_of (width - (i + 1)) (y / 256)) (omega arith))

pub loop-i-preserved : goal.loop-i-preserved
loop-i-preserved c =
    turn c.loop-i.s c.args.at c.loop-i.i c.args.width c.loop-i.y (omega arith) (omega arith) ∙ c.loop-i.invariant

-- after the last turn nothing is left to write
done : (s : List ℕ) (at i width y : ℕ) → i ≡ width → written s (at + i) (bytes_of (width - i) y) ≡ s
unfolding bytes_of
done s at i width y z = rw (z, sub_self) (written-nil s (at + width))

pub returns : goal.returns
returns c =
    sym (done c.loop-i.s c.args.at c.loop-i.i c.args.width c.loop-i.y (omega arith)) ∙ c.loop-i.invariant
