-- `numbers::put_bytes` meets its contract: what is left of the number, written behind what was
-- written, makes the write of the contract.
use mathlib.Core.Path.{◌≡◌}
use Prim.Native.Nat.{◌+◌, ◌-◌}
use Rattle.numbers.specs.Little.{bytes_of, written}
use Rattle.numbers.proofs.put_bytes.Given as goal

abbrev pub invariant-loop-i : goal.invariant-loop-i
invariant-loop-i l = written l.s (l.at + l.i) (bytes_of (l.width - l.i) l.y) ≡ written l.initial.s l.at (bytes_of l.width l.x)
