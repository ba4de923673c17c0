-- `numbers::get_bytes` meets its contract: the number so far is that of the bytes from i on, and fits
-- as many.
use mathlib.Core.Path.{◌≡◌}
use Prim.Native.Nat.{◌<◌, ◌+◌, ◌-◌, ◌^◌}
use Rattle.numbers.specs.Little.{number_at}
use Rattle.numbers.proofs.get_bytes.Given as goal

abbrev pub invariant-loop-i : goal.invariant-loop-i
invariant-loop-i l = (l.r < 256 ^ (l.width - l.i)) × (l.r ≡ number_at (l.width - l.i) l.s (l.at + l.i))
