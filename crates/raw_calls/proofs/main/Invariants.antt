-- Both buffers are as long as they were made.
use Rattle.std.proofs.Common.{◌≡◌, length}
use Rattle.raw_calls.proofs.main.Given as goal

abbrev pub invariant-loop : goal.invariant-loop
invariant-loop l = (65662 ≡ length l.bytes) × (4100 ≡ length l.row)
