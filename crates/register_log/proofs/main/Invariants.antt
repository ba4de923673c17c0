-- The buffers are as long as they were made, and the input in hand fits its own.
use Rattle.std.proofs.Common.{◌≡◌, ◌≤◌, length}
use Rattle.register_log.proofs.main.Given as goal

abbrev pub invariant-loop : goal.invariant-loop
invariant-loop l =
    (32768 ≡ length l.space) × (128 ≡ length l.row) × (65536 ≡ length l.input) × (65536 ≡ length l.replies) × (l.have ≤ 65536)
