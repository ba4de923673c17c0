-- `pay_runs::are_puts` meets its contract. The loop's invariant is `Looking`.
use Rattle.pay_runs.proofs.Heads.{Looking}
use Rattle.pay_runs.proofs.are_puts.Given as goal

abbrev pub invariant-loop-i : goal.invariant-loop-i
invariant-loop-i l = Looking l.input l.count l.i
