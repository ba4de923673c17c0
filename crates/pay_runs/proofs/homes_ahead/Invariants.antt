-- `pay_runs::homes_ahead` meets its contract. The loop's invariant is `Reading`.
use Rattle.pay_runs.proofs.Lookahead.{Reading}
use Rattle.pay_runs.proofs.homes_ahead.Given as goal

abbrev pub invariant-loop-k : goal.invariant-loop-k
invariant-loop-k l = Reading l.input l.lanes l.keys l.k
