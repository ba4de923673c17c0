-- `pay_runs::put_each` meets its contract. The loop's invariant is `Going`, with `Knows` for the
-- homes ahead.
use Rattle.register.specs.Files.{file_of}
use Rattle.pay_runs.proofs.Lookahead.{Knows}
use Rattle.pay_runs.proofs.Items.{Going}
use Rattle.pay_runs.proofs.put_each.Given as goal

abbrev pub invariant-loop-i : goal.invariant-loop-i
invariant-loop-i l = Going (file_of l.initial.after l.initial.area) l.input l.count (file_of l.after l.area) l.room l.i × Knows l.initial.after l.input l.count l.i l.after l.ahead
