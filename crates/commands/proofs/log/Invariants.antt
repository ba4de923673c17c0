-- `commands::log` meets its contract. The loop's invariant is `Going`: the replies so far stand in
-- the bytes given, and what is left of the log comes behind them.
use Rattle.commands.specs.Execute.{site}
use Rattle.commands.proofs.Turning.{Going}
use Rattle.commands.proofs.log.Given as goal

abbrev pub invariant-loop-told : goal.invariant-loop-told
invariant-loop-told l = Going l.last l.room (site l.initial.after l.initial.space l.initial.row) l.input l.initial.replies (site l.after l.space l.row) l.replies l.taken l.told
