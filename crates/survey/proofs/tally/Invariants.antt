-- `survey::tally` meets its contract. The loop's invariant is `Tallied`: the first homes are counted,
-- but for a run that is still to be added.
use Rattle.survey.proofs.Counting.{Tallied}
use Rattle.survey.proofs.tally.Given as goal

abbrev pub invariant-loop-home : goal.invariant-loop-home
invariant-loop-home l = Tallied l.home-items l.initial.row l.row l.seen l.n l.home-index
