-- `survey::survey` meets its contract. The loop's invariant is `ToSurvey`, what was seen and the pages
-- that are left decide, with `ToCount`: the pages below a are counted, and those from a on are left
-- to tally.
use lib.ListN.{length}
use Rattle.homes.specs.Homes.{home_in}
use Rattle.survey.proofs.Looking.{ToSurvey}
use Rattle.survey.proofs.Counting.{ToCount}
use Rattle.survey.proofs.survey.Given as goal

abbrev pub invariant-loop-a : goal.invariant-loop-a
invariant-loop-a g l = ToSurvey g.L.Layout.layout (home_in l.shape) l.pages.bytes.now l.pages.cap l.seen l.a × ToCount g.L.Layout.layout (home_in l.shape) l.pages.bytes.now l.pages.cap (length l.fn.row) l.row l.a
