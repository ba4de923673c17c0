-- `differences::pass_page` meets its contract: the first i records are passed.
use Rattle.pages.specs.Steps.Slots.{paired}
use Rattle.sites.specs.Steps.Sites.{look}
use Rattle.differences.specs.Steps.Passes.{Passes}
use Rattle.differences.proofs.Passing.{tally_of}
use Rattle.differences.proofs.pass_page.Given as goal

abbrev pub invariant-loop-i : goal.invariant-loop-i
invariant-loop-i l = Passes l.which (look l.site l.other) (paired l.i l.page.keys l.page.values l.page.runs) l.initial.row l.at (tally_of l.absent l.unlike) l.row
