-- `pages::parse` meets its contract: what is still to be stored makes the rows those of the page's
-- records.
use Rattle.pages.specs.Page.{key, value}
use Rattle.pages.proofs.Read.{RowLeft}
use Rattle.pages.proofs.parse.Given as goal

abbrev pub invariant-loop-i : goal.invariant-loop-i
invariant-loop-i g l = RowLeft g.L.Layout.layout l.part l.count key l.keys l.i × RowLeft g.L.Layout.layout l.part l.count value l.values l.i
