-- `pages::keys_in` meets its contract: what is still to be stored makes the row that of the records'
-- keys.
use Rattle.pages.specs.Page.{key}
use Rattle.pages.proofs.Read.{RowLeft}
use Rattle.pages.proofs.keys_in.Given as goal

abbrev pub invariant-loop-i : goal.invariant-loop-i
invariant-loop-i g l = RowLeft g.L.Layout.layout l.part l.count key l.keys l.i
