-- `lookups::on_page` meets its contract. The loop's invariant: the key isn't among the records that
-- were looked at.
use mathlib.Core.Path.{◌≡◌}
use Prim.Native.Nat.{◌-◌}
use Rattle.placing.specs.Walks.{seek}
use Rattle.pages.specs.Page.{key, records_from, records_in}
use Rattle.lookups.proofs.on_page.Given as goal

abbrev pub invariant-loop-i : goal.invariant-loop-i
invariant-loop-i g l = seek key l.sought (records_from g.L.Layout.layout (l.count - l.i) l.i l.part) ≡ seek key l.sought (records_in g.L.Layout.layout l.part)
