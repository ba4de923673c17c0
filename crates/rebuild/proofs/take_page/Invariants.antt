-- `rebuild::take_page` meets its contract. The loop's invariant: the page in hand, with what it can
-- still take of the entries that are left, is the page asked for.
--
use Prim.Native.Nat.{◌-◌}
use Rattle.rebuild.specs.Steps.Rebuild.{slots}
use Rattle.rebuild.proofs.Take.{Taking}
use Rattle.rebuild.proofs.take_page.Given as goal

abbrev pub invariant-loop-count : goal.invariant-loop-count
invariant-loop-count l = Taking l.a l.at l.area l.keys l.values l.runs l.count l.next l.moved

abbrev pub decreases-loop-count : goal.decreases-loop-count
decreases-loop-count l = slots - l.count
