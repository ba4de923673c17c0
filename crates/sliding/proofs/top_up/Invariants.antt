-- `sliding::top_up` meets its contract. The loop's invariant: the pages in hand, with what they are still
-- to take, are the whole. The measure is how many pages and bytes of the row are left.
use Prim.Native.Nat.{◌+◌, ◌-◌}
use lib.ListN.{length}
use Rattle.layouts.specs.Layout.{in_use}
use Rattle.pages.specs.Area.{held_from}
use Rattle.sliding.proofs.Topping.{Topped}
use Rattle.sliding.proofs.top_up.Given as goal

abbrev pub invariant-loop-a : goal.invariant-loop-a
invariant-loop-a l = Topped (held_from in_use l.initial.area l.cap 0) l.cap l.added l.row l.area l.at l.moved l.a

abbrev pub decreases-loop-a : goal.decreases-loop-a
decreases-loop-a l = (l.cap - l.a) + (length l.row - l.at)
