-- `sliding::to_stayer` meets its contract. The loop's invariant: what is left from the place in hand
-- is what is left in all. The measure is how many places are left, an end of a page being one.
use Prim.Native.Nat.{◌+◌, ◌-◌, ◌*◌}
use Rattle.sliding.proofs.Passing.{Passing}
use Rattle.sliding.proofs.to_stayer.Given as goal

abbrev pub invariant-loop-page : goal.invariant-loop-page
invariant-loop-page l = Passing l.area l.cap l.row l.initial.page l.initial.slot l.initial.next l.page l.slot l.next

abbrev pub decreases-loop-page : goal.decreases-loop-page
decreases-loop-page l = 13 * (l.cap - l.page) + (12 - l.slot)
