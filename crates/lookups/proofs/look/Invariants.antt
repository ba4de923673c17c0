-- `lookups::look` meets its contract. The loop's invariant: the search has come to page a, which is its
-- home or higher. The measure is how many pages are left.
use Prim.Native.Nat.{◌-◌, ◌≤◌}
use Rattle.homes.specs.Homes.{home_in}
use Rattle.lookups.proofs.Looking.{Come}
use Rattle.lookups.proofs.look.Given as goal

abbrev pub invariant-loop-a : goal.invariant-loop-a
invariant-loop-a g l = (l.home ≤ l.a) × Come g.L.Layout.layout l.pages.bytes.now (home_in l.shape) l.pages.cap l.sought l.a

abbrev pub decreases-loop-a : goal.decreases-loop-a
decreases-loop-a g l = l.pages.cap - l.a
