-- `walks::pour` meets its contract. The loop's invariant: the pages from page a on are as they were
-- after the first, what is left to write of them is all that is to be written, and where the seams
-- rise the record that goes on belongs to the front of its page.
use mathlib.Core.Path.{◌≡◌}
use mathlib.Core.Bool.{true}
use Prim.Native.Nat.{suc, ◌+◌, ◌-◌, ◌≤◌}
use lib.ListN.{length}
use Rattle.layouts.specs.Layout.{in_use}
use Rattle.homes.specs.Homes.{home_in}
use Rattle.pages.specs.Page.{rank}
use Rattle.pages.specs.Places.{ahead}
use Rattle.walks.specs.Walks.{writes}
use Rattle.walks.specs.Steps.Plans.{held, poured}
use Rattle.walks.proofs.Pouring.{Untouched}
use Rattle.walks.proofs.put.pour.Given as goal

abbrev pub invariant-loop-a : goal.invariant-loop-a
invariant-loop-a l = (length l.area ≡ length l.initial.area) × Untouched l.initial.area l.area l.a
    × (writes in_use l.area (poured (home_in l.shape) l.initial.area (suc l.last - l.a) l.a l.x) ≡ writes in_use l.initial.area (poured (home_in l.shape) l.initial.area (suc l.last - (l.first + 1)) (l.first + 1) l.initial.x))
    × (l.rises ≡ true → l.a ≤ l.last → ahead (rank (home_in l.shape)) (rank (home_in l.shape) l.x) (held l.initial.area l.a) ≡ 0)
