-- `walks::draw_back` meets its contract. The invariant: from page a on the area is as it was, and
-- what is left to write leads to the same as the whole.
use mathlib.Core.Path.{◌≡◌}
use Prim.Native.Nat.{◌-◌, ◌<◌}
use lib.ListN.{length}
use Rattle.layouts.specs.Layout.{in_use}
use Rattle.homes.specs.Homes.{home_in}
use Rattle.walks.specs.Walks.{writes}
use Rattle.walks.specs.Steps.Plans.{drawn}
use Rattle.walks.proofs.Pouring.{Untouched}
use Rattle.walks.proofs.remove.draw_back.Given as goal

abbrev pub invariant-loop-a : goal.invariant-loop-a
invariant-loop-a l = (length l.area ≡ length l.initial.area) × Untouched l.initial.area l.area l.a
    × (writes in_use l.area (drawn (home_in l.shape) l.initial.area (l.last - l.a) l.a l.slot) ≡ writes in_use l.initial.area (drawn (home_in l.shape) l.initial.area (l.last - l.first) l.first l.at)) × (l.slot < 12)
