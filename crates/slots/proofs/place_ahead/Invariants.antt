-- The places that are left decide.
use mathlib.Core.Path.{◌≡◌}
use Prim.Native.Nat.{◌-◌}
use Rattle.homes.specs.Homes.{home_in}
use Rattle.placing.specs.Lay.{ranked}
use Rattle.pages.specs.Page.{rank, records_in}
use Rattle.pages.specs.Places.{ahead}
use Rattle.slots.proofs.Seeking.{passed, rank_at}
use Rattle.slots.proofs.place_ahead.Given as goal

abbrev pub invariant-loop-i : goal.invariant-loop-i
invariant-loop-i g l =
    let rs = records_in g.L.Layout.layout l.part in
    passed (rank_at (home_in l.shape) rs) (l.count - l.i) l.i (ranked l.home l.key) ≡ ahead (rank (home_in l.shape)) (ranked l.home l.key) rs
