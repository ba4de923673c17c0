-- The places that are left, from the back, decide.
use mathlib.Core.Path.{◌≡◌}
use lib.ListN.{length}
use Rattle.homes.specs.Homes.{home_in}
use Rattle.placing.specs.Lay.{ranked}
use Rattle.pages.specs.Page.{records_in}
use Rattle.slots.proofs.Seeking.{back}
use Rattle.slots.proofs.place_back.Given as goal

abbrev pub invariant-loop-i : goal.invariant-loop-i
invariant-loop-i g l =
    let rs = records_in g.L.Layout.layout l.part in
    let left = back (home_in l.shape) (ranked l.home l.key) rs in
    left l.i ≡ left (length rs)
