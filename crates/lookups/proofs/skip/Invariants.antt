-- `lookups::skip` meets its contract. The loop's invariant: the pages before lo are passed, and page hi,
-- if it is one, isn't. The measure is how many pages may still be passed.
use Prim.Native.Nat.{ℕ, ◌-◌, ◌≤◌, ◌<◌}
use mathlib.Core.Path.{◌≡◌}
use mathlib.Core.Bool.{true, false}
use Rattle.homes.specs.Homes.{home_in}
use Rattle.lookups.specs.Steps.Skips.{passes_at}
use Rattle.lookups.proofs.skip.Given as goal

abbrev pub invariant-loop-lo : goal.invariant-loop-lo
invariant-loop-lo g l = let from = l.from in let lo = l.lo in let hi = l.hi in let passes = passes_at g.L.Layout.layout l.pages.bytes.now (home_in l.shape) l.pages.cap l.sought in
    (from ≤ lo) × (lo ≤ hi) × (hi ≤ l.pages.cap) × ((j : ℕ) → from ≤ j → j < lo → passes j ≡ true) × (hi < l.pages.cap → passes hi ≡ false)

abbrev pub decreases-loop-lo : goal.decreases-loop-lo
decreases-loop-lo g l = l.hi - l.lo
