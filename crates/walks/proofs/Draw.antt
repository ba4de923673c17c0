-- The second phase of a remove, page by page.
use mathlib.Core.Path.{◌≡◌}
use mathlib.Core.List.{List}
use Prim.Native.Nat.{ℕ, suc, ◌+◌, ◌-◌, ◌<◌}
use native.Mathlib.Omega.{arith}
use Rattle.layouts.specs.Layout.{in_use}
use Rattle.pages.specs.Places.{closed}
use Rattle.pages.specs.Steps.Slots.{backed}
use Rattle.pages.specs.Area.{with_page}
use Rattle.walks.specs.Walks.{writes}
use Rattle.walks.specs.Steps.Plans.{slots, held, first_of, drawn}
use Rattle.walks.proofs.Pouring.{Untouched}

-- page a is written to an area that agrees with the first area from there on
module _ (h : ℕ → ℕ) (start area new : List ℕ) (last a slot : ℕ) (same : Untouched start area a) where
  -- filled with the first record of the next page, where it isn't the last
  pub draw_turn : new ≡ with_page in_use area a (backed slots h (first_of (held area (a + 1))) (closed slot (held area a))) → a < last
      → writes in_use new (drawn h start (last - (a + 1)) (a + 1) 0) ≡ writes in_use area (drawn h start (last - a) a slot)
  draw_turn d l =
      let n : last - a ≡ suc (last - (a + 1)) = omega arith in
      let m : a + 1 ≡ suc a = omega arith in
      rw (d, n, same a (omega arith), same (a + 1) (omega arith), m)
