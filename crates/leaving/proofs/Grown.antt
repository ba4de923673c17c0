-- The homes of a file before and after its last page was added, by how it grew into that.
use mathlib.Core.Path.{◌≡◌}
use mathlib.Core.List.{List, []}
use Prim.Native.Nat.{ℕ, ◌+◌, ◌-◌, ◌≤◌, ◌<◌}
use native.Mathlib.Omega.{arith}
use Rattle.layouts.specs.Layout.{in_use}
use Rattle.placing.specs.Lay.{rank_in, Sorted}
use Rattle.placing.specs.Rows.{counts}
use Rattle.placing.specs.Steps.Packed.{Packed}
use Rattle.homes.specs.declared.Shape.{Shape}
use Rattle.homes.specs.declared.giving.Giving.{Giving}
use Rattle.homes.specs.Homes.{InRange, Ready, first_pages, shape_of, home_in}
use Rattle.homes.specs.Steps.Giving.{giving_of, gives_at, takes_key}
use Rattle.homes.proofs.Homes.{home_below}
use Rattle.homes.proofs.Given.{given}
use Rattle.pages.specs.Page.{key, home_for}
use Rattle.pages.specs.Area.{held_from}
use Rattle.rebuild.specs.Steps.Rebuild.{slots}
use Rattle.leaving.proofs.Growing.{Grows}
use Rattle.leaving.proofs.Left.{Begun, holds}

module _ (shape : Shape) (t : Giving) (is : t ≡ giving_of shape) (ranges : Ready shape) (more : first_pages shape.params < shape.p) where
  before : InRange shape.params (shape.p - 1)
  before = record {
    n0_low = ranges.n0_low;
    n0_high = ranges.n0_high;
    n_low = ranges.n_low;
    n_high = ranges.n_high;
    s_low = ranges.s_low;
    s_high = ranges.s_high;
    p_low = omega arith;
    p_high = omega (arith, ranges.p_high);
  }

  pub grown : Grows (home_in (shape_of shape.params (shape.p - 1))) (home_in shape) (gives_at t) (takes_key t) (shape.p - 1)
  grown =
      let p : shape.p - 1 + 1 ≡ shape.p = omega arith in
      record {
        below = λ k. home_below shape.params (shape.p - 1) k before;
        given = λ k. rw is (rw p at (given shape.params (shape.p - 1) k before));
      }

  pub added_is : t.added ≡ shape.p - 1
  unfolding giving_of
  added_is = rw is

  -- so an image for the old homes begins to grow
  pub begun : (cap : ℕ) (area row : List ℕ) → shape.p ≤ cap
      → Packed (home_for (home_in (shape_of shape.params (shape.p - 1)))) slots 0 (held_from in_use area cap 0) []
      → Sorted (rank_in key (home_in (shape_of shape.params (shape.p - 1)))) (holds cap area)
      → row ≡ counts (home_for (home_in (shape_of shape.params (shape.p - 1)))) (holds cap area) cap 0
      → Begun (home_in (shape_of shape.params (shape.p - 1))) (home_in shape) t (shape.p - 1) cap area row
  begun cap area row l packed sorted told = record { grows = grown; there = added_is; high = omega arith; packed = packed; sorted = sorted; told = told }
