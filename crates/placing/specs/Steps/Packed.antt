-- The form of the image that proves easily: a page that isn't full has only higher homes after it.
-- With it, records beyond the last page, so that a lack of room is a rest.
use Rattle.std.specs.Prelude.{List, [], ◌∷◌, ℕ, suc, ◌≤◌, ◌<◌, length}
use Rattle.placing.specs.Image.{All, cat}

module _ {R : Type 0} (home : R → ℕ) (b : ℕ) where
  -- pages from address a on, and the records beyond the last of them
  abbrev pub Packed : ℕ → List (List R) → List R → Type 0
  Packed a [] rest = Unit {0}
  Packed a (p ∷ ps) rest = (length p ≤ b) × All (λ x. home x ≤ a) p × (length p < b → All (λ x. a < home x) (cat ps rest)) × Packed (suc a) ps rest
