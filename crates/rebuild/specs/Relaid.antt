-- A file made anew from its records: sorted, and laid on the pages again.
use Rattle.std.specs.Prelude.{ℕ, List, []}
use Rattle.placing.specs.Image.{cat}
use Rattle.placing.specs.Lay.{rank_in, sort, lay}
use Rattle.pages.specs.Page.{Record, key, home_for}

-- some records on n pages with b slots to a page, each at its place for the homes h
abbrev pub laid_out : (b : ℕ) → (ℕ → ℕ) → (n : ℕ) → List Record → List (List Record)
laid_out b h n rs = lay (home_for h) b n 0 (sort (rank_in key h) rs)

-- and those of n pages
unfoldable pub relaid : (b : ℕ) → (ℕ → ℕ) → (n : ℕ) → List (List Record) → List (List Record)
relaid b h n ps = laid_out b h n (cat ps [])
