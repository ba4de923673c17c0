-- A search that leaves out the pages that it would pass.
use Rattle.std.specs.Prelude.{ℕ, ◌-◌, ◌≤◌, ◌<◌, ◌≡◌, Bool, true, false, not, ◌&&◌, List, [], ◌∷◌, ltb, length}
use Rattle.std.proofs.Math.Option.{Option}
use Rattle.layouts.specs.Layout.{Layout, slots_of}
use Rattle.placing.specs.Image.{cat, Image}
use Rattle.placing.specs.Lay.{rank_of, rank_in}
use Rattle.placing.specs.Walks.{find}
use Rattle.pages.specs.Page.{Record, key, records_in}
use Rattle.pages.specs.Area.{part_at, held_from}

module _ {R : Type 0} (rank : R → ℕ) where
  -- whether the last of some records stands before the sought (home, key)
  abbrev pub last_before : ℕ → List R → Bool
  last_before r [] = false
  last_before r (y ∷ []) = ltb (rank y) r
  last_before r (y ∷ (w ∷ s)) = last_before r (w ∷ s)

  -- whether a search passes a page: it is full, and its last record stands before what is sought
  abbrev pub passes_on : (b r : ℕ) → List R → Bool
  passes_on b r p = not (ltb (length p) b) && last_before r p

module _ (f : Layout) (area : List ℕ) (h : ℕ → ℕ) (cap : ℕ) where
  -- the pages are an image of what they hold
  abbrev pub Imaged : Type 0
  Imaged = Image key h (slots_of f) cap (cat (held_from f area cap 0) []) (held_from f area cap 0)

  -- what the search for a key finds from page a on
  abbrev pub find_from : (k a : ℕ) → Option Record
  find_from k a = find (rank_in key h) (slots_of f) (rank_of h k) (held_from f area (cap - a) a)

  -- whether that search passes page a
  abbrev pub passes_at : (k a : ℕ) → Bool
  passes_at k a = passes_on (rank_in key h) (slots_of f) (rank_of h k) (records_in f (part_at area a))

  -- page r is the first from page a on that it doesn't pass, or the end
  pub record Unpassed (k a r : ℕ) : Type 0 where
    pub after : a ≤ r
    pub within : r ≤ cap
    pub before : (j : ℕ) → a ≤ j → j < r → passes_at k j ≡ true
    pub here : r < cap → passes_at k r ≡ false
