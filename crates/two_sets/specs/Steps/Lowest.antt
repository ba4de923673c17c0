-- One pass over the records of a set, with a lookup in the other: the lowest clashing key so far, and
-- the records that the other lacks.
use Rattle.std.specs.Prelude.{ℕ, Bool, cond, List, [], ◌∷◌, ltb}
use Rattle.std.proofs.Math.Option.{Option, none, some}
use Rattle.placing.specs.Walks.{if_found}

-- the lower of a key and what was lowest before
abbrev pub lower : ℕ → Option ℕ → Option ℕ
lower k none = some k
lower k (some j) = some (cond (ltb k j) k j)

module _ {R : Type 0} (key : R → ℕ) (same : R → R → Bool) where
  -- what a record comes to, by what the other set holds at its key
  abbrev pub lower_if : R → Option R → Option ℕ → Option ℕ
  lower_if x none low = low
  lower_if x (some y) low = cond (same x y) low (lower (key x) low)

  abbrev pub lowest_in : (look : ℕ → Option R) → List R → Option ℕ → Option ℕ
  lowest_in look [] low = low
  lowest_in look (x ∷ rs) low = lowest_in look rs (lower_if x (look (key x)) low)

module _ {R : Type 0} (key : R → ℕ) where
  -- the records at whose key nothing is found
  abbrev pub lacking : (look : ℕ → Option R) → List R → List R
  lacking look [] = []
  lacking look (x ∷ rs) = if_found (look (key x)) (lacking look rs) (x ∷ lacking look rs)
