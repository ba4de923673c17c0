-- Places among the records of a page, over any records and any rank.
use Rattle.std.specs.Prelude.{ℕ, suc, cond, List, [], ◌∷◌, ◌++◌, take, drop, leb}

module _ {R : Type 0} where
  -- the slots closed up over a place
  unfoldable pub closed : ℕ → List R → List R
  closed at s = take at s ++ drop (suc at) s

module _ {R : Type 0} (rank : R → ℕ) where
  -- how many at the front stand before r
  abbrev pub ahead : ℕ → List R → ℕ
  ahead r [] = 0
  ahead r (y ∷ s) = let on = suc (ahead r s) in cond (leb r (rank y)) 0 on
