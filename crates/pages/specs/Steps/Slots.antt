-- Places among the records of a page, over any rows and any rank.
use Rattle.std.specs.Prelude.{ℕ, zero, suc, cond, List, [], ◌∷◌, ◌++◌, length, take, drop, get_or, ltb}
use Rattle.pages.specs.Page.{Record, record_with, vacant, rank}
use Rattle.pages.specs.declared.Page.{Page}

module _ {R : Type 0} where
  -- x at a place, and what stood there and after it one place on
  unfoldable pub opened : ℕ → R → List R → List R
  opened at x s = take at s ++ (x ∷ drop at s)

module _ {R : Type 0} (rank : R → ℕ) where
  -- how many of the first n are left when those that stand at r or after are passed over from the
  -- back
  abbrev pub up_to_back : ℕ → R → List R → ℕ → ℕ
  up_to_back r d s zero = 0
  up_to_back r d s (suc n) = let on = up_to_back r d s n in cond (ltb (rank (get_or s n d)) r) (suc n) on

-- the first n records of a page's rows
abbrev pub paired : ℕ → List ℕ → List ℕ → List ℕ → List Record
paired zero ks vs us = []
paired (suc n) ks vs us = record_with (get_or ks 0 0) (get_or vs 0 0) (get_or us 0 0) ∷ paired n (drop 1 ks) (drop 1 vs) (drop 1 us)

-- the records of a page in memory
unfoldable pub records_of : Page → List Record
records_of p = paired p.count p.keys p.values p.runs

-- a record at its place, sought from the back, and b records at most
abbrev pub backed : ℕ → (ℕ → ℕ) → Record → List Record → List Record
backed b h y s = take b (opened (up_to_back (rank h) (rank h y) vacant s (length s)) y s)
