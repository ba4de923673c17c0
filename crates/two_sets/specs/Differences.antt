-- What differs between two record sets (02, request 6), over any records: a key, and a test whether
-- two records of one key say the same of it. What is quoted is the request's.
use Rattle.std.specs.Prelude.{ℕ, Bool, true, false, cond, List, [], ◌∷◌, ◌++◌}
use Rattle.std.proofs.Math.Option.{Option, none, some}
use Rattle.placing.specs.Lay.{sort}
use Rattle.placing.specs.Walks.{seek}

-- "a record only in the first", "one only in the second", "a key in both with two values"
pub data Difference (R : Type 0) : Type 0 where
  only_first : R → Difference R
  only_second : R → Difference R
  unlike : R → R → Difference R

module _ {R : Type 0} where
  abbrev pub is_only_first : Difference R → Bool
  is_only_first (only_first x) = true
  is_only_first (only_second y) = false
  is_only_first (unlike x y) = false

  abbrev pub is_only_second : Difference R → Bool
  is_only_second (only_first x) = false
  is_only_second (only_second y) = true
  is_only_second (unlike x y) = false

  abbrev pub is_unlike : Difference R → Bool
  is_unlike (only_first x) = false
  is_unlike (only_second y) = false
  is_unlike (unlike x y) = true

  -- the same difference where the two sets are told the other way round
  abbrev pub turned : Difference R → Difference R
  turned (only_first x) = only_second x
  turned (only_second y) = only_first y
  turned (unlike x y) = unlike y x

module _ {R : Type 0} (key : R → ℕ) where
  abbrev pub key_of : Difference R → ℕ
  key_of (only_first x) = key x
  key_of (only_second y) = key y
  key_of (unlike x y) = key x

module _ {R : Type 0} (key : R → ℕ) (same : R → R → Bool) where
  -- what a record of the first set comes to, by what the second holds at its key
  abbrev pub of_first : R → Option R → List (Difference R)
  of_first x none = only_first x ∷ []
  of_first x (some y) = cond (same x y) [] (unlike x y ∷ [])

  -- and one of the second, by what the first holds
  abbrev pub of_second : R → Option R → List (Difference R)
  of_second y none = only_second y ∷ []
  of_second y (some x) = []

  abbrev pub firsts : (xs ys : List R) → List (Difference R)
  firsts [] ys = []
  firsts (x ∷ xs) ys = of_first x (seek key (key x) ys) ++ firsts xs ys

  abbrev pub seconds : (xs ys : List R) → List (Difference R)
  seconds xs [] = []
  seconds xs (y ∷ ys) = of_second y (seek key (key y) xs) ++ seconds xs ys

  -- "exactly the differences, rising by key"
  unfoldable pub differences : (xs ys : List R) → List (Difference R)
  differences xs ys = sort (key_of key) (firsts xs ys ++ seconds xs ys)

  -- what differs at one key, by what each set holds there: the list says this of every key
  -- (specs/Promises.antt)
  abbrev pub differ_at : Option R → Option R → Option (Difference R)
  differ_at none none = none
  differ_at (some x) none = some (only_first x)
  differ_at none (some y) = some (only_second y)
  differ_at (some x) (some y) = cond (same x y) none (some (unlike x y))
