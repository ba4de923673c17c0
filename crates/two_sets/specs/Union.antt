-- What two record sets hold together (02, request 9), over any records: a key, and a test whether two
-- records of one key are "the same in all fields". What is quoted is the request's.
use Rattle.std.specs.Prelude.{ℕ, Bool, List, [], ◌∷◌, ◌++◌}
use Rattle.std.proofs.Math.Option.{Option, none, some}
use Rattle.placing.specs.Walks.{seek, if_found}
use Rattle.two_sets.specs.Differences.{Difference, only_first, only_second, unlike, differences}

module _ {R : Type 0} (key : R → ℕ) where
  -- the records of ys whose key xs lacks
  abbrev pub missing : (xs ys : List R) → List R
  missing xs [] = []
  missing xs (y ∷ ys) = if_found (seek key (key y) xs) (missing xs ys) (y ∷ missing xs ys)

  -- "both record sets": "A record in both .. counts once"
  unfoldable pub union : (xs ys : List R) → List R
  union xs ys = missing xs ys ++ xs

  -- the key of the first clash in a list of differences
  abbrev pub first_clash : List (Difference R) → Option ℕ
  first_clash [] = none
  first_clash (only_first x ∷ ds) = first_clash ds
  first_clash (only_second y ∷ ds) = first_clash ds
  first_clash (unlike x y ∷ ds) = some (key x)

  -- "the lowest clashing key": the differences rise by key
  unfoldable pub lowest_clash : (R → R → Bool) → (xs ys : List R) → Option ℕ
  lowest_clash same xs ys = first_clash (differences key same xs ys)
