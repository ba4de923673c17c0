-- What is promised of the differences between two record sets (02, request 6), for any records. What
-- is quoted is the request's.
use Rattle.std.specs.Prelude.{ℕ, ◌≡◌, Bool, ◌↔◌}
use Rattle.std.proofs.Math.Option.{none}
use mathlib.Core.List.{List, [], map, Permᴰ}
use Rattle.placing.specs.Image.{Distinct}
use Rattle.placing.specs.Lay.{Sorted}
use Rattle.placing.specs.Walks.{seek}
use Rattle.two_sets.specs.Differences.{Difference, turned, key_of, differences, differ_at}

module _ {R : Type 0} (key : R → ℕ) (same : R → R → Bool) where
  -- of two sets in which no key stands twice
  pub record SetsPromises (xs ys : List R) : Type 0 where
    -- "exactly the differences": of every key the list says what differs there
    pub at : (k : ℕ) → seek (key_of key) k (differences key same xs ys) ≡ differ_at key same (seek key k xs) (seek key k ys)
    -- "rising by key"; so "Each difference stands once"
    pub rises : Sorted (key_of key) (differences key same xs ys)
    -- and no other list does both
    pub only : (ds : List (Difference R)) → Sorted (key_of key) ds → ((k : ℕ) → seek (key_of key) k ds ≡ differ_at key same (seek key k xs) (seek key k ys))
        → ds ≡ differences key same xs ys
    -- the two sets alone count, not the order in which their records are told
    pub sets_alone : {xs' ys' : List R} → Permᴰ xs xs' → Permᴰ ys ys' → differences key same xs ys ≡ differences key same xs' ys'
    -- "Equal files give the closing record alone", and no others do: it stands alone exactly where at
    -- no key anything differs
    pub empty : (differences key same xs ys ≡ []) ↔ ((k : ℕ) → differ_at key same (seek key k xs) (seek key k ys) ≡ none)
    -- told the other way round, each difference is turned
    pub turns : ((x y : R) → same x y ≡ same y x) → differences key same ys xs ≡ map turned (differences key same xs ys)

  pub record TwoSetsPromises : Type 0 where
    pub of_sets : (xs ys : List R) → Distinct key xs → Distinct key ys → SetsPromises xs ys
