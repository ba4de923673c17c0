-- What is promised of two record sets together (02, request 9), for any records. What is quoted is the
-- request's.
use Rattle.std.specs.Prelude.{ℕ, ◌<◌, ◌≡◌, Bool, true, false, ◌↔◌}
use Rattle.std.proofs.Math.Option.{none, some}
use mathlib.Core.List.{List, [], ◌++◌, Permᴰ}
use Rattle.placing.specs.Image.{RecordSet, home_of, Image, Room}
use Rattle.placing.specs.Lay.{rank_in, sort, lay}
use Rattle.placing.specs.Walks.{or_else, seek}
use Rattle.two_sets.specs.Union.{union, lowest_clash}
use Rattle.two_sets.specs.OneByOne.{put_all, AllFit}

module _ {R : Type 0} (key : R → ℕ) (same : R → R → Bool) where
  -- two sets clash at a key: both hold it, with records that are not the same
  pub record ClashAt (xs ys : List R) (k : ℕ) : Type 0 where
    pub first : R
    pub second : R
    pub in_first : seek key k xs ≡ some first
    pub in_second : seek key k ys ≡ some second
    pub unlike : same first second ≡ false

  -- what two sets hold at a key, and is the same, is equal
  abbrev pub SameIs : (xs ys : List R) → Type 0
  SameIs xs ys = (k : ℕ) (x y : R) → seek key k xs ≡ some x → seek key k ys ≡ some y → same x y ≡ true → x ≡ y

  pub record UnionOf (xs ys : List R) : Type 0 where
    -- both together are a record set
    pub set : RecordSet key (union key xs ys)
    -- which holds at a key what the first holds there or, where that holds nothing, the second
    pub at : (k : ℕ) → seek key k (union key xs ys) ≡ or_else (seek key k xs) (seek key k ys)
    -- the two sets alone count, not the order in which their records are told
    pub sets_alone : {xs' ys' : List R} → Permᴰ xs xs' → Permᴰ ys ys' → Permᴰ (union key xs ys) (union key xs' ys')
    -- "13 with the lowest clashing key"; and none exactly where no key clashes
    pub clash : (k : ℕ) → (lowest_clash key same xs ys ≡ some k) ↔ (ClashAt xs ys k × ((j : ℕ) → j < k → ClashAt xs ys j → ⊥))
    pub no_clash : (lowest_clash key same xs ys ≡ none) ↔ ((k : ℕ) → ClashAt xs ys k → ⊥)
    -- told the other way round, they clash at the same key
    pub clash_turned : ((x y : R) → same x y ≡ same y x) → lowest_clash key same xs ys ≡ lowest_clash key same ys xs
    -- "Merging the first into the second or the second into the first gives, where both are accepted,
    -- the same record set": where no key clashes, and the same is what is equal
    pub turned : SameIs xs ys → lowest_clash key same xs ys ≡ none → Permᴰ (union key xs ys) (union key ys xs)

  pub record UnionPromises : Type 0 where
    pub of_sets : (xs ys : List R) → RecordSet key xs → RecordSet key ys → UnionOf xs ys
    -- an empty set adds nothing, and clashes with none
    pub empty : (xs : List R) → RecordSet key xs → (union key xs [] ≡ xs) × (lowest_clash key same xs [] ≡ none)

-- the records that a file lacks, put one by one in any order or laid anew with the others
module _ {R : Type 0} (key : R → ℕ) (h : ℕ → ℕ) (b : ℕ) where
  pub record OneByOnePromises : Type 0 where
    -- each is accepted exactly where all have room
    pub accepted : {n : ℕ} (xs s : List R) (ps : List (List R)) → RecordSet key (xs ++ s) → Image key h b n s ps → AllFit key h b xs ps ↔ Room key h b n (xs ++ s)
    -- and what they then leave is the one image of all
    pub same_pages : {n : ℕ} (xs s : List R) (ps : List (List R)) → RecordSet key (xs ++ s) → Image key h b n s ps → AllFit key h b xs ps
        → put_all key h b xs ps ≡ lay (home_of key h) b n 0 (sort (rank_in key h) (xs ++ s))
    -- room for some records is room for a part of them
    pub room_part : {n : ℕ} (xs s : List R) → RecordSet key (xs ++ s) → Room key h b n (xs ++ s) → Room key h b n s
