-- Places among sorted records: where a record goes, and where one is taken out, over any rank.
use mathlib.Core.Path.{◌≡◌, refl, sym, ap, ◌∙◌}
use mathlib.Core.Bool.{Bool, true, false, cond}
use mathlib.Core.Option.{none}
use mathlib.Core.List.{List, [], ◌∷◌}
use Prim.Native.Nat.{ℕ, zero, suc, ◌≤◌, ◌<◌, min}
use native.Mathlib.Omega.{arith}
use lib.Dec.{leb, ltb, leb-suc-suc}
use lib.ListN.{length, get_or}
use borrow.Author.Tests.{leb-true, leb-false, ltb-true, ltb-false, lt-ltb, le-ltb}
use Rattle.placing.specs.Image.{All}
use Rattle.placing.specs.Lay.{ins, Sorted}
use Rattle.placing.specs.Walks.{seek, last_after}
use Rattle.placing.proofs.Lists.{all_map}
use Rattle.placing.proofs.Seek.{seek_ne}
use Rattle.pages.specs.Places.{ahead}
use Rattle.pages.specs.Steps.Slots.{opened, up_to_back}

pub all_at : {R : Type 0} (P : R → Type 0) (n : ℕ) (s : List R) (d : R) → n < length s → All P s → P (get_or s n d)
all_at P n [] d l h = absurd (omega arith)
all_at P zero (x ∷ s) d l h = h.0
all_at P (suc n) (x ∷ s) d l h = all_at P n s d (omega arith) h.1

module _ {R : Type 0} (rank : R → ℕ) where
  -- a record goes to the place behind those that stand before it
  pub ins-opened : (x : R) (s : List R) → ins rank x s ≡ opened (ahead rank (rank x) s) x s
  unfolding opened
  ins-opened x [] = refl
  ins-opened x (y ∷ s) = go (leb (rank x) (rank y)) (ins-opened x s)
    where
      go : (u : Bool) → ins rank x s ≡ opened (ahead rank (rank x) s) x s
          → cond u (x ∷ (y ∷ s)) (y ∷ ins rank x s) ≡ opened (cond u 0 (suc (ahead rank (rank x) s))) x (y ∷ s)
      go true ih = refl
      go false ih = ap (λ (t : List R). y ∷ t) ih

  pub ahead-le : (r : ℕ) (s : List R) → ahead rank r s ≤ length s
  ahead-le r [] = omega arith
  ahead-le r (y ∷ s) = go (leb r (rank y)) (ahead-le r s)
    where
      go : (u : Bool) → ahead rank r s ≤ length s → cond u 0 (suc (ahead rank r s)) ≤ suc (length s)
      go true ih = omega arith
      go false ih = omega arith

  -- one of sorted records is counted exactly where it stands before r
  pub ahead_test : (r : ℕ) (d : R) (s : List R) (n : ℕ) → Sorted rank s → n < length s → ltb (rank (get_or s n d)) r ≡ ltb n (ahead rank r s)
  ahead_test r d [] n h l = absurd (omega arith)
  ahead_test r d (y ∷ s) zero h l = go (leb r (rank y)) refl
    where
      go : (u : Bool) → leb r (rank y) ≡ u → ltb (rank y) r ≡ ltb 0 (cond u 0 (suc (ahead rank r s)))
      go true e = le-ltb (rank y) r (leb-true r (rank y) e)
      go false e = lt-ltb (rank y) r (leb-false r (rank y) e) ∙ sym (lt-ltb 0 (suc (ahead rank r s)) (omega arith))
  ahead_test r d (y ∷ s) (suc n) h l = go (leb r (rank y)) refl (ahead_test r d s n h.1 (omega arith))
    where
      go : (u : Bool) → leb r (rank y) ≡ u → ltb (rank (get_or s n d)) r ≡ ltb n (ahead rank r s)
          → ltb (rank (get_or s n d)) r ≡ ltb (suc n) (cond u 0 (suc (ahead rank r s)))
      go true e ih =
          le-ltb (rank (get_or s n d)) r
          (omega (arith, leb-true r (rank y) e, all_at (λ w. rank y < rank w) n s d (omega arith) h.0))
          ∙ sym (le-ltb (suc n) 0 (omega arith))
      go false e ih = ih ∙ sym (leb-suc-suc (suc n) (ahead rank r s))

  up_to : (r : ℕ) (d : R) (s : List R) → Sorted rank s → (n : ℕ) → n ≤ length s → up_to_back rank r d s n ≡ min n (ahead rank r s)
  up_to r d s h zero l = omega arith
  up_to r d s h (suc n) l = rw (ahead_test r d s n h l) (go (ltb n (ahead rank r s)) refl (up_to r d s h n (omega arith)))
    where
      go : (u : Bool) → ltb n (ahead rank r s) ≡ u → up_to_back rank r d s n ≡ min n (ahead rank r s)
          → cond u (suc n) (up_to_back rank r d s n) ≡ min (suc n) (ahead rank r s)
      go true e ih = omega (arith, ltb-true)
      go false e ih = omega (arith, ltb-false)

  -- from the back the same place is found
  pub back_ahead : (r : ℕ) (d : R) (s : List R) → Sorted rank s → up_to_back rank r d s (length s) ≡ ahead rank r s
  back_ahead r d s h = omega (arith, up_to r d s h (length s) (omega arith), ahead-le r s)

  -- where all are counted, all stand before r
  pub ahead_every : (r : ℕ) (s : List R) → length s ≤ ahead rank r s → All (λ y. rank y < r) s
  ahead_every r [] l = tt
  ahead_every r (y ∷ s) l = go (leb r (rank y)) refl l (ahead_every r s)
    where
      go : (u : Bool) → leb r (rank y) ≡ u → suc (length s) ≤ cond u 0 (suc (ahead rank r s)) → (length s ≤ ahead rank r s → All (λ w. rank w < r) s)
          → All (λ w. rank w < r) (y ∷ s)
      go true e m ih = absurd (omega arith)
      go false e m ih = (leb-false r (rank y) e, ih (omega arith))

  -- and then none is passed over from the back
  pub back_every : (r : ℕ) (d : R) (s : List R) → All (λ y. rank y < r) s → (n : ℕ) → n ≤ length s → up_to_back rank r d s n ≡ n
  back_every r d s h zero l = refl
  back_every r d s h (suc n) l = rw (lt-ltb (rank (get_or s n d)) r (all_at (λ y. rank y < r) n s d l h))

  -- the place from the back is one among the records
  pub back_le : (r : ℕ) (d : R) (s : List R) (n : ℕ) → up_to_back rank r d s n ≤ n
  back_le r d s zero = omega arith
  back_le r d s (suc n) = go (ltb (rank (get_or s n d)) r) (back_le r d s n)
    where
      go : (u : Bool) → up_to_back rank r d s n ≤ n → cond u (suc n) (up_to_back rank r d s n) ≤ suc n
      go true ih = omega arith
      go false ih = omega arith

  last_high : (r : ℕ) (y : R) (s : List R) → All (λ w. r < rank w) (y ∷ s) → last_after rank r (y ∷ s) ≡ true
  last_high r y [] h = lt-ltb r (rank y) h.0
  last_high r y (w ∷ s) h = last_high r w s h.1

  ahead_last : (r : ℕ) (s : List R) → Sorted rank s → All (λ y. rank y ≡ r → ⊥) s → ltb (ahead rank r s) (length s) ≡ last_after rank r s
  ahead_last r [] h k = refl
  ahead_last r (y ∷ []) h k = go (leb r (rank y)) refl
    where
      go : (u : Bool) → leb r (rank y) ≡ u → ltb (cond u 0 1) 1 ≡ ltb r (rank y)
      go true e = sym (lt-ltb r (rank y) (omega (arith, leb-true, k.0)))
      go false e = sym (le-ltb r (rank y) (omega (arith, leb-false)))
  ahead_last r (y ∷ (w ∷ s)) h k = go (leb r (rank y)) refl (ahead_last r (w ∷ s) h.1 k.1)
    where
      go : (u : Bool) → leb r (rank y) ≡ u → ltb (ahead rank r (w ∷ s)) (length (w ∷ s)) ≡ last_after rank r (w ∷ s)
          → ltb (cond u 0 (suc (ahead rank r (w ∷ s)))) (suc (length (w ∷ s))) ≡ last_after rank r (w ∷ s)
      go true e ih =
          let l : r ≤ rank y = leb-true r (rank y) e in
          lt-ltb 0 (suc (length (w ∷ s))) (omega arith)
          ∙ sym (last_high r w s (all_map (λ v. rank y < rank v) (λ v. r < rank v) (λ v j. omega arith) (w ∷ s) h.0))
      go false e ih = leb-suc-suc (suc (ahead rank r (w ∷ s))) (length (w ∷ s)) ∙ ih

  -- where r is not found, some do not stand before it exactly where the last stands after it
  pub ahead_all : (r : ℕ) (s : List R) → Sorted rank s → seek rank r s ≡ none → ltb (ahead rank r s) (length s) ≡ last_after rank r s
  ahead_all r s h e = ahead_last r s h (seek_ne rank r s e)
