-- The order after a growth: first the records whose homes are below the new page, as they stood, and
-- behind them the movers.
use mathlib.Core.Path.{◌≡◌, refl}
use mathlib.Core.Bool.{Bool, true, false, not}
use mathlib.Core.List.Permᴰ
use mathlib.Core.List.{List, [], ◌∷◌, ◌++◌, Permᴰ}
use Prim.Native.Nat.{ℕ, ◌≤◌, ◌<◌}
use native.Mathlib.Omega.{arith}
use lib.Dec.{ltb}
use borrow.Author.Tests.{ltb-true, ltb-false}
use Rattle.placing.specs.Image.{All, Distinct}
use Rattle.placing.specs.Lay.{sort, Sorted}
use Rattle.placing.proofs.Lists.{all_map, all_append}
use Rattle.placing.proofs.Order.{higher}
use Rattle.placing.proofs.Perms.{perm_all, sorted_unique, sort-perm, sort_sorted}
use Rattle.placing.specs.Steps.Keep.{keep}
use Rattle.placing.proofs.Keeping.{keep_distinct, keep_both, kept}

module _ {R : Type 0} (rank : R → ℕ) where
  -- a sorted list with another behind it that stands after it
  sorted_both : (s t : List R) → Sorted rank s → Sorted rank t → All (λ x. All (λ y. rank x < rank y) t) s → Sorted rank (s ++ t)
  sorted_both [] t h k l = k
  sorted_both (x ∷ s) t h k l = (all_append (λ y. rank x < rank y) s t h.0 l.0, sorted_both s t h.1 k l.1)

module _ {R : Type 0} (rank home : R → ℕ) (mono : (x y : R) → rank x ≤ rank y → home x ≤ home y) (P : ℕ) where
  -- a record stays where its home is below P
  abbrev pub stay : R → Bool
  stay x = ltb (home x) P

  abbrev pub move : R → Bool
  move x = not (ltb (home x) P)

  moves_high : (x : R) → move x ≡ true → P ≤ home x
  moves_high x e = go (ltb (home x) P) refl e
    where
      go : (u : Bool) → ltb (home x) P ≡ u → not u ≡ true → P ≤ home x
      go true f k = absurd (let z : ◌≡◌ {A = ℕ} 0 1 = cc in omega arith)
      go false f k = ltb-false (home x) P f

  apart : (s t : List R) → All (λ x. stay x ≡ true) s → All (λ x. P ≤ home x) t → All (λ x. All (λ y. rank x < rank y) t) s
  apart s t h k =
      all_map (λ x. stay x ≡ true) (λ x. All (λ y. rank x < rank y) t)
      (λ x e. all_map (λ y. P ≤ home y) (λ y. rank x < rank y) (λ y l. higher rank home mono x y (omega (arith, ltb-true (home x) P e))) t k) s h

  -- those that don't, sorted
  abbrev pub movers : List R → List R
  movers s = sort rank (keep move s)

  movers_high : (s : List R) → All (λ x. P ≤ home x) (movers s)
  movers_high s =
      perm_all (λ x. P ≤ home x) (Permᴰ.symm (sort-perm rank (keep move s)))
      (all_map (λ x. move x ≡ true) (λ x. P ≤ home x) moves_high (keep move s) (kept move s))

  -- if those that stay are sorted as they are
  pub split_sort : (s : List R) → Distinct rank s → Sorted rank (keep stay s) → sort rank s ≡ keep stay s ++ movers s
  split_sort s d h =
      sorted_unique rank (sort rank s) (keep stay s ++ movers s)
      (Permᴰ.trans (sort-perm rank s)
      (Permᴰ.trans (keep_both stay s) (Permᴰ.append_left (keep stay s) (Permᴰ.symm (sort-perm rank (keep move s))))))
      (sort_sorted rank s d)
      (sorted_both rank (keep stay s) (movers s) h (sort_sorted rank (keep move s) (keep_distinct move rank s d)) (apart (keep stay s) (movers s) (kept stay s) (movers_high s)))
