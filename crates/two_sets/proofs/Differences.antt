-- The list of differences is set by the two record sets, and says at each key what differs there.
use mathlib.Core.Path.{◌≡◌, refl, sym, ◌∙◌}
use mathlib.Core.Bool.{Bool, true, false, cond}
use mathlib.Core.Logic.{◌↔◌}
use mathlib.Core.Option.{Option, none, some}
use mathlib.Core.List.Permᴰ
use mathlib.Core.List.{List, [], ◌∷◌, ◌++◌, Permᴰ}
use Prim.Native.Nat.{ℕ}
use lib.Dec.{eqb}
use borrow.Author.Tests.{eqb-true, eqb-false, eq-eqb}
use Rattle.placing.specs.Image.{All, Distinct}
use Rattle.placing.specs.Lay.{Sorted}
use Rattle.placing.specs.Walks.{or_else, seek}
use Rattle.placing.proofs.Lists.{all_append}
use Rattle.placing.proofs.Seek.{clash, seek-append, seek_ne, ne_seek}
use Rattle.placing.proofs.Seek as Seeks
use Rattle.placing.proofs.Perms.{perm_all, perm-seek, perm_distinct, sort-perm, sort_sorted}
use Rattle.two_sets.specs.Differences.{Difference, only_first, only_second, unlike, turned, key_of, of_first, of_second, firsts, seconds, differences, differ_at}

-- what is found has the key that was sought
pub seek_is : {R : Type 0} (key : R → ℕ) (k : ℕ) (s : List R) (x : R) → seek key k s ≡ some x → key x ≡ k
seek_is key k [] x e = absurd (clash e)
seek_is key k (y ∷ s) x e = go (eqb (key y) k) refl e (seek_is key k s x)
  where
    go : (u : Bool) → eqb (key y) k ≡ u → cond u (some y) (seek key k s) ≡ some x → (seek key k s ≡ some x → key x ≡ k) → key x ≡ k
    go true q f ih = let z : y ≡ x = cc in rw (← z) (eqb-true (key y) k q)
    go false q f ih = ih f

-- no two of both parts have the same key where none of one part has that of one of the other
pub distinct_append : {R : Type 0} (key : R → ℕ) (s t : List R) → Distinct key s → Distinct key t → All (λ x. All (λ y. key y ≡ key x → ⊥) t) s → Distinct key (s ++ t)
distinct_append key [] t d e f = e
distinct_append key (x ∷ s) t d e f = (all_append (λ y. key y ≡ key x → ⊥) s t d.0 f.0, distinct_append key s t d.1 e f.1)

module _ {R : Type 0} (key : R → ℕ) (same : R → R → Bool) where
  abbrev D : Type 0
  D = Difference R

  -- what a record comes to has its key
  of_first_lem : (P : ℕ → Type 0) (x : R) (o : Option R) → P (key x) → All (λ d. P (key_of key d)) (of_first key same x o)
  of_first_lem P x none h = (h, tt)
  of_first_lem P x (some y) h = go (same x y)
    where
      go : (u : Bool) → All (λ d. P (key_of key d)) (cond u [] (unlike x y ∷ []))
      go true = tt
      go false = (h, tt)

  of_second_lem : (P : ℕ → Type 0) (y : R) (o : Option R) → P (key y) → All (λ d. P (key_of key d)) (of_second key same y o)
  of_second_lem P y none h = (h, tt)
  of_second_lem P y (some x) h = tt

  -- so what holds of all keys of a set holds of those of its differences
  pub firsts_all : (P : ℕ → Type 0) (xs ys : List R) → All (λ x. P (key x)) xs → All (λ d. P (key_of key d)) (firsts key same xs ys)
  firsts_all P [] ys h = tt
  firsts_all P (x ∷ xs) ys h =
      all_append (λ d. P (key_of key d)) (of_first key same x (seek key (key x) ys)) (firsts key same xs ys) (of_first_lem P x (seek key (key x) ys) h.0) (firsts_all P xs ys h.1)

  pub seconds_all : (P : ℕ → Type 0) (xs ys : List R) → All (λ y. P (key y)) ys → All (λ d. P (key_of key d)) (seconds key same xs ys)
  seconds_all P xs [] h = tt
  seconds_all P xs (y ∷ ys) h =
      all_append (λ d. P (key_of key d)) (of_second key same y (seek key (key y) xs)) (seconds key same xs ys) (of_second_lem P y (seek key (key y) xs) h.0) (seconds_all P xs ys h.1)

  -- one record's differences are one at most
  first_once : (x : R) (o : Option R) → Distinct (key_of key) (of_first key same x o)
  first_once x none = (tt, tt)
  first_once x (some y) = go (same x y)
    where
      go : (u : Bool) → Distinct (key_of key) (cond u [] (unlike x y ∷ []))
      go true = tt
      go false = (tt, tt)

  second_once : (y : R) (o : Option R) → Distinct (key_of key) (of_second key same y o)
  second_once y none = (tt, tt)
  second_once y (some x) = tt

  -- "Each difference stands once": each key does
  firsts_once : (xs ys : List R) → Distinct key xs → Distinct (key_of key) (firsts key same xs ys)
  firsts_once [] ys d = tt
  firsts_once (x ∷ xs) ys d =
      distinct_append (key_of key) (of_first key same x (seek key (key x) ys)) (firsts key same xs ys)
      (first_once x (seek key (key x) ys)) (firsts_once xs ys d.1)
      (of_first_lem (λ k. All (λ w. key_of key w ≡ k → ⊥) (firsts key same xs ys)) x (seek key (key x) ys) (firsts_all (λ k. k ≡ key x → ⊥) xs ys d.0))

  seconds_once : (xs ys : List R) → Distinct key ys → Distinct (key_of key) (seconds key same xs ys)
  seconds_once xs [] d = tt
  seconds_once xs (y ∷ ys) d =
      distinct_append (key_of key) (of_second key same y (seek key (key y) xs)) (seconds key same xs ys)
      (second_once y (seek key (key y) xs)) (seconds_once xs ys d.1)
      (of_second_lem (λ k. All (λ w. key_of key w ≡ k → ⊥) (seconds key same xs ys)) y (seek key (key y) xs) (seconds_all (λ k. k ≡ key y → ⊥) xs ys d.0))

  -- the second's differences have keys that the first lacks
  seconds_new : (xs ys : List R) → All (λ d. seek key (key_of key d) xs ≡ none) (seconds key same xs ys)
  seconds_new xs [] = tt
  seconds_new xs (y ∷ ys) = all_append (λ d. seek key (key_of key d) xs ≡ none) (of_second key same y (seek key (key y) xs)) (seconds key same xs ys) (new (seek key (key y) xs) refl) (seconds_new xs ys)
    where
      new : (o : Option R) → seek key (key y) xs ≡ o → All (λ d. seek key (key_of key d) xs ≡ none) (of_second key same y o)
      new none e = (e, tt)
      new (some x) e = tt

  apart : (xs : List R) (ds : List D) → All (λ d. seek key (key_of key d) xs ≡ none) ds → All (λ x. All (λ d. key_of key d ≡ key x → ⊥) ds) xs
  apart xs [] h = nothing xs
    where
      nothing : (s : List R) → All (λ x. Unit {0}) s
      nothing [] = tt
      nothing (x ∷ s) = (tt, nothing s)
  apart xs (d ∷ ds) h = both xs (seek_ne key (key_of key d) xs h.0) (apart xs ds h.1)
    where
      both : (s : List R) → All (λ x. key x ≡ key_of key d → ⊥) s → All (λ x. All (λ w. key_of key w ≡ key x → ⊥) ds) s → All (λ x. All (λ w. key_of key w ≡ key x → ⊥) (d ∷ ds)) s
      both [] f g = tt
      both (x ∷ s) f g = (((λ e. f.0 (sym e)), g.0), both s f.1 g.1)

  pub each_once : (xs ys : List R) → Distinct key xs → Distinct key ys → Distinct (key_of key) (firsts key same xs ys ++ seconds key same xs ys)
  each_once xs ys d e =
      distinct_append (key_of key) (firsts key same xs ys) (seconds key same xs ys) (firsts_once xs ys d) (seconds_once xs ys e)
      (firsts_all (λ k. All (λ w. key_of key w ≡ k → ⊥) (seconds key same xs ys)) xs ys (apart xs (seconds key same xs ys) (seconds_new xs ys)))

  -- "rising by key"
  pub differences_rise : (xs ys : List R) → Distinct key xs → Distinct key ys → Sorted (key_of key) (differences key same xs ys)
  unfolding differences
  differences_rise xs ys d e = sort_sorted (key_of key) (firsts key same xs ys ++ seconds key same xs ys) (each_once xs ys d e)

  -- what is found at a key among one record's differences
  abbrev first_at : Option R → Option R → Option D
  first_at none o = none
  first_at (some x) none = some (only_first x)
  first_at (some x) (some y) = cond (same x y) none (some (unlike x y))

  abbrev second_at : Option R → Option R → Option D
  second_at o none = none
  second_at none (some y) = some (only_second y)
  second_at (some x) (some y) = none

  of_first_here : (x : R) (o : Option R) → seek (key_of key) (key x) (of_first key same x o) ≡ first_at (some x) o
  of_first_here x none = rw (eq-eqb (key x) (key x) refl)
  of_first_here x (some y) = go (same x y)
    where
      go : (u : Bool) → seek (key_of key) (key x) (cond u [] (unlike x y ∷ [])) ≡ cond u none (some (unlike x y))
      go true = refl
      go false = rw (eq-eqb (key x) (key x) refl)

  of_second_here : (y : R) (o : Option R) → seek (key_of key) (key y) (of_second key same y o) ≡ second_at o (some y)
  of_second_here y none = rw (eq-eqb (key y) (key y) refl)
  of_second_here y (some x) = refl

  or_none : {A : Type 0} (o : Option A) → or_else o none ≡ o
  or_none none = refl
  or_none (some x) = refl

  firsts_at : (k : ℕ) (xs ys : List R) → Distinct key xs → seek (key_of key) k (firsts key same xs ys) ≡ first_at (seek key k xs) (seek key k ys)
  firsts_at k [] ys d = refl
  firsts_at k (x ∷ xs) ys d =
      seek-append (key_of key) k (of_first key same x (seek key (key x) ys)) (firsts key same xs ys) ∙ go (eqb (key x) k) refl (firsts_at k xs ys d.1)
    where
      go : (u : Bool) → eqb (key x) k ≡ u → seek (key_of key) k (firsts key same xs ys) ≡ first_at (seek key k xs) (seek key k ys)
          → or_else (seek (key_of key) k (of_first key same x (seek key (key x) ys))) (seek (key_of key) k (firsts key same xs ys)) ≡ first_at (cond u (some x) (seek key k xs)) (seek key k ys)
      go true e ih =
          let q : key x ≡ k = eqb-true (key x) k e in
          let gone : seek (key_of key) (key x) (firsts key same xs ys) ≡ none = ne_seek (key_of key) (key x) (firsts key same xs ys) (firsts_all (λ j. j ≡ key x → ⊥) xs ys d.0) in
          rw (← q, gone, of_first_here x (seek key (key x) ys)) (or_none (first_at (some x) (seek key (key x) ys)))
      go false e ih =
          rw (ne_seek (key_of key) k (of_first key same x (seek key (key x) ys)) (of_first_lem (λ j. j ≡ k → ⊥) x (seek key (key x) ys) (eqb-false (key x) k e))) ih

  seconds_at : (k : ℕ) (xs ys : List R) → Distinct key ys → seek (key_of key) k (seconds key same xs ys) ≡ second_at (seek key k xs) (seek key k ys)
  seconds_at k xs [] d = refl
  seconds_at k xs (y ∷ ys) d =
      seek-append (key_of key) k (of_second key same y (seek key (key y) xs)) (seconds key same xs ys) ∙ go (eqb (key y) k) refl (seconds_at k xs ys d.1)
    where
      go : (u : Bool) → eqb (key y) k ≡ u → seek (key_of key) k (seconds key same xs ys) ≡ second_at (seek key k xs) (seek key k ys)
          → or_else (seek (key_of key) k (of_second key same y (seek key (key y) xs))) (seek (key_of key) k (seconds key same xs ys)) ≡ second_at (seek key k xs) (cond u (some y) (seek key k ys))
      go true e ih =
          let q : key y ≡ k = eqb-true (key y) k e in
          let gone : seek (key_of key) (key y) (seconds key same xs ys) ≡ none = ne_seek (key_of key) (key y) (seconds key same xs ys) (seconds_all (λ j. j ≡ key y → ⊥) xs ys d.0) in
          rw (← q, gone, of_second_here y (seek key (key y) xs)) (or_none (second_at (seek key (key y) xs) (some y)))
      go false e ih =
          rw (ne_seek (key_of key) k (of_second key same y (seek key (key y) xs)) (of_second_lem (λ j. j ≡ k → ⊥) y (seek key (key y) xs) (eqb-false (key y) k e))) ih

  at_both : (o p : Option R) → or_else (first_at o p) (second_at o p) ≡ differ_at key same o p
  at_both none none = refl
  at_both none (some y) = refl
  at_both (some x) none = refl
  at_both (some x) (some y) = or_none (cond (same x y) none (some (unlike x y)))

  -- the list says at each key what differs there
  pub differences_at : (xs ys : List R) → Distinct key xs → Distinct key ys → (k : ℕ) → seek (key_of key) k (differences key same xs ys) ≡ differ_at key same (seek key k xs) (seek key k ys)
  unfolding differences
  differences_at xs ys d e k =
      let ds : List D = firsts key same xs ys ++ seconds key same xs ys in
      perm-seek (key_of key) k (sort-perm (key_of key) ds) (perm_distinct (key_of key) (Permᴰ.symm (sort-perm (key_of key) ds)) (each_once xs ys d e))
      ∙ seek-append (key_of key) k (firsts key same xs ys) (seconds key same xs ys)
      ∙ rw (firsts_at k xs ys d, seconds_at k xs ys e) (at_both (seek key k xs) (seek key k ys))

  -- and no other list in order of key does
  pub only_list : (xs ys : List R) (ds : List D) → Distinct key xs → Distinct key ys → Sorted (key_of key) ds → ((k : ℕ) → seek (key_of key) k ds ≡ differ_at key same (seek key k xs) (seek key k ys))
      → ds ≡ differences key same xs ys
  only_list xs ys ds d e s f = Seeks.same (key_of key) ds (differences key same xs ys) s (differences_rise xs ys d e) (λ k. f k ∙ sym (differences_at xs ys d e k))

  -- so it is set by the two sets, in whatever order they are told
  pub same_list : {xs xs' ys ys' : List R} → Permᴰ xs xs' → Permᴰ ys ys' → Distinct key xs → Distinct key ys → differences key same xs ys ≡ differences key same xs' ys'
  same_list {xs} {xs'} {ys} {ys'} p q d e =
      only_list xs' ys' (differences key same xs ys) (perm_distinct key p d) (perm_distinct key q e) (differences_rise xs ys d e)
      (λ k. differences_at xs ys d e k ∙ rw (perm-seek key k p d, perm-seek key k q e))

  -- it is empty where at no key anything differs, and nowhere else
  pub empty : (xs ys : List R) → Distinct key xs → Distinct key ys → (differences key same xs ys ≡ []) ↔ ((k : ℕ) → differ_at key same (seek key k xs) (seek key k ys) ≡ none)
  empty xs ys d e = (λ z k. sym (differences_at xs ys d e k) ∙ rw z, λ f. sym (only_list xs ys [] d e tt (λ k. sym (f k))))

  -- turned, each is of the same key
  keeps_first : (x : R) (o : Option R) → ((y : R) → o ≡ some y → key y ≡ key x) → All (λ d. key_of key (turned d) ≡ key_of key d) (of_first key same x o)
  keeps_first x none h = (refl, tt)
  keeps_first x (some y) h = go (same x y)
    where
      go : (u : Bool) → All (λ d. key_of key (turned d) ≡ key_of key d) (cond u [] (unlike x y ∷ []))
      go true = tt
      go false = (h y refl, tt)

  keeps_firsts : (xs ys : List R) → All (λ d. key_of key (turned d) ≡ key_of key d) (firsts key same xs ys)
  keeps_firsts [] ys = tt
  keeps_firsts (x ∷ xs) ys =
      all_append (λ d. key_of key (turned d) ≡ key_of key d) (of_first key same x (seek key (key x) ys)) (firsts key same xs ys)
      (keeps_first x (seek key (key x) ys) (λ y e. seek_is key (key x) ys y e)) (keeps_firsts xs ys)

  keeps_second : (y : R) (o : Option R) → All (λ d. key_of key (turned d) ≡ key_of key d) (of_second key same y o)
  keeps_second y none = (refl, tt)
  keeps_second y (some x) = tt

  keeps_seconds : (xs ys : List R) → All (λ d. key_of key (turned d) ≡ key_of key d) (seconds key same xs ys)
  keeps_seconds xs [] = tt
  keeps_seconds xs (y ∷ ys) =
      all_append (λ d. key_of key (turned d) ≡ key_of key d) (of_second key same y (seek key (key y) xs)) (seconds key same xs ys)
      (keeps_second y (seek key (key y) xs)) (keeps_seconds xs ys)

  pub differences_keys : (xs ys : List R) → All (λ d. key_of key (turned d) ≡ key_of key d) (differences key same xs ys)
  unfolding differences
  differences_keys xs ys =
      let ds : List D = firsts key same xs ys ++ seconds key same xs ys in
      perm_all (λ d. key_of key (turned d) ≡ key_of key d) (Permᴰ.symm (sort-perm (key_of key) ds))
      (all_append (λ d. key_of key (turned d) ≡ key_of key d) (firsts key same xs ys) (seconds key same xs ys) (keeps_firsts xs ys) (keeps_seconds xs ys))
