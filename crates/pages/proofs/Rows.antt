-- Rows that are opened at a place or closed over one.
use mathlib.Core.Path.{◌≡◌, refl, ap, ◌∙◌}
use mathlib.Core.List.{List, [], ◌∷◌, ◌++◌, map, append-nil}
use Prim.Native.Nat.{ℕ, zero, suc, ◌+◌, ◌≤◌, ◌<◌, min}
use native.Mathlib.Omega.{arith}
use lib.ListN.{length, take, drop, get_or, length-append, length-take, length-drop, drop_of_length-le}
use lib.Seq.{take_all}
use Rattle.placing.specs.Image.{All}
use Rattle.pages.specs.Places.{closed}
use Rattle.pages.specs.Steps.Slots.{opened}

module _ {A : Type 0} where
  -- a number of an element stands in the row of these numbers at the element's place
  pub row_at : (f : A → ℕ) (s : List A) (zs : List ℕ) (k : ℕ) (d : A) → k < length s → get_or (map f s ++ zs) k 0 ≡ f (get_or s k d)
  row_at f [] zs k d h = absurd (omega arith)
  row_at f (x ∷ s) zs zero d h = refl
  row_at f (x ∷ s) zs (suc k) d h = row_at f s zs k d (omega arith)

  -- a row opened has one element more
  pub opened-length : (at : ℕ) (x : A) (s : List A) → length (opened at x s) ≡ suc (length s)
  unfolding opened
  opened-length zero x s = refl
  opened-length (suc at) x [] = refl
  opened-length (suc at) x (y ∷ s) = ap suc (opened-length at x s)

  -- so of its first n there are as many as there is room for
  pub opened_count : (n at : ℕ) (x : A) (s : List A) → length (take n (opened at x s)) ≡ min n (length s + 1)
  opened_count n at x s = length-take n (opened at x s) ∙ omega (arith, opened-length at x s)

  -- a row closed over one of its places has one less
  pub closed-length : (at : ℕ) (s : List A) → at < length s → suc (length (closed at s)) ≡ length s
  unfolding closed
  closed-length at [] h = absurd (omega arith)
  closed-length zero (y ∷ s) h = refl
  closed-length (suc at) (y ∷ s) h = ap suc (closed-length at s (omega arith))

  -- closed over any place it has no more, and what held of all holds
  pub closed_few : (at : ℕ) (s : List A) → length (closed at s) ≤ length s
  unfolding closed
  closed_few at s = omega (arith, length-append (take at s) (drop (suc at) s), length-take at s, length-drop (suc at) s)

  pub all_closed : (P : A → Type 0) (at : ℕ) (s : List A) → All P s → All P (closed at s)
  unfolding closed
  all_closed P zero [] k = tt
  all_closed P zero (x ∷ s) k = k.1
  all_closed P (suc at) [] k = tt
  all_closed P (suc at) (x ∷ s) k = (k.0, all_closed P at s k.1)

  -- closed over a place behind it, it is as it was
  pub closed_past : (at : ℕ) (s : List A) → length s ≤ at → closed at s ≡ s
  unfolding closed
  closed_past at s h = rw (take_all at s h, drop_of_length-le s {i = suc at} (omega arith)) (append-nil s)

  -- what stands behind the place of an opened row
  pub opened_after : (at k : ℕ) (x d : A) (s : List A) → at ≤ k → at ≤ length s → get_or (opened at x s) (suc k) d ≡ get_or s k d
  unfolding opened
  opened_after zero k x d s h l = refl
  opened_after (suc at) k x d [] h l = absurd (omega arith)
  opened_after (suc at) zero x d (y ∷ s) h l = absurd (omega arith)
  opened_after (suc at) (suc k) x d (y ∷ s) h l = opened_after at k x d s (omega arith) (omega arith)

module _ {A B : Type 0} (f : A → B) where
  -- a map of the first n of a row
  pub map-take : (n : ℕ) (s : List A) → map f (take n s) ≡ take n (map f s)
  map-take zero s = refl
  map-take (suc n) [] = refl
  map-take (suc n) (y ∷ s) = ap (λ (l : List B). f y ∷ l) (map-take n s)
