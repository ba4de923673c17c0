-- The rules of a page's records as the relations of placing.
use mathlib.Core.Path.{◌≡◌, refl}
use mathlib.Core.Bool.{true}
use mathlib.Core.List.{List, [], ◌∷◌}
use Prim.Native.Nat.{ℕ, ◌≤◌, ◌<◌}
use lib.Dec.{leb, ltb}
use borrow.Author.Tests.{leb-true, ltb-true, le-leb, lt-ltb}
use Rattle.numbers.proofs.Records.{and_left, and_right}
use Rattle.placing.specs.Image.{All, home_of}
use Rattle.placing.specs.Lay.{rank_in, Sorted}
use Rattle.placing.proofs.Order.{lower}
use Rattle.pages.specs.Page.{Record, key, rank, homes_to, rises}

module _ (h : ℕ → ℕ) where
  -- homes at an address or lower
  pub homes_all : (a : ℕ) (rs : List Record) → homes_to h a rs ≡ true → All (λ x. home_of key h x ≤ a) rs
  homes_all a [] e = tt
  homes_all a (x ∷ rs) e = (
    leb-true (h (key x)) a (and_left (leb (h (key x)) a) (homes_to h a rs) e),
    homes_all a rs (and_right (leb (h (key x)) a) (homes_to h a rs) e),
  )

  pub all_homes : (a : ℕ) (rs : List Record) → All (λ x. home_of key h x ≤ a) rs → homes_to h a rs ≡ true
  all_homes a [] k = refl
  all_homes a (x ∷ rs) k = rw (le-leb (h (key x)) a k.0) (all_homes a rs k.1)

  -- each before the next is each before all that follow
  pub rises_sorted : (rs : List Record) → rises h rs ≡ true → Sorted (rank_in key h) rs
  rises_sorted [] e = tt
  rises_sorted (x ∷ []) e = (tt, tt)
  rises_sorted (x ∷ (y ∷ rs)) e =
      let first : rank h x < rank h y = ltb-true (rank h x) (rank h y) (and_left (ltb (rank h x) (rank h y)) (rises h (y ∷ rs)) e) in
      let rest : Sorted (rank_in key h) (y ∷ rs) = rises_sorted (y ∷ rs) (and_right (ltb (rank h x) (rank h y)) (rises h (y ∷ rs)) e) in
      (lower (rank_in key h) (rank h x) y rs rest first, rest)

  pub sorted_rises : (rs : List Record) → Sorted (rank_in key h) rs → rises h rs ≡ true
  sorted_rises [] k = refl
  sorted_rises (x ∷ []) k = refl
  sorted_rises (x ∷ (y ∷ rs)) k = rw (lt-ltb (rank h x) (rank h y) k.0.0) (sorted_rises (y ∷ rs) k.1)
