-- Two sets told the other way round: each difference is turned.
use mathlib.Core.Path.{◌≡◌, refl, sym, ap, ◌∙◌}
use mathlib.Core.Bool.{Bool, true, false, cond}
use mathlib.Core.Option
use mathlib.Core.Option.{Option, none, some}
use mathlib.Core.List.{List, [], ◌∷◌, map}
use Prim.Native.Nat.{ℕ, ◌<◌}
use lib.Dec.{eqb}
use Rattle.placing.specs.Image.{All, Distinct}
use Rattle.placing.specs.Lay.{Sorted}
use Rattle.placing.specs.Walks.{seek}
use Rattle.two_sets.specs.Differences.{Difference, unlike, turned, key_of, differences, differ_at}
use Rattle.two_sets.proofs.Differences.{differences_at, differences_rise, differences_keys, only_list}

module _ {R : Type 0} (key : R → ℕ) where
  abbrev D : Type 0
  D = Difference R

  -- turned, a difference is of the same key
  abbrev Keeps : D → Type 0
  Keeps d = key_of key (turned d) ≡ key_of key d

  above : (k : ℕ) (ds : List D) → All Keeps ds → All (λ d. k < key_of key d) ds → All (λ d. k < key_of key d) (map turned ds)
  above k [] h a = tt
  above k (d ∷ ds) h a = (rw h.0 a.0, above k ds h.1 a.1)

  turned_sorted : (ds : List D) → All Keeps ds → Sorted (key_of key) ds → Sorted (key_of key) (map turned ds)
  turned_sorted [] h s = tt
  turned_sorted (d ∷ ds) h s = (rw h.0 (above (key_of key d) ds h.1 s.0), turned_sorted ds h.1 s.1)

  turned-seek : (k : ℕ) (ds : List D) → All Keeps ds → seek (key_of key) k (map turned ds) ≡ Option.map turned (seek (key_of key) k ds)
  turned-seek k [] h = refl
  turned-seek k (d ∷ ds) h = rw h.0 (go (eqb (key_of key d) k) (turned-seek k ds h.1))
    where
      go : (u : Bool) → seek (key_of key) k (map turned ds) ≡ Option.map turned (seek (key_of key) k ds)
          → cond u (some (turned d)) (seek (key_of key) k (map turned ds)) ≡ Option.map turned (cond u (some d) (seek (key_of key) k ds))
      go true ih = refl
      go false ih = ih

  module _ (same : R → R → Bool) (sides : (x y : R) → same x y ≡ same y x) where
    turned_at : (o p : Option R) → Option.map turned (differ_at key same o p) ≡ differ_at key same p o
    turned_at none none = refl
    turned_at none (some y) = refl
    turned_at (some x) none = refl
    turned_at (some x) (some y) = rw (sides x y) (go (same y x))
      where
        go : (u : Bool) → Option.map turned (cond u none (some (unlike x y))) ≡ cond u none (some (unlike y x))
        go true = refl
        go false = refl

    pub turns : (xs ys : List R) → Distinct key xs → Distinct key ys → differences key same ys xs ≡ map turned (differences key same xs ys)
    turns xs ys d e =
        let ds : List D = differences key same xs ys in
        let keep : All Keeps ds = differences_keys key same xs ys in
        sym (only_list key same ys xs (map turned ds) e d (turned_sorted ds keep (differences_rise key same xs ys d e))
        (λ k. turned-seek k ds keep ∙ ap (Option.map turned) (differences_at key same xs ys d e k) ∙ turned_at (seek key k xs) (seek key k ys)))
