-- The lowest clash of two sets is the first in the list of differences, and the same both ways.
use mathlib.Core.Path.{◌≡◌, refl, sym, ap, ◌∙◌}
use mathlib.Core.Bool.{Bool, true, false, cond, false≢true}
use mathlib.Core.Logic.{◌↔◌}
use mathlib.Core.Option.{Option, none, some}
use mathlib.Core.List.{List, [], ◌∷◌}
use Prim.Native.Nat.{ℕ, ◌<◌}
use native.Mathlib.Omega.{arith}
use lib.Dec.{eqb, ltb}
use borrow.Author.Tests.{eqb-true, eq-eqb, ne_eqb, ltb-true, ltb-false}
use Rattle.placing.specs.Image.{Distinct}
use Rattle.placing.specs.Lay.{Sorted}
use Rattle.placing.specs.Walks.{seek}
use Rattle.placing.proofs.Lists.{all_map}
use Rattle.placing.proofs.Seek.{clash, seek_high}
use Rattle.two_sets.specs.Differences.{Difference, only_first, only_second, unlike, key_of, differences, differ_at}
use Rattle.two_sets.specs.Union.{first_clash, lowest_clash}
use Rattle.two_sets.specs.UnionPromises.{ClashAt, SameIs}
use Rattle.two_sets.proofs.Differences.{differences_rise, differences_at}

module _ {R : Type 0} (key : R → ℕ) where
  abbrev D : Type 0
  D = Difference R

  -- whether a difference is a clash
  abbrev is_clash : Option D → Bool
  is_clash none = false
  is_clash (some (only_first x)) = false
  is_clash (some (only_second y)) = false
  is_clash (some (unlike x y)) = true

  -- a difference that is no clash hides none
  passed : (d : D) → is_clash (some d) ≡ false → (k : ℕ) (ds : List D) → is_clash (seek (key_of key) k ds) ≡ false → is_clash (seek (key_of key) k (d ∷ ds)) ≡ false
  passed d n k ds h = go (eqb (key_of key d) k)
    where
      go : (u : Bool) → is_clash (cond u (some d) (seek (key_of key) k ds)) ≡ false
      go true = n
      go false = h

  kept : (d : D) (k : ℕ) (ds : List D) → Sorted (key_of key) (d ∷ ds) → is_clash (seek (key_of key) k ds) ≡ true → is_clash (seek (key_of key) k (d ∷ ds)) ≡ true
  kept d k ds s h = go (eqb (key_of key d) k) refl
    where
      go : (u : Bool) → eqb (key_of key d) k ≡ u → is_clash (cond u (some d) (seek (key_of key) k ds)) ≡ true
      go false f = h
      go true f =
          let q : key_of key d ≡ k = eqb-true (key_of key d) k f in
          let n : seek (key_of key) (key_of key d) ds ≡ none = seek_high (key_of key) (key_of key d) ds s.0 in
          absurd (false≢true (rw (← q, n) at h))

  first_none : (ds : List D) → first_clash key ds ≡ none → (k : ℕ) → is_clash (seek (key_of key) k ds) ≡ false
  first_none [] e k = refl
  first_none (only_first x ∷ ds) e k = passed (only_first x) refl k ds (first_none ds e k)
  first_none (only_second y ∷ ds) e k = passed (only_second y) refl k ds (first_none ds e k)
  first_none (unlike x y ∷ ds) e k = absurd (clash (sym e))

  -- the first clash of a list in order is the lowest
  abbrev Lowest : List D → ℕ → Type 0
  Lowest ds k = (is_clash (seek (key_of key) k ds) ≡ true) × ((j : ℕ) → j < k → is_clash (seek (key_of key) j ds) ≡ false)

  first_lowest : (ds : List D) → Sorted (key_of key) ds → (k : ℕ) → first_clash key ds ≡ some k → Lowest ds k
  first_lowest [] s k e = absurd (clash e)
  first_lowest (only_first x ∷ ds) s k e =
      let ih = first_lowest ds s.1 k e in (kept (only_first x) k ds s ih.0, λ j l. passed (only_first x) refl j ds (ih.1 j l))
  first_lowest (only_second y ∷ ds) s k e =
      let ih = first_lowest ds s.1 k e in (kept (only_second y) k ds s ih.0, λ j l. passed (only_second y) refl j ds (ih.1 j l))
  first_lowest (unlike x y ∷ ds) s k e =
      let q : key x ≡ k = cc in
      rw (← q) (rw (eq-eqb (key x) (key x) refl), λ j l. rw (ne_eqb (key x) j (λ z. omega arith), seek_high (key_of key) j ds (all_map (λ w. key x < key_of key w) (λ w. j < key_of key w) (λ w m. omega arith) ds s.0)))

  module _ (same : R → R → Bool) where
    -- two sets clash at a key exactly where their difference there is a clash
    clash_at : (xs ys : List R) (k : ℕ) → is_clash (differ_at key same (seek key k xs) (seek key k ys)) ≡ true → ClashAt key same xs ys k
    clash_at xs ys k h = go (seek key k xs) (seek key k ys) refl refl h
      where
        go : (o p : Option R) → seek key k xs ≡ o → seek key k ys ≡ p → is_clash (differ_at key same o p) ≡ true → ClashAt key same xs ys k
        go none none d e f = absurd (false≢true f)
        go none (some y) d e f = absurd (false≢true f)
        go (some x) none d e f = absurd (false≢true f)
        go (some x) (some y) d e f = record { first = x; second = y; in_first = d; in_second = e; unlike = test (same x y) f }
          where
            test : (u : Bool) → is_clash (cond u none (some (unlike x y))) ≡ true → u ≡ false
            test true g = absurd (false≢true g)
            test false g = refl

    at_clash : (xs ys : List R) (k : ℕ) → ClashAt key same xs ys k → is_clash (differ_at key same (seek key k xs) (seek key k ys)) ≡ true
    at_clash xs ys k c = rw (c.in_first, c.in_second, c.unlike)

    -- told the other way round, they clash at the same keys
    turned_at : ((x y : R) → same x y ≡ same y x) → (xs ys : List R) (k : ℕ) → ClashAt key same xs ys k → ClashAt key same ys xs k
    turned_at sides xs ys k c = record {
      first = c.second;
      second = c.first;
      in_first = c.in_second;
      in_second = c.in_first;
      unlike = sides c.second c.first ∙ c.unlike;
    }

    -- no key below clashes
    abbrev NoLower : (xs ys : List R) → ℕ → Type 0
    NoLower xs ys k = (j : ℕ) → j < k → ClashAt key same xs ys j → ⊥

    module _ (xs ys : List R) (d : Distinct key xs) (e : Distinct key ys) where
      at_lowest : (k : ℕ) → lowest_clash key same xs ys ≡ some k → ClashAt key same xs ys k × NoLower xs ys k
      unfolding lowest_clash
      at_lowest k f =
          let w = first_lowest (differences key same xs ys) (differences_rise key same xs ys d e) k f in
          (clash_at xs ys k (rw (differences_at key same xs ys d e k) at w.0), λ j l c. false≢true (sym (rw (differences_at key same xs ys d e j) at (w.1 j l)) ∙ at_clash xs ys j c))

      at_none : lowest_clash key same xs ys ≡ none → (k : ℕ) → ClashAt key same xs ys k → ⊥
      unfolding lowest_clash
      at_none f k c = false≢true (sym (rw (differences_at key same xs ys d e k) at (first_none (differences key same xs ys) f k)) ∙ at_clash xs ys k c)

      -- "the lowest clashing key"
      pub lowest_clash_lem : (k : ℕ) → (lowest_clash key same xs ys ≡ some k) ↔ (ClashAt key same xs ys k × NoLower xs ys k)
      lowest_clash_lem k = (at_lowest k, λ w. go w (lowest_clash key same xs ys) refl)
        where
          go : ClashAt key same xs ys k × NoLower xs ys k → (o : Option ℕ) → lowest_clash key same xs ys ≡ o → o ≡ some k
          go w none f = absurd (at_none f k w.0)
          go w (some j) f = ap some (level (ltb j k) (ltb k j) refl refl)
            where
              level : (u v : Bool) → ltb j k ≡ u → ltb k j ≡ v → j ≡ k
              level true v p q = absurd (w.1 j (ltb-true j k p) (at_lowest j f).0)
              level false true p q = absurd ((at_lowest j f).1 k (ltb-true k j q) w.0)
              level false false p q = omega (arith, ltb-false j k p, ltb-false k j q)

      pub no_clash : (lowest_clash key same xs ys ≡ none) ↔ ((k : ℕ) → ClashAt key same xs ys k → ⊥)
      no_clash = (at_none, λ h. go h (lowest_clash key same xs ys) refl)
        where
          go : ((k : ℕ) → ClashAt key same xs ys k → ⊥) → (o : Option ℕ) → lowest_clash key same xs ys ≡ o → o ≡ none
          go h none f = refl
          go h (some k) f = absurd (h k (at_lowest k f).0)

      -- where there is none, what both hold is the same
      pub agreeing : SameIs key same xs ys → lowest_clash key same xs ys ≡ none
          → (k : ℕ) (x y : R) → seek key k xs ≡ some x → seek key k ys ≡ some y → x ≡ y
      agreeing whole f k x y p q = go (same x y) refl
        where
          go : (u : Bool) → same x y ≡ u → x ≡ y
          go true t = whole k x y p q t
          go false t = absurd (at_none f k (record { first = x; second = y; in_first = p; in_second = q; unlike = t }))

    pub clash_turned : ((x y : R) → same x y ≡ same y x) → (xs ys : List R) → Distinct key xs → Distinct key ys → lowest_clash key same xs ys ≡ lowest_clash key same ys xs
    clash_turned sides xs ys d e = sym (go (lowest_clash key same xs ys) refl)
      where
        go : (o : Option ℕ) → lowest_clash key same xs ys ≡ o → lowest_clash key same ys xs ≡ o
        go none f = (no_clash ys xs e d).1 (λ k c. (no_clash xs ys d e).0 f k (turned_at sides ys xs k c))
        go (some k) f =
            let w = (lowest_clash_lem xs ys d e k).0 f in
            (lowest_clash_lem ys xs e d k).1 (turned_at sides xs ys k w.0, λ j l c. w.1 j l (turned_at sides ys xs j c))

    -- an empty set clashes with none
    pub clash_none : (xs : List R) → Distinct key xs → lowest_clash key same xs [] ≡ none
    clash_none xs d = (no_clash xs [] d tt).1 (λ k c. clash c.in_second)
