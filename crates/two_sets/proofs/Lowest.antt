-- One pass over a set finds the lowest clash with another, and the records that it lacks.
use mathlib.Core.Path.{◌≡◌, refl, sym, ap, ◌∙◌, subst}
use mathlib.Core.Bool.{Bool, true, false, cond}
use mathlib.Core.Logic.{◌⊎◌, inl, inr}
use mathlib.Core.Option.{Option, none, some}
use mathlib.Core.List.{List, [], ◌∷◌, ◌++◌}
use Prim.Native.Nat.{ℕ, suc, ◌≤◌}
use native.Mathlib.Omega.{arith}
use lib.Dec.{eqb, ltb}
use lib.ListN.{length}
use borrow.Author.Tests.{eqb-true, ltb-true, ltb-false}
use Rattle.placing.specs.Image.{All, Distinct, RecordSet}
use Rattle.placing.specs.Walks.{if_found, seek}
use Rattle.placing.proofs.Seek.{clash, seek_here, ne_seek}
use Rattle.two_sets.specs.Union.{missing, lowest_clash}
use Rattle.two_sets.specs.UnionPromises.{ClashAt}
use Rattle.two_sets.specs.Steps.Lowest.{lower, lower_if, lowest_in, lacking}
use Rattle.two_sets.proofs.Clash.{lowest_clash_lem, no_clash}

-- a key that is at most k
abbrev AtMost : Option ℕ → ℕ → Type 0
AtMost o k = (j : ℕ) × (o ≡ some j) × (j ≤ k)

-- the lower of two is at most either, and is one of them
lower_own : (k : ℕ) (low : Option ℕ) → AtMost (lower k low) k
lower_own k none = (k, refl, omega arith)
lower_own k (some j) = go (ltb k j) refl
  where
    go : (u : Bool) → ltb k j ≡ u → AtMost (some (cond u k j)) k
    go true e = (k, refl, omega arith)
    go false e = (j, refl, ltb-false k j e)

lower_old : (k i : ℕ) (low : Option ℕ) → AtMost low i → AtMost (lower k low) i
lower_old k i none a = absurd (clash a.1)
lower_old k i (some j) a = go (ltb k j) refl
  where
    go : (u : Bool) → ltb k j ≡ u → AtMost (some (cond u k j)) i
    go true e = let q : j ≡ a.0 = cc in (k, refl, omega (arith, ltb-true k j e, q, a.2))
    go false e = a

lower_one : (k i : ℕ) (low : Option ℕ) → lower k low ≡ some i → (low ≡ some i) ⊎ (k ≡ i)
lower_one k i none e = inr cc
lower_one k i (some j) e = go (ltb k j) e
  where
    go : (u : Bool) → some (cond u k j) ≡ some i → (some j ≡ some i) ⊎ (k ≡ i)
    go true f = inr cc
    go false f = inl f

module _ {R : Type 0} (key : R → ℕ) where
  module _ (same : R → R → Bool) where
    pub lowest_append : (look : ℕ → Option R) (rs ts : List R) (low : Option ℕ) → lowest_in key same look (rs ++ ts) low ≡ lowest_in key same look ts (lowest_in key same look rs low)
    lowest_append look [] ts low = refl
    lowest_append look (x ∷ rs) ts low = lowest_append look rs ts (lower_if key same x (look (key x)) low)

    -- only what is found at the keys counts
    pub lowest_cong : (look look' : ℕ → Option R) (rs : List R) (low : Option ℕ) → All (λ x. look (key x) ≡ look' (key x)) rs → lowest_in key same look rs low ≡ lowest_in key same look' rs low
    lowest_cong look look' [] low h = refl
    lowest_cong look look' (x ∷ rs) low h = rw h.0 (lowest_cong look look' rs (lower_if key same x (look' (key x)) low) h.1)

    -- what was lowest before is no lower than what comes
    step_old : (x : R) (o : Option R) (i : ℕ) (low : Option ℕ) → AtMost low i → AtMost (lower_if key same x o low) i
    step_old x none i low a = a
    step_old x (some y) i low a = go (same x y)
      where
        go : (u : Bool) → AtMost (cond u low (lower (key x) low)) i
        go true = a
        go false = lower_old (key x) i low a

    -- and what comes was there before, or is the record's own key
    abbrev Own : R → Option R → ℕ → Type 0
    Own x o i = (key x ≡ i) × (y : R) × (o ≡ some y) × (same x y ≡ false)

    step_one : (x : R) (o : Option R) (i : ℕ) (low : Option ℕ) → lower_if key same x o low ≡ some i → (low ≡ some i) ⊎ Own x o i
    step_one x none i low e = inl e
    step_one x (some y) i low e = go (same x y) refl e
      where
        one : (low ≡ some i) ⊎ (key x ≡ i) → same x y ≡ false → (low ≡ some i) ⊎ Own x (some y) i
        one (inl f) n = inl f
        one (inr f) n = inr (f, y, refl, n)

        go : (u : Bool) → same x y ≡ u → cond u low (lower (key x) low) ≡ some i → (low ≡ some i) ⊎ Own x (some y) i
        go true n f = inl f
        go false n f = one (lower_one (key x) i low f) n

    keeps : (look : ℕ → Option R) (i : ℕ) (rs : List R) (low : Option ℕ) → AtMost low i → AtMost (lowest_in key same look rs low) i
    keeps look i [] low a = a
    keeps look i (x ∷ rs) low a = keeps look i rs (lower_if key same x (look (key x)) low) (step_old x (look (key x)) i low a)

    module _ (ys : List R) where
      abbrev look : ℕ → Option R
      look k = seek key k ys

      -- what the pass finds is at most any key that clashes
      reaches : (k : ℕ) (rs : List R) (low : Option ℕ) → ClashAt key same rs ys k → AtMost (lowest_in key same look rs low) k
      reaches k [] low c = absurd (clash c.in_first)
      reaches k (x ∷ rs) low c =
          go (eqb (key x) k) refl c.in_first
          (λ f. reaches k rs (lower_if key same x (look (key x)) low) (record { first = c.first; second = c.second; in_first = f; in_second = c.in_second; unlike = c.unlike }))
        where
          go : (u : Bool) → eqb (key x) k ≡ u → cond u (some x) (seek key k rs) ≡ some c.first → (seek key k rs ≡ some c.first → AtMost (lowest_in key same look (x ∷ rs) low) k)
              → AtMost (lowest_in key same look (x ∷ rs) low) k
          go true e f ih =
              let q : key x ≡ k = eqb-true (key x) k e in
              let z : x ≡ c.first = cc in
              let n : same x c.second ≡ false = rw z c.unlike in
              let at : look (key x) ≡ some c.second = rw q c.in_second in
              rw (← q) (keeps look (key x) rs (lower_if key same x (look (key x)) low) (rw (at, n) (lower_own (key x) low)))
          go false e f ih = ih f

      -- and is one that clashes, or was there before
      comes : (k : ℕ) (rs : List R) (low : Option ℕ) → Distinct key rs → lowest_in key same look rs low ≡ some k → (low ≡ some k) ⊎ ClashAt key same rs ys k
      comes k [] low d e = inl e
      comes k (x ∷ rs) low d e = go (comes k rs (lower_if key same x (look (key x)) low) d.1 e)
        where
          here : (low ≡ some k) ⊎ Own x (look (key x)) k → (low ≡ some k) ⊎ ClashAt key same (x ∷ rs) ys k
          here (inl f) = inl f
          here (inr (q, y, f, n)) = inr (record { first = x; second = y; in_first = subst (λ (j : ℕ). seek key j (x ∷ rs) ≡ some x) q (seek_here key x rs); in_second = rw (← q) f; unlike = n })

          past : (c : ClashAt key same rs ys k) (u : Bool) → eqb (key x) k ≡ u → cond u (some x) (seek key k rs) ≡ some c.first
          past c true f =
              let q : key x ≡ k = eqb-true (key x) k f in
              absurd (clash (sym (rw (← q) (ne_seek key (key x) rs d.0)) ∙ c.in_first))
          past c false f = c.in_first

          go : (lower_if key same x (look (key x)) low ≡ some k) ⊎ ClashAt key same rs ys k → (low ≡ some k) ⊎ ClashAt key same (x ∷ rs) ys k
          go (inl f) = here (step_one x (look (key x)) k low f)
          go (inr c) = inr (record { first = c.first; second = c.second; in_first = past c (eqb (key x) k) refl; in_second = c.in_second; unlike = c.unlike })

      sure : (xs : List R) (k : ℕ) → (none ≡ some k) ⊎ ClashAt key same xs ys k → ClashAt key same xs ys k
      sure xs k (inl e) = absurd (clash e)
      sure xs k (inr c) = c

    -- so a pass over the whole set finds the lowest clash
    pub lowest_in_lem : (xs ys : List R) → RecordSet key xs → RecordSet key ys → lowest_in key same (λ k. seek key k ys) xs none ≡ lowest_clash key same xs ys
    lowest_in_lem xs ys f g = sym (go (lowest_in key same (look ys) xs none) refl)
      where
        go : (o : Option ℕ) → lowest_in key same (look ys) xs none ≡ o → lowest_clash key same xs ys ≡ o
        go none e = (no_clash key same xs ys f.once g.once).1 (λ k c. clash (sym e ∙ (reaches ys k xs none c).1))
        go (some k) e =
            (lowest_clash_lem key same xs ys f.once g.once k).1 (
              sure ys xs k (comes ys k xs none f.once e),
              λ j l c.
                  let a = reaches ys j xs none c in
                  let q : k ≡ a.0 = cc in
                  omega (arith, a.2, q, l),
            )

  -- the records that are lacking, part by part
  pub lacking-append : (look : ℕ → Option R) (rs ts : List R) → lacking key look (rs ++ ts) ≡ lacking key look rs ++ lacking key look ts
  lacking-append look [] ts = refl
  lacking-append look (x ∷ rs) ts = go (look (key x)) (lacking-append look rs ts)
    where
      go : (o : Option R) → lacking key look (rs ++ ts) ≡ lacking key look rs ++ lacking key look ts
          → if_found o (lacking key look (rs ++ ts)) (x ∷ lacking key look (rs ++ ts)) ≡ if_found o (lacking key look rs) (x ∷ lacking key look rs) ++ lacking key look ts
      go none ih = ap (λ (s : List R). x ∷ s) ih
      go (some y) ih = ih

  -- they are the missing ones, where what is looked up is what the set holds
  pub lacking-missing : (look : ℕ → Option R) (xs rs : List R) → All (λ x. look (key x) ≡ seek key (key x) xs) rs → lacking key look rs ≡ missing key xs rs
  lacking-missing look xs [] h = refl
  lacking-missing look xs (x ∷ rs) h = rw (h.0, lacking-missing look xs rs h.1)

  pub lacking_all : (P : R → Type 0) (look : ℕ → Option R) (rs : List R) → All P rs → All P (lacking key look rs)
  lacking_all P look [] h = tt
  lacking_all P look (x ∷ rs) h = go (look (key x)) (lacking_all P look rs h.1)
    where
      go : (o : Option R) → All P (lacking key look rs) → All P (if_found o (lacking key look rs) (x ∷ lacking key look rs))
      go none ih = (h.0, ih)
      go (some y) ih = ih

  pub lacking-length : (look : ℕ → Option R) (rs : List R) → length (lacking key look rs) ≤ length rs
  lacking-length look [] = omega arith
  lacking-length look (x ∷ rs) = go (look (key x)) (lacking-length look rs)
    where
      go : (o : Option R) → length (lacking key look rs) ≤ length rs → length (if_found o (lacking key look rs) (x ∷ lacking key look rs)) ≤ suc (length rs)
      go none ih = omega (arith, ih)
      go (some y) ih = omega (arith, ih)
