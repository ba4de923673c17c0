-- What a test leaves of a list: how many, in what order, and that nothing is lost with the rest.
use mathlib.Core.Path.{◌≡◌, refl, sym, ap, ◌∙◌}
use mathlib.Core.Bool.{Bool, true, false, cond, not}
use mathlib.Core.List.Permᴰ
use mathlib.Core.List.{List, [], ◌∷◌, ◌++◌, Permᴰ}
use Prim.Native.Nat.{ℕ, suc, ◌+◌, ◌≤◌}
use native.Mathlib.Omega.{arith}
use lib.ListN.{length}
use Rattle.placing.specs.Image.{All, Distinct}
use Rattle.placing.specs.Lay.{one, count}
use Rattle.placing.specs.Steps.Keep.{keep}

module _ {R : Type 0} (on : R → Bool) where
  pub keep_append : (s t : List R) → keep on (s ++ t) ≡ keep on s ++ keep on t
  keep_append [] t = refl
  keep_append (x ∷ s) t = go (on x) (keep_append s t)
    where
      go : (u : Bool) → keep on (s ++ t) ≡ keep on s ++ keep on t → cond u (x ∷ keep on (s ++ t)) (keep on (s ++ t)) ≡ cond u (x ∷ keep on s) (keep on s) ++ keep on t
      go true e = ap (λ (l : List R). x ∷ l) e
      go false e = e

  pub keep_none : (s : List R) → All (λ x. on x ≡ false) s → keep on s ≡ []
  keep_none [] h = refl
  keep_none (x ∷ s) h = rw (h.0, keep_none s h.1)

  pub all_keep : (P : R → Type 0) (s : List R) → All P s → All P (keep on s)
  all_keep P [] h = tt
  all_keep P (x ∷ s) h = go (on x) (all_keep P s h.1)
    where
      go : (u : Bool) → All P (keep on s) → All P (cond u (x ∷ keep on s) (keep on s))
      go true k = (h.0, k)
      go false k = k

  -- whatever is left has passed
  pub kept : (s : List R) → All (λ x. on x ≡ true) (keep on s)
  kept [] = tt
  kept (x ∷ s) = go (on x) refl (kept s)
    where
      go : (u : Bool) → on x ≡ u → All (λ y. on y ≡ true) (keep on s) → All (λ y. on y ≡ true) (cond u (x ∷ keep on s) (keep on s))
      go true e k = (e, k)
      go false e k = k

  pub keep-length : (s : List R) → length (keep on s) ≤ length s
  keep-length [] = omega arith
  keep-length (x ∷ s) = go (on x) (keep-length s)
    where
      go : (u : Bool) → length (keep on s) ≤ length s → length (cond u (x ∷ keep on s) (keep on s)) ≤ suc (length s)
      go true k = omega arith
      go false k = omega arith

  -- as many are kept as pass
  pub keep-count : (s : List R) → length (keep on s) ≡ count on s
  keep-count [] = refl
  keep-count (x ∷ s) = go (on x) (keep-count s)
    where
      go : (u : Bool) → length (keep on s) ≡ count on s → length (cond u (x ∷ keep on s) (keep on s)) ≡ one u + count on s
      go true k = omega arith
      go false k = omega arith

  pub count_none : (s : List R) → All (λ x. on x ≡ false) s → count on s ≡ 0
  count_none s h = sym (keep-count s) ∙ ap length (keep_none s h)

  pub keep_distinct : (rank : R → ℕ) (s : List R) → Distinct rank s → Distinct rank (keep on s)
  keep_distinct rank [] h = tt
  keep_distinct rank (x ∷ s) h = go (on x) (keep_distinct rank s h.1)
    where
      go : (u : Bool) → Distinct rank (keep on s) → Distinct rank (cond u (x ∷ keep on s) (keep on s))
      go true k = (all_keep (λ y. rank y ≡ rank x → ⊥) s h.0, k)
      go false k = k

  -- with those that fail behind them they are the list again, in another order
  pub keep_both : (s : List R) → Permᴰ s (keep on s ++ keep (λ x. not (on x)) s)
  keep_both [] = Permᴰ.nil
  keep_both (x ∷ s) = go (on x) (keep_both s)
    where
      yes' : List R
      yes' = keep on s

      no' : List R
      no' = keep (λ y. not (on y)) s

      go : (u : Bool) → Permᴰ s (keep on s ++ keep (λ y. not (on y)) s)
          → Permᴰ (x ∷ s) (cond u (x ∷ yes') yes' ++ cond (not u) (x ∷ no') no')
      go true k = Permᴰ.cons refl k
      go false k = Permᴰ.trans (Permᴰ.cons refl k) (Permᴰ.symm (Permᴰ.middle x yes' no'))
