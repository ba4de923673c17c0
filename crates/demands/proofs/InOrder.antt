-- The law of refusals in order: where the causes are gone through one by one and the first that
-- holds gives the number, each number is given exactly when its cause holds and no earlier one
-- does.
use mathlib.Core.Path.{◌≡◌, refl, sym, ◌∙◌}
use mathlib.Core.Bool.{Bool, true, false, not, ◌&&◌, ◌||◌, false≢true}
use mathlib.Core.Logic.{◌⊎◌, inl, inr, ⊎_elim}
use mathlib.Core.List.{List, [], ◌∷◌}
use Prim.Native.Nat.{ℕ}
use lib.Dec.{eqb}
use borrow.Author.Tests.{not-true, eqb-true, eqb-false}
use Rattle.numbers.proofs.Records.{and_left, and_right}
use Rattle.placing.specs.Image.{All}
use Rattle.demands.specs.Refusals.{Cause, when, unless, number, Holds, Fails, InOrder, OneOf}

-- whether a number is one of a list, as a test
abbrev pub listed : ℕ → List ℕ → Bool
listed n [] = false
listed n (k ∷ ks) = eqb n k || listed n ks

pub one_of : (n : ℕ) (ks : List ℕ) → listed n ks ≡ true → OneOf n ks
one_of n [] e = absurd (false≢true e)
one_of n (k ∷ ks) e = go (eqb n k) refl e (one_of n ks)
  where
    go : (u : Bool) → eqb n k ≡ u → (u || listed n ks) ≡ true → (listed n ks ≡ true → OneOf n ks) → OneOf n (k ∷ ks)
    go true q e on = inl (eqb-true n k q)
    go false q e on = inr (on e)

pub none_of : (n : ℕ) (ks : List ℕ) → listed n ks ≡ false → OneOf n ks → ⊥
none_of n [] e = λ w. w
none_of n (k ∷ ks) e = go (eqb n k) refl e (none_of n ks)
  where
    go : (u : Bool) → eqb n k ≡ u → (u || listed n ks) ≡ false → (listed n ks ≡ false → OneOf n ks → ⊥) → OneOf n (k ∷ ks) → ⊥
    go true q e on = absurd (false≢true (sym e))
    go false q e on = ⊎_elim (eqb-false n k q) (on e)

-- what holds of each number of a list holds of one of them
pub each_of : (P : ℕ → Type 0) (n : ℕ) (ks : List ℕ) → All P ks → OneOf n ks → P n
each_of P n [] a w = absurd w
each_of P n (k ∷ ks) a w = ⊎_elim (λ e. rw e a.0) (each_of P n ks a.1) w

-- the numbers of causes, and whether they all differ
abbrev pub ranks : List Cause → List ℕ
ranks [] = []
ranks (c ∷ cs) = number c ∷ ranks cs

abbrev pub differ : List ℕ → Bool
differ [] = true
differ (k ∷ ks) = not (listed k ks) && differ ks

-- a cause doesn't both hold and fail
clash : (c : Cause) → Holds c → Fails c → ⊥
clash (when k it) h f = f h
clash (unless k it) h f = h f

module _ (n : ℕ) where
  -- how n came about: at each cause it is given, or the cause doesn't hold and the next is looked
  -- at; past all of them it is another number
  abbrev pub Comes : (all cs : List Cause) → Type 0
  Comes all [] = OneOf n (ranks all) → ⊥
  Comes all (c ∷ cs) = (Holds c × (n ≡ number c)) ⊎ (Fails c × Comes all cs)

  -- past a cause that holds, no number is given
  none_given : {clear : Type 0} (cs : List Cause) → (clear → ⊥) → (OneOf n (ranks cs) → ⊥) → InOrder n clear cs
  none_given [] x a = tt
  none_given (c ∷ cs) x a = ((λ e. absurd (a (inl e)), λ w. absurd (x w.0)), none_given cs (λ w. x w.0) (λ w. a (inr w)))

  -- a number whose cause doesn't hold is not given
  not_given : (k : ℕ) (all cs : List Cause) → (OneOf k (ranks cs) → ⊥) → OneOf k (ranks all) → Comes all cs → n ≡ k → ⊥
  not_given k all [] d m w e = w (rw e m)
  not_given k all (c ∷ cs) d m (inl w) e = d (inl (sym e ∙ w.1))
  not_given k all (c ∷ cs) d m (inr w) e = not_given k all cs (λ v. d (inr v)) m w.1 e

  given : {clear : Type 0} (all cs : List Cause) → differ (ranks cs) ≡ true → ((k : ℕ) → OneOf k (ranks cs) → OneOf k (ranks all)) → clear → Comes all cs
      → InOrder n clear cs
  given all [] d m x w = tt
  given {clear} all (c ∷ cs) d m x w =
      let ks = ranks cs in
      let apart = not (listed (number c) ks) in
      go (none_of (number c) ks (not-true _ (and_left apart (differ ks) d))) w (λ p. given all cs (and_right apart (differ ks) d) (λ k v. m k (inr v)) (x, p))
    where
      go : (OneOf (number c) (ranks cs) → ⊥) → Comes all (c ∷ cs) → (Fails c → Comes all cs → InOrder n (clear × Fails c) cs) → InOrder n clear (c ∷ cs)
      go a (inl w) on = ((λ e. (x, w.0), λ v. w.1), none_given cs (λ v. clash c w.0 v.1) (rw w.1 a))
      go a (inr w) on = ((λ e. absurd (not_given (number c) all cs a (m (number c) (inl refl)) w.1 e), λ v. absurd (clash c v.1 w.0)), on w.0 w.1)

  pub in_order : (cs : List Cause) → differ (ranks cs) ≡ true → Comes cs cs → InOrder n Unit cs
  in_order cs d w = given cs cs d (λ k v. v) tt w
