-- The pages that give keys to the added page: the lowest of them, and each that comes a multiple of
-- the groups after it.
--
use mathlib.Core.Path.{◌≡◌, refl, sym, ap, ◌∙◌}
use mathlib.Core.Bool.{Bool, true, false, cond, ◌&&◌, false≢true}
use mathlib.Core.Logic.{◌↔◌, ⊎_elim}
use Prim.Native.Nat.{ℕ, zero, suc, ◌+◌, ◌-◌, ◌%◌, ◌≤◌, ◌<◌}
use native.Mathlib.Nat.{mod-eq_of_lt}
use native.Mathlib.Omega.{arith}
use lib.Dec.{ltb, eqb}
use borrow.Author.Tests.{ltb-true, eqb-true, lt-ltb, eq-eqb}
use Rattle.draws.proofs.Split.{split}
use Rattle.homes.specs.declared.giving.Giving.{Giving}
use Rattle.homes.specs.Homes.{swept, new_page}
use Rattle.homes.specs.Steps.Giving.{Gives, gives_at, giver_from, first_giver}
use Rattle.homes.proofs.New.{swept_from}
use Rattle.homes.proofs.Filled.{new_one, new_onto}

-- The new page of a group's first page is as far behind F as the sweeps have it.
new_at : (s F G a : ℕ) → a < G → new_page s F G a ≡ F + swept s 0 G (G - 1 - a)
new_at s F G a h = rw (mod-eq_of_lt h) (swept_from s F G (G - 1 - a))

-- A page gives where it was there before the step, and its group grows into the added page.
gives_is : (t : Giving) (a : ℕ) → (gives_at t a ≡ true) ↔ ((a < t.f) × (new_page t.s t.f t.g a ≡ t.added))
unfolding gives_at
gives_is t a = (there (ltb a t.f) (eqb (new_page t.s t.f t.g a) t.added) refl refl, λ w. rw (lt-ltb a t.f w.0, eq-eqb _ _ w.1))
  where
    there : (u v : Bool) → ltb a t.f ≡ u → eqb (new_page t.s t.f t.g a) t.added ≡ v → u && v ≡ true → (a < t.f) × (new_page t.s t.f t.g a ≡ t.added)
    there true true e f on = (ltb-true a t.f e, eqb-true _ _ f)
    there true false e f on = absurd (false≢true on)
    there false v e f on = absurd (false≢true on)

module _ {t : Giving} (w : Gives t) where
  -- Of the first g pages one gives whose group grows into the added page.
  pub gives_behind : (a : ℕ) → a < t.g → swept t.s 0 t.g (t.g - 1 - a) ≡ t.added - t.f → gives_at t a ≡ true
  gives_behind a l e =
      (gives_is t a).1 (omega (arith, w.more), new_at t.s t.f t.g a l ∙ omega (arith, e, w.low))

  -- There is one.
  pub giver : (a : ℕ) × (a < t.g) × (swept t.s 0 t.g (t.g - 1 - a) ≡ t.added - t.f)
  giver =
      let o = new_onto t.s t.f t.g t.added w.s_low w.low w.high in
      (o.0, o.1, omega (arith, o.2, new_at t.s t.f t.g o.0 o.1))

  -- Pages that give are of one group.
  same_group : (a b : ℕ) → gives_at t a ≡ true → gives_at t b ≡ true → a % t.g ≡ b % t.g
  same_group a b e f =
      new_one t.s t.f t.g a b w.s_low w.groups (((gives_is t a).0 e).1 ∙ sym ((gives_is t b).0 f).1)

  -- So a search from a page before it, or from it, comes to the one of the first g that gives,
  reaches : (b left a : ℕ) → b < t.g → gives_at t b ≡ true → a ≤ b → b ≤ a + left → giver_from t left a ≡ b
  unfolding giver_from
  reaches b zero a l on low high = omega arith
  reaches b (suc left) a l on low high = go (gives_at t a) refl (λ lt. reaches b left (suc a) l on lt (omega arith))
    where
      go : (u : Bool) → gives_at t a ≡ u → (a < b → giver_from t left (suc a) ≡ b) → cond u a (giver_from t left (suc a)) ≡ b
      go true e rest = sym (mod-eq_of_lt (omega arith)) ∙ same_group a b e on ∙ mod-eq_of_lt l
      go false e rest =
          ⊎_elim rest (λ ge. let here : a ≡ b = omega arith in absurd (false≢true (sym e ∙ rw here on))) (split a b)

  -- as the search for the first giver does.
  pub first_is : (b : ℕ) → b < t.g → gives_at t b ≡ true → first_giver t ≡ b
  first_is b l on = reaches b t.g 0 l on (omega arith) (omega arith)

  -- The pages that give are, of those before the step, the ones of the first giver's group.
  pub givers : (a : ℕ) → (gives_at t a ≡ true) ↔ ((a < t.f) × (a % t.g ≡ first_giver t))
  givers a =
      let b = giver.0 in
      let on = gives_behind b giver.1 giver.2 in
      let group : b % t.g ≡ first_giver t = mod-eq_of_lt giver.1 ∙ sym (first_is b giver.1 on) in
      (λ e. (((gives_is t a).0 e).0, same_group a b e on ∙ group), λ h. (gives_is t a).1 (h.0, ap (λ (n : ℕ). swept t.s t.f t.g (t.g - 1 - n)) (h.1 ∙ sym group) ∙ ((gives_is t b).0 on).1))
