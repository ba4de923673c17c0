-- The pages that give, met one after the other: each is the groups behind the one before, so a loop
-- over the pages knows the next of them with nothing divided.
use mathlib.Core.Path.{◌≡◌, refl, sym, ap, ◌∙◌}
use mathlib.Core.Bool.{Bool, true, false}
use Prim.Native.Nat.{ℕ, ◌+◌, ◌-◌, ◌*◌, ◌/◌, ◌%◌, ◌≤◌, ◌<◌}
use native.Mathlib.Nat.{mod-eq_of_lt, add-mod_right, mul-add-mod_self_right, mul-mod_left, div-add-mod'}
use native.Mathlib.Decide.{dec_lt}
use native.Mathlib.Omega.{arith}
use Rattle.homes.specs.declared.giving.Giving.{Giving}
use Rattle.homes.specs.Steps.Giving.{Gives, gives_at, first_giver}
use Rattle.homes.proofs.Givers.{givers}

-- of the numbers less than g above one, none has its remainder
apart : (g a b : ℕ) → a < b → b < a + g → b % g ≡ a % g → ⊥
apart g a b l m e =
    let both : a / g * g + (b - a) ≡ b / g * g = omega (arith, e, div-add-mod' a g, div-add-mod' b g) in
    let none : b - a ≡ 0 = sym (mod-eq_of_lt (omega arith)) ∙ sym (mul-add-mod_self_right (a / g) g (b - a)) ∙ ap (λ (n : ℕ). n % g) both ∙ mul-mod_left (b / g) g in
    omega arith

-- an old page not past the next, which isn't it
before_next : (a n f : ℕ) → (a ≡ n → n < f → ⊥) → a < f → a ≤ n → a < n
before_next a n f off l m = go (dec_lt a n)
  where
    go : Dec (a < n) → a < n
    go (yes k) = k
    go (no k) = absurd (off (omega arith) (omega arith))

-- at page a: the next page that may give, with none from a on before it; past the pages that were
-- there before the step none gives, so there it may lie behind
pub record Next (t : Giving) (a next : ℕ) : Type 0 where
  pub ahead : a < t.f → a ≤ next
  pub group : next % t.g ≡ first_giver t
  pub none : (b : ℕ) → a ≤ b → b < next → b % t.g ≡ first_giver t → ⊥

module _ {t : Giving} (w : Gives t) where
  -- before the first turn it is the lowest of all
  pub next_first : (n : ℕ) → n ≡ first_giver t → n < t.g → Next t 0 n
  next_first n e l = record {
    ahead = λ k. omega arith;
    group = mod-eq_of_lt l ∙ e;
    none = λ b k m q. omega (arith, sym (mod-eq_of_lt (omega arith)) ∙ q ∙ sym e);
  }

  module _ {a next : ℕ} (n : Next t a next) where
    -- the page is the next, so it gives, and the one to come is the groups behind it
    module _ (here : a ≡ next) (old : next < t.f) where
      pub does_give : gives_at t a ≡ true
      does_give = (givers w a).1 (omega (arith, here), rw here n.group)

      pub next_on : (n' : ℕ) → n' ≡ next + t.g → Next t (a + 1) n'
      next_on n' e =
          record {
            ahead = λ k. omega (arith, here, w.groups);
            group = ap (λ (m : ℕ). m % t.g) e ∙ add-mod_right next t.g ∙ n.group;
            none = λ b k m q. apart t.g next b (omega (arith, here)) (omega arith) (q ∙ sym n.group);
          }

    -- it isn't, so it gives none, and the next stays
    module _ (off : a ≡ next → next < t.f → ⊥) where
      pub gives_none : gives_at t a ≡ false
      gives_none = go (gives_at t a) refl
        where
          go : (u : Bool) → gives_at t a ≡ u → u ≡ false
          go true e =
              let g = (givers w a).0 e in
              absurd (n.none a (omega arith) (before_next a next t.f off g.0 (n.ahead g.0)) g.1)
          go false e = refl

      pub next_off : (n' : ℕ) → n' ≡ next → Next t (a + 1) n'
      next_off n' e =
          record {
            ahead = λ k. let l : a < t.f = omega arith in omega (arith, before_next a next t.f off l (n.ahead l));
            group = rw e n.group;
            none = λ b k m q. n.none b (omega arith) (omega arith) q;
          }
