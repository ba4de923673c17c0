-- A round of n0 steps: in each step but the last np is one more and the groups stay as many; by the
-- last they double.
--
use mathlib.Core.Path.{◌≡◌, refl, sym, ap, ◌∙◌}
use mathlib.Core.Bool.{Bool, true, false, cond}
use mathlib.Core.Logic.{⊎_elim}
use Prim.Native.Nat.{ℕ, suc, ◌+◌, ◌-◌, ◌*◌, ◌%◌, ◌≤◌, ◌<◌}
use native.Mathlib.Nat.{mod-lt, mod-add-mod, mod_self, mod-eq_of_lt, add-mul, one-mul, mul_assoc, mul_comm}
use native.Mathlib.Omega.{arith}
use lib.Dec.{eqb}
use borrow.Author.Tests.{eq-eqb, ne_eqb}
use Rattle.homes.specs.declared.Stage.{Stage}
use Rattle.homes.specs.Homes.{np, next_groups}
use Rattle.homes.specs.Steps.Stages.{next_step}
use Rattle.draws.proofs.Split.{split}

module _ (n0 x : ℕ) (t : Stage) (h : 1 ≤ x) (e : t.np ≡ np n0 x) where
  -- the remainder of the next step, by that of this one
  rem_next : (suc x - 1) % n0 ≡ ((x - 1) % n0 + 1) % n0
  rem_next = let q : suc x - 1 ≡ x - 1 + 1 = omega arith in rw q (sym (mod-add-mod (x - 1) n0 1))

  -- At the end of a round np starts again, and the groups double.
  pub ends : t.np + 1 ≡ 2 * n0 → record { f = t.f + t.g; g = 2 * t.g; np = n0 } ≡ next_step n0 x t
  unfolding next_groups
  ends over =
      let last : (x - 1) % n0 + 1 ≡ n0 = omega arith in
      let again : np n0 (suc x) ≡ n0 = rw (rem_next, last, mod_self n0) (omega arith) in
      rw (eq-eqb ((x - 1) % n0) (n0 - 1) (omega arith), again)

  -- Within it np is one more, and the groups stay as many.
  pub runs : 1 ≤ n0 → (t.np + 1 ≡ 2 * n0 → ⊥) → record { f = t.f + t.g; g = t.g; np = t.np + 1 } ≡ next_step n0 x t
  unfolding next_groups
  runs low on =
      let more : (x - 1) % n0 + 1 < n0 = omega (arith, mod-lt (x - 1) low, on) in
      let up : np n0 (suc x) ≡ t.np + 1 = rw (rem_next, mod-eq_of_lt more) (omega arith) in
      rw (ne_eqb ((x - 1) % n0) (n0 - 1) (λ q. omega arith), up)

  -- Where the pages are np for each group they are so after the step.
  pub even_kept : 1 ≤ n0 → t.f ≡ t.np * t.g → t.f + t.g ≡ (next_step n0 x t).np * (next_step n0 x t).g
  even_kept low even =
      let one : t.f + t.g ≡ (t.np + 1) * t.g = rw (add-mul t.np 1 t.g, one-mul t.g, even) refl in
      ⊎_elim
      (λ lt. one ∙ ap (λ (u : Stage). u.np * u.g) (runs low (λ q. omega arith)))
      (λ ge. let over : t.np + 1 ≡ 2 * n0 = omega (arith, mod-lt (x - 1) low) in
      one ∙ ap (λ (m : ℕ). m * t.g) (over ∙ mul_comm 2 n0) ∙ mul_assoc n0 2 t.g ∙ ap (λ (u : Stage). u.np * u.g) (ends over))
      (split (t.np + 1) (2 * n0))

-- Groups that are no more after a step are as many,
pub groups_kept : (n0 x G : ℕ) → 1 ≤ G → next_groups n0 x G ≤ G → next_groups n0 x G ≡ G
unfolding next_groups
groups_kept n0 x G low = go (eqb ((x - 1) % n0) (n0 - 1))
  where
    go : (m : Bool) → cond m (2 * G) G ≤ G → cond m (2 * G) G ≡ G
    go true h = omega arith
    go false h = refl

-- and those that are more are twice as many.
pub groups_doubled : (n0 x G : ℕ) → G < next_groups n0 x G → next_groups n0 x G ≡ 2 * G
unfolding next_groups
groups_doubled n0 x G = go (eqb ((x - 1) % n0) (n0 - 1))
  where
    go : (m : Bool) → G < cond m (2 * G) G → cond m (2 * G) G ≡ 2 * G
    go true h = refl
    go false h = absurd (omega arith)
