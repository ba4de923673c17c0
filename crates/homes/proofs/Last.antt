-- The last step of a file: that the loop of `Shape::last` comes to it, and which keys it
-- leaves at home.
--
use mathlib.Core.Path.{◌≡◌, refl, sym, ◌∙◌}
use mathlib.Core.Bool.{true, false, and-false}
use mathlib.Core.Logic.{◌↔◌, ◌⊎◌, inl, inr}
use Prim.Native.Nat.{ℕ, suc, ◌+◌, ◌-◌, ◌≤◌, ◌<◌}
use native.Mathlib.Omega.{arith}
use lib.Dec.{ltb}
use borrow.Author.Tests.{eq-eqb, le-ltb}
use Rattle.homes.specs.declared.Params.{Params}
use Rattle.homes.specs.declared.Stage.{Stage}
use Rattle.homes.specs.declared.giving.Numbered.{Numbered}
use Rattle.homes.specs.Homes.{new_page, first_pages, home, InRange, shape_of}
use Rattle.homes.specs.Steps.Stages.{stage_at, After, Bounded}
use Rattle.homes.specs.Steps.Last.{numbered, last_from, last_step, Lasts, stays_at}
use Rattle.homes.proofs.Steps.{last_here, last_later}
use Rattle.homes.proofs.Homes.{home_cases, home_grown}
use Rattle.homes.proofs.Turn.{Stepping, stepping_first, few, next_is, size_next, stepping_on}

-- Before step x: that t is that step, and that the last step is that one or a later one, with
-- enough steps left to come to it.
pub record Seeking (n0 P : ℕ) (last : Numbered) (x : ℕ) (t : Stage) : Type 0 where
  pub on : Stepping n0 x t
  pub below : t.f < P
  pub left : ℕ
  pub enough : P ≤ t.f + left
  pub rest : last_from n0 P left x t ≡ last

-- It holds at the start.
pub seek_starts : (q : Params) (P : ℕ) (t : Stage) → InRange q P → first_pages q < P → t ≡ stage_at q.n0 1 (first_pages q) q.n → Bounded q.n0 t → Seeking q.n0 P (last_from q.n0 P (P - t.f) 1 t) 1 t
seek_starts q P t ranges h e sound =
    record {
      on = stepping_first q P t ranges e sound;
      below = rw e h;
      left = P - t.f;
      enough = omega arith;
      rest = refl;
    }

-- A turn keeps it.
pub seek_on : (n0 P : ℕ) (last : Numbered) (x : ℕ) (t t' : Stage) → Seeking n0 P last x t → 1 ≤ n0 → P ≤ 4096 → t.f + t.g < P → After n0 t t' → Bounded n0 t' → Seeking n0 P last (x + 1) t'
seek_on n0 P last x t t' b low high more after sound =
    let size : t'.f ≡ t.f + t.g = size_next b.on after in
    let one : x + 1 ≡ suc x = omega arith in
    let e : b.left ≡ suc (b.left - 1) = omega arith in
    record {
      on = stepping_on b.on after low (omega arith) sound;
      below = omega arith;
      left = b.left - 1;
      enough = omega (arith, b.on.sound.0);
      rest = rw (one, next_is b.on after, ← last_later n0 P (b.left - 1) x t more, ← e) b.rest;
    }

-- At its end it has come to the last step.
pub seek_ends : (n0 P : ℕ) (last : Numbered) (x : ℕ) (t : Stage) → Seeking n0 P last x t → P ≤ 4096 → P ≤ t.f + t.g → (numbered x t ≡ last) × Lasts n0 P (numbered x t)
seek_ends n0 P last x t b high reach = (
  sym (last_here n0 P b.left x t reach) ∙ b.rest,
  record {
    np_is = b.on.np_is;
    sound = b.on.sound;
    few = few b.on (omega (arith, b.below));
    below = b.below;
    reach = reach;
  },
)

-- A page whose group grows into the added page isn't told to stay.
leaves : (s : ℕ) (last : Stage) (added a : ℕ) → new_page s last.f last.g a ≡ added → stays_at s last added a ≡ false
unfolding stays_at
leaves s last added a e = rw (eq-eqb _ _ e) (and-false (ltb a added))

-- Nor is the added page, or one after it.
ends : (s : ℕ) (last : Stage) (added a : ℕ) → added ≤ a → stays_at s last added a ≡ false
unfolding stays_at
ends s last added a l = rw (le-ltb a added l)

-- A page that is told to stay is the home of the same keys before page P is added and after.
pub beside : (q : Params) (P K a : ℕ) → InRange q P → stays_at q.s (last_step (shape_of q (P + 1))) P a ≡ true → (home q P K ≡ a) ↔ (home q (P + 1) K ≡ a)
beside q P K a r stays = (before (home_cases q P K r), after (home_grown q P K r))
  where
    last : Stage
    last = last_step (shape_of q (P + 1))

    before : (home q (P + 1) K ≡ home q P K) ⊎ ((home q (P + 1) K ≡ P) × (new_page q.s last.f last.g (home q P K) ≡ P)) → home q P K ≡ a → home q (P + 1) K ≡ a
    before (inl e) here = e ∙ here
    before (inr w) here =
        let no : stays_at q.s last P a ≡ false = leaves q.s last P a (rw here at w.1) in
        cc

    after : (home q (P + 1) K ≡ home q P K) ⊎ (home q (P + 1) K ≡ P) → home q (P + 1) K ≡ a → home q P K ≡ a
    after (inl e) here = sym e ∙ here
    after (inr e) here =
        let no : stays_at q.s last P a ≡ false = ends q.s last P a (omega arith) in
        cc
