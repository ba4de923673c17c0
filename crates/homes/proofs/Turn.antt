-- What the loops of `Shape::home` and `lanes::homes` hold before a step, and that a step keeps it.
-- On plain numbers.
use mathlib.Core.Path.{◌≡◌, sym, ap, ◌∙◌}
use Prim.Native.Nat.{ℕ, zero, suc, ◌+◌, ◌-◌, ◌*◌, ◌/◌, ◌%◌, ◌≤◌, ◌<◌}
use native.Mathlib.Nat.{zero-mod}
use native.Mathlib.Omega.{arith}
use lib.Dec.{leb}
use Rattle.homes.specs.declared.Params.{Params}
use Rattle.homes.specs.declared.Stage.{Stage}
use Rattle.draws.specs.Draws.{seed_of, draw, later}
use Rattle.homes.specs.Homes.{np, mover, new_page, moved_to, next_groups, steps, first_pages, home, InRange}
use Rattle.draws.specs.Steps.Powers.{power, limit, Drawable}
use Rattle.homes.specs.Steps.Stages.{stage_at, next_step, After, Bounded}
use Rattle.draws.proofs.Draws.{drawable, drawn, limit_is}
use Rattle.homes.proofs.Forty.{size_after, size_forty}
use Rattle.homes.proofs.Round.{even_kept, groups_kept, groups_doubled}
use Rattle.homes.proofs.Steps.{turn, stopped}

-- t is step x: its np, how its pages are grouped, and that size 4,096 is reached by step 40.
pub record Stepping (n0 x : ℕ) (t : Stage) : Type 0 where
  pub first : 1 ≤ x
  pub np_is : t.np ≡ np n0 x
  pub sound : Bounded n0 t
  pub even : t.f ≡ t.np * t.g
  pub small : t.f ≤ 8192
  pub left : ℕ
  pub count : x + left ≡ 41
  pub reach : 4096 ≤ size_after n0 left x t.f t.g

-- The home of a key by the numbers that the loops have, of which d says how many draws after draw x
-- step x takes its draw.
abbrev pub home_by : (d n0 N s P K : ℕ) → ℕ
home_by d n0 N s P K = steps (λ y F. mover d n0 K y) (new_page s) n0 P (P - n0 * N) 1 (n0 * N) N (K % (n0 * N))

-- It is that of the file with these numbers.
pub home_by_lem : (q : Params) (d N s P K : ℕ) → d ≡ later q.edition → N ≡ q.n → s ≡ q.s → home_by d q.n0 N s P K ≡ home q P K
unfolding home
home_by_lem q d N s P K e f g = rw (e, f, g)

-- The steps from step x on lead a key from page a to its home.
abbrev pub Leads : (d n0 N s P K x : ℕ) (t : Stage) (a : ℕ) → Type 0
Leads d n0 N s P K x t a = steps (λ y F. mover d n0 K y) (new_page s) n0 P (P - t.f) x t.f t.g a ≡ home_by d n0 N s P K

-- The first step has n0 pages for each group.
np_first : (n0 : ℕ) → np n0 1 ≡ n0
np_first n0 = omega (arith, zero-mod n0)

-- The first step is step 1,
pub stepping_first : (q : Params) (P : ℕ) (t : Stage) → InRange q P → t ≡ stage_at q.n0 1 (first_pages q) q.n → Bounded q.n0 t → Stepping q.n0 1 t
stepping_first q P t ranges e sound =
    record {
      first = omega arith;
      np_is = rw e;
      sound = sound;
      even = rw (e, np_first q.n0);
      small = rw e (omega (arith, ranges.p_low, ranges.p_high));
      left = 40;
      count = omega arith;
      reach = rw e (size_forty q.n0 q.n ranges.n0_low ranges.n0_high ranges.n_low);
    }

-- and leads a key home from its remainder.
pub leads_first : (d n0 N s P K : ℕ) (t : Stage) → t ≡ stage_at n0 1 (n0 * N) N → Leads d n0 t.g s P K 1 t (K % t.f)
leads_first d n0 N s P K t e = rw e

module _ {n0 x : ℕ} {t : Stage} (on : Stepping n0 x t) where
  -- Below size 4,096 step x is one of the forty.
  pub few : t.f < 4096 → x ≤ 40
  unfolding size_after
  few h = go on.left on.count on.reach
    where
      go : (l : ℕ) → x + l ≡ 41 → 4096 ≤ size_after n0 l x t.f t.g → x ≤ 40
      go zero c r = absurd (omega arith)
      go (suc l) c r = omega arith

  -- What is left to reach after a step.
  onward : t.f < 4096 → (l : ℕ) × (x + 1 + l ≡ 41) × (4096 ≤ size_after n0 l (suc x) (t.f + t.g) (next_groups n0 x t.g))
  unfolding size_after
  onward h = go on.left on.count on.reach
    where
      go : (l : ℕ) → x + l ≡ 41 → 4096 ≤ size_after n0 l x t.f t.g → (l : ℕ) × (x + 1 + l ≡ 41) × (4096 ≤ size_after n0 l (suc x) (t.f + t.g) (next_groups n0 x t.g))
      go zero c r = absurd (omega arith)
      go (suc l) c r = (l, omega arith, r)

  module _ {t' : Stage} (after : After n0 t t') where
    pub next_is : t' ≡ next_step n0 x t
    next_is = after x on.first on.np_is

    groups_next : t'.g ≡ next_groups n0 x t.g
    groups_next = ap (λ (u : Stage). u.g) next_is

    -- A step adds a page for each group.
    pub size_next : t'.f ≡ t.f + t.g
    size_next = ap (λ (u : Stage). u.f) next_is

    -- It leaves the groups as they are where they are no more,
    pub groups_same : t'.g ≤ t.g → t'.g ≡ t.g
    groups_same h = groups_next ∙ groups_kept n0 x t.g on.sound.0 (omega (arith, groups_next))

    -- or else makes them twice as many.
    pub groups_twice : t.g < t'.g → t'.g ≡ 2 * t.g
    groups_twice h = groups_next ∙ groups_doubled n0 x t.g (omega (arith, groups_next))

    -- The step after step x is step x + 1,
    pub stepping_on : 1 ≤ n0 → t.f < 4096 → Bounded n0 t' → Stepping n0 (x + 1) t'
    stepping_on low below sound =
        let e : x + 1 ≡ suc x = omega arith in
        let more = onward below in
        record {
          first = omega arith;
          np_is = rw e (ap (λ (u : Stage). u.np) next_is);
          sound = sound;
          even = rw next_is (even_kept n0 x t on.first on.np_is low on.even);
          small = omega (arith, size_next, on.sound.1);
          left = more.0;
          count = more.1;
          reach = rw (e, next_is) more.2;
        }

    -- and it leads home from where step x takes a key.
    pub leads_on : (d N s P K a a' : ℕ) → t.f < P → a' ≡ moved_to P (mover d n0 K x) (new_page s t.f t.g a) a → Leads d n0 N s P K x t a → Leads d n0 N s P K (x + 1) t' a'
    leads_on d N s P K a a' below moved rest =
        let e : x + 1 ≡ suc x = omega arith in
        rw (e, next_is, moved, ← turn (λ y F. mover d n0 K y) (new_page s) n0 P x t.f t.g a below on.sound.0) rest

-- At size P a key is at home.
pub leads_home : (d n0 N s P K x : ℕ) (t : Stage) (a : ℕ) → P ≤ t.f → Leads d n0 N s P K x t a → a ≡ home_by d n0 N s P K
leads_home d n0 N s P K x t a h rest =
    sym (stopped (λ y F. mover d n0 K y) (new_page s) n0 P (P - t.f) x t.f t.g a h) ∙ rest

-- A power from the table and a key's doubled seed give a draw,
pub draws : (K x p z : ℕ) → p ≡ power x → z ≡ 2 * seed_of K → Drawable z p
draws K x p z e f = rw (e, f) (drawable K x)

-- and the code's test for a mover, by it and the limit for np, is 01's.
pub mover_by : (d n0 K x p z r l m : ℕ) → p ≡ power (x + d) → z ≡ 2 * seed_of K → r ≡ p * (z / 2) % 2147483647 → l ≡ limit m → m ≡ np n0 x → leb r l ≡ mover d n0 K x
unfolding mover
mover_by d n0 K x p z r l m e f g h k = rw (g, e, f, drawn K (x + d), h, k) (limit_is (draw (seed_of K) (x + d)) (np n0 x))
