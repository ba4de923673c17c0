-- The laws of the steps, for any test of a mover and any way to a new page that leads into [F, F +
-- G).
--
use mathlib.Core.Path.{◌≡◌, refl, sym, ◌∙◌}
use mathlib.Core.Bool.{Bool, true, false, cond, ◌&&◌, and-false}
use mathlib.Core.Logic.{◌⊎◌, inl, inr, ⊎_elim}
use Prim.Native.Nat.{ℕ, zero, suc, ◌+◌, ◌-◌, ◌*◌, ◌%◌, ◌≤◌, ◌<◌}
use native.Mathlib.Omega.{arith}
use lib.Dec.{ltb, eqb}
use borrow.Author.Tests.{ltb-true, ltb-false, eqb-true, lt-ltb, le-ltb, eq-eqb, ne_eqb}
use Rattle.homes.specs.declared.Stage.{Stage}
use Rattle.homes.specs.Homes.{moved_to, next_groups, steps}
use Rattle.homes.specs.Steps.Stages.{stage_at, next_step}
use Rattle.homes.specs.Steps.Last.{numbered, last_from}
use Rattle.draws.proofs.Split.{split}

-- A way to a new page leads into the pages that a step adds.
pub record Into (goes : ℕ → ℕ → ℕ → ℕ) : Type 0 where
  pub low : (F G a : ℕ) → F ≤ goes F G a
  pub high : (F G a : ℕ) → 0 < G → goes F G a < F + G

-- Nobody goes to page P or a page past it.
pub moved_past : (P : ℕ) (mv : Bool) (new a : ℕ) → P ≤ new → moved_to P mv new a ≡ a
unfolding moved_to
moved_past P mv new a h = rw (le-ltb new P h) (none mv)
  where
    none : (m : Bool) → cond (m && false) new a ≡ a
    none true = refl
    none false = refl

-- A step from a page below Q leads to a page below Q, where a new page below P is one.
pub moved_below : (P Q : ℕ) (mv : Bool) (new a : ℕ) → (new < P → new < Q) → a < Q → moved_to P mv new a < Q
unfolding moved_to
moved_below P Q mv new a l h = go mv (ltb new P) refl
  where
    go : (m u : Bool) → ltb new P ≡ u → cond (m && u) new a < Q
    go false u e = h
    go true false e = h
    go true true e = l (ltb-true new P e)

-- To a page below P a step leads with one page more as well.
moved_alike : (P : ℕ) (mv : Bool) (new a : ℕ) → new < P → moved_to (P + 1) mv new a ≡ moved_to P mv new a
unfolding moved_to
moved_alike P mv new a h = rw (lt-ltb new P h, lt-ltb new (P + 1) (omega arith))

-- There is always a group.
pub groups_pos : (n0 x G : ℕ) → 0 < G → 0 < next_groups n0 x G
unfolding next_groups
groups_pos n0 x G h = go (eqb ((x - 1) % n0) (n0 - 1))
  where
    go : (t : Bool) → 0 < cond t (2 * G) G
    go true = omega arith
    go false = h

-- A step that reaches size P is the last.
pub last_here : (n0 P left x : ℕ) (t : Stage) → P ≤ t.f + t.g → last_from n0 P left x t ≡ numbered x t
unfolding last_from
last_here n0 P zero x t h = refl
last_here n0 P (suc left) x t h = rw (le-ltb (t.f + t.g) P h)

-- After any other step the last is still to come.
pub last_later : (n0 P left x : ℕ) (t : Stage) → t.f + t.g < P → last_from n0 P (suc left) x t ≡ last_from n0 P left (suc x) (next_step n0 x t)
unfolding last_from
last_later n0 P left x t h = rw (lt-ltb (t.f + t.g) P h)

module _ (moves : ℕ → ℕ → Bool) (goes : ℕ → ℕ → ℕ → ℕ) (n0 P : ℕ) where
  -- At size P or past it no step is taken.
  pub stopped : (left x F G a : ℕ) → P ≤ F → steps moves goes n0 P left x F G a ≡ a
  unfolding steps
  stopped zero x F G a h = refl
  stopped (suc left) x F G a h = rw (le-ltb F P h)

  -- Below size P a step is taken.
  pub goes_on : (left x F G a : ℕ) → F < P → steps moves goes n0 P (suc left) x F G a ≡ steps moves goes n0 P left (suc x) (F + G) (next_groups n0 x G) (moved_to P (moves x F) (goes F G a) a)
  unfolding steps
  goes_on left x F G a h = rw (lt-ltb F P h)

  -- P - F steps are enough: the bound never cuts the steps short.
  pub enough : (m n x F G a : ℕ) → 0 < G → P - F ≤ m → P - F ≤ n → steps moves goes n0 P m x F G a ≡ steps moves goes n0 P n x F G a
  enough zero n x F G a h_g hm hn = stopped zero x F G a (omega arith) ∙ sym (stopped n x F G a (omega arith))
  enough (suc m) zero x F G a h_g hm hn = stopped (suc m) x F G a (omega arith) ∙ sym (stopped zero x F G a (omega arith))
  enough (suc m) (suc n) x F G a h_g hm hn =
      let a' = moved_to P (moves x F) (goes F G a) a in
      let rest = enough m n (suc x) (F + G) (next_groups n0 x G) a' (groups_pos n0 x G h_g) (omega arith) (omega arith) in
      ⊎_elim
      (λ lt. goes_on m x F G a lt ∙ rest ∙ sym (goes_on n x F G a lt))
      (λ ge. stopped (suc m) x F G a ge ∙ sym (stopped (suc n) x F G a ge))
      (split F P)

  -- One turn, with just enough steps left before it and after it.
  pub turn : (x F G a : ℕ) → F < P → 0 < G → steps moves goes n0 P (P - F) x F G a ≡ steps moves goes n0 P (P - (F + G)) (suc x) (F + G) (next_groups n0 x G) (moved_to P (moves x F) (goes F G a) a)
  turn x F G a h h_g =
      let a' = moved_to P (moves x F) (goes F G a) a in
      enough (P - F) (suc (P - F)) x F G a h_g (omega arith) (omega arith)
      ∙ goes_on (P - F) x F G a h
      ∙ enough (P - F) (P - (F + G)) (suc x) (F + G) (next_groups n0 x G) a' (groups_pos n0 x G h_g) (omega arith) (omega arith)

  -- From a page below P the steps lead to a page below P.
  pub steps_below : (left x F G a : ℕ) → a < P → steps moves goes n0 P left x F G a < P
  unfolding steps
  steps_below zero x F G a h = h
  steps_below (suc left) x F G a h =
      go (ltb F P) (steps_below left (suc x) (F + G) (next_groups n0 x G) _ (moved_below P P (moves x F) (goes F G a) a (λ l. l) h))
    where
      go : {on : ℕ} (t : Bool) → on < P → cond t on a < P
      go true l = l
      go false l = h

  -- Of the steps from one on that reaches size P only that one is taken, or none.
  last_taken : (left x F G a : ℕ) → P ≤ F + left → P ≤ F + G → F ≤ goes F G a → steps moves goes n0 P left x F G a ≡ moved_to P (moves x F) (goes F G a) a
  last_taken left x F G a enough reach low =
      ⊎_elim (on left enough) (λ ge. stopped left x F G a ge ∙ sym (moved_past P (moves x F) (goes F G a) a (omega arith))) (split F P)
    where
      on : (l : ℕ) → P ≤ F + l → F < P → steps moves goes n0 P l x F G a ≡ moved_to P (moves x F) (goes F G a) a
      on zero h lt = absurd (omega arith)
      on (suc l) h lt = goes_on l x F G a lt ∙ stopped l (suc x) (F + G) (next_groups n0 x G) _ reach

-- What one page more, page P, makes of a page, where the last step is at size F with G groups: for
-- a mover page P, where the page was there before the step and the step leads from it to P.
abbrev pub grown_to : (goes : ℕ → ℕ → ℕ → ℕ) (P F G : ℕ) → Bool → (a : ℕ) → ℕ
grown_to goes P F G mv a = cond (ltb a F && eqb (goes F G a) P && mv) P a

-- So the page stays, or becomes P, where the step leads there from it.
pub grown_cases : (goes : ℕ → ℕ → ℕ → ℕ) (P F G : ℕ) (mv : Bool) (a : ℕ) → (grown_to goes P F G mv a ≡ a) ⊎ ((grown_to goes P F G mv a ≡ P) × (goes F G a ≡ P))
grown_cases goes P F G mv a = go (ltb a F) (eqb (goes F G a) P) mv refl
  where
    go : (t u m : Bool) → eqb (goes F G a) P ≡ u → (cond (t && u && m) P a ≡ a) ⊎ ((cond (t && u && m) P a ≡ P) × (goes F G a ≡ P))
    go false u m e = inl refl
    go true false m e = inl refl
    go true true false e = inl refl
    go true true true e = inr (refl, eqb-true (goes F G a) P e)

module _ (moves : ℕ → ℕ → Bool) (goes : ℕ → ℕ → ℕ → ℕ) (into : Into goes) (n0 P : ℕ) where
  -- The last step does so.
  moved_grown : (F G : ℕ) (mv : Bool) (a : ℕ) → a < F → moved_to (P + 1) mv (goes F G a) a ≡ grown_to goes P F G mv (moved_to P mv (goes F G a) a)
  unfolding moved_to
  moved_grown F G mv a below = go mv (ltb (goes F G a) P) (ltb (goes F G a) (P + 1)) refl refl
    where
      go : (m u v : Bool) → ltb (goes F G a) P ≡ u → ltb (goes F G a) (P + 1) ≡ v → cond (m && v) (goes F G a) a ≡ grown_to goes P F G m (cond (m && u) (goes F G a) a)
      go false u v e e' = rw (and-false (ltb a F && eqb (goes F G a) P))
      go true true true e e' = rw (le-ltb (goes F G a) F (into.low F G a))
      go true true false e e' = absurd (omega (arith, ltb-true, ltb-false))
      go true false false e e' =
          let past : eqb (goes F G a) P ≡ false = ne_eqb (goes F G a) P (λ q. omega (arith, ltb-false (goes F G a) (P + 1) e')) in
          rw (past, and-false (ltb a F))
      go true false true e e' =
          let here : goes F G a ≡ P = omega (arith, ltb-true, ltb-false) in
          rw (lt-ltb a F below, eq-eqb (goes F G a) P here) here

  -- what is shown of the steps with one page more
  abbrev Grown : (left x F G a : ℕ) → Type 0
  Grown left x F G a =
      let last = last_from n0 (P + 1) left x (stage_at n0 x F G) in
      steps moves goes n0 (P + 1) left x F G a ≡ grown_to goes P last.stage.f last.stage.g (moves last.x last.stage.f) (steps moves goes n0 P left x F G a)

  -- The last step is taken with one page more and without it,
  grown_here : (left x F G a : ℕ) → a < F → P + 1 ≤ F + left → P + 1 ≤ F + G → Grown left x F G a
  grown_here left x F G a below most over =
      let low = into.low F G a in
      rw (last_here n0 (P + 1) left x (stage_at n0 x F G) over, last_taken moves goes n0 (P + 1) left x F G a most over low, last_taken moves goes n0 P left x F G a (omega arith) (omega arith) low)
      (moved_grown F G (moves x F) a below)

  -- and a step before it does the same in both.
  grown_on : (left x F G a : ℕ) → 0 < G → F + G < P + 1 → Grown left (suc x) (F + G) (next_groups n0 x G) (moved_to P (moves x F) (goes F G a) a) → Grown (suc left) x F G a
  grown_on left x F G a h_g lt rest =
      rw (last_later n0 (P + 1) left x (stage_at n0 x F G) lt, goes_on moves goes n0 (P + 1) left x F G a (omega arith), goes_on moves goes n0 P left x F G a (omega arith), moved_alike P (moves x F) (goes F G a) a (omega (arith, into.high F G a h_g)))
      rest

  -- From a page below F, and with enough steps left for both, the steps lead with one page more to
  -- what the last of them makes of the page that they lead to without it.
  steps_grown : (left x F G a : ℕ) → a < F → 0 < G → P + 1 ≤ F + left → Grown left x F G a
  steps_grown zero x F G a below h_g most = grown_here zero x F G a below most (omega arith)
  steps_grown (suc left) x F G a below h_g most =
      let new : moved_to P (moves x F) (goes F G a) a < F + G = moved_below P (F + G) (moves x F) (goes F G a) a (λ l. into.high F G a h_g) (omega arith) in
      let rest = steps_grown left (suc x) (F + G) (next_groups n0 x G) (moved_to P (moves x F) (goes F G a) a) new (groups_pos n0 x G h_g) (omega arith) in
      ⊎_elim (λ lt. grown_on left x F G a h_g lt rest) (grown_here (suc left) x F G a below most) (split (F + G) (P + 1))

  -- The same with just enough steps left in both.
  pub grown : (x F G a : ℕ) → a < F → 0 < G → let last = last_from n0 (P + 1) (P + 1 - F) x (stage_at n0 x F G) in steps moves goes n0 (P + 1) (P + 1 - F) x F G a ≡ grown_to goes P last.stage.f last.stage.g (moves last.x last.stage.f) (steps moves goes n0 P (P - F) x F G a)
  grown x F G a below h_g =
      rw (← enough moves goes n0 P (P + 1 - F) (P - F) x F G a h_g (omega arith) (omega arith)) (steps_grown (P + 1 - F) x F G a below h_g (omega arith))
