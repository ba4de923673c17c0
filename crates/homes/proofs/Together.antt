-- A step of a key that is kept as a lane, alone and with others. On plain numbers.
--
use mathlib.Core.Path.{◌≡◌, refl, sym, ap, subst, ◌∙◌}
use mathlib.Core.Bool.{Bool, true, false, cond, ◌&&◌, false≢true}
use mathlib.Core.Logic.{◌⊎◌, inl, inr, ⊎_elim}
use mathlib.Core.List.{List, [], ◌∷◌, map}
use Prim.Native.Nat.{ℕ, zero, suc, ◌+◌, ◌-◌, ◌*◌, ◌%◌, ◌≤◌, ◌<◌}
use native.Mathlib.Nat.{mul-add-mod_self_right, mod-eq_of_lt}
use native.Mathlib.Omega.{arith}
use lib.ListN.{length, get_or}
use lib.Dec.{ltb, eqb}
use borrow.Author.Tests.{lt-ltb, ltb-true, ltb-false, eq-eqb, eqb-true}
use Rattle.homes.specs.declared.Stage.{Stage}
use Rattle.homes.specs.declared.lane.Lane.{Lane}
use Rattle.draws.specs.Draws.{seed_of}
use Rattle.homes.specs.Homes.{new_page, moved_to, mover}
use Rattle.homes.specs.Steps.Stages.{After}
use Rattle.homes.specs.Steps.Lanes.{address_of, InGroup, aimed, stepped_to, gone_to, picked}
use Rattle.draws.proofs.Split.{split}
use Rattle.homes.proofs.New.{swept_from, swept_high}
use Rattle.homes.proofs.Turn.{Stepping, Leads, leads_on, size_next, groups_same, groups_twice}

-- The page of a lane's new page.
new_of : (s F G np : ℕ) (l : Lane) → l.group < G → new_page s F G (address_of G l) ≡ F + (aimed s G np l).group
new_of s F G np l h =
    let group : address_of G l % G ≡ l.group = mul-add-mod_self_right l.turn G l.group ∙ mod-eq_of_lt h in
    rw group (swept_from s F G (G - 1 - l.group))

-- A lane that goes to its group's new page, or stays, is one of the groups' lanes.
either_fits : (s G np : ℕ) (l : Lane) (m : Bool) → 1 ≤ s → np < 8 → InGroup G l → InGroup G (cond m (aimed s G np l) l)
either_fits s G np l true h low fits = (low, omega (arith, swept_high s 0 G (G - 1 - l.group) h (omega arith)))
either_fits s G np l false h low fits = fits

-- So is one after a step, with others
pub gone_fits : (s G np m : ℕ) (l : Lane) → 1 ≤ s → np < 8 → InGroup G l → InGroup G (gone_to s G np m l)
unfolding gone_to
gone_fits s G np m l = either_fits s G np l (eqb m 1)

-- or alone.
pub step_fits : (s P : ℕ) (t : Stage) (moves : Bool) (l : Lane) → 1 ≤ s → t.np < 8 → InGroup t.g l → InGroup t.g (stepped_to s P t moves l)
unfolding stepped_to
step_fits s P t moves l = either_fits s t.g t.np l (moves && ltb (t.f + (aimed s t.g t.np l).group) P)

module _ (s : ℕ) (t : Stage) (l : Lane) where
  -- the new page of a lane in step t, and the lane of one that goes there or not
  abbrev new : Lane
  new = aimed s t.g t.np l

  abbrev either : Bool → Lane
  either m = cond m new l

  -- Its page is the step's new page or the old one.
  either_page : (m : Bool) → t.f ≡ t.np * t.g → address_of t.g (either m) ≡ cond m (t.f + new.group) (address_of t.g l)
  either_page true even = ap (λ (n : ℕ). n + new.group) (sym even)
  either_page false even = refl

  -- So a step comes to a page below the size after it.
  pub gone_below : t.f ≡ t.np * t.g → InGroup t.g l → 1 ≤ s → (m : ℕ) → address_of t.g l < t.f → address_of t.g (gone_to s t.g t.np m l) < t.f + t.g
  unfolding gone_to
  gone_below even fits h m below = go (eqb m 1)
    where
      go : (b : Bool) → address_of t.g (either b) < t.f + t.g
      go true = omega (arith, either_page true even, swept_high s 0 t.g (t.g - 1 - l.group) h (omega arith))
      go false = omega arith

  module _ (P : ℕ) (even : t.f ≡ t.np * t.g) (fits : InGroup t.g l) where
    -- where the new page is
    at : new_page s t.f t.g (address_of t.g l) ≡ t.f + new.group
    at = new_of s t.f t.g t.np l fits.1

    -- A step of a lane alone is a step of its page.
    pub step_page : (moves : Bool) → address_of t.g (stepped_to s P t moves l) ≡ moved_to P moves (new_page s t.f t.g (address_of t.g l)) (address_of t.g l)
    unfolding stepped_to moved_to
    step_page moves = rw at (either_page (moves && ltb (t.f + new.group) P) even)

    -- So is one with the others, once it is seen which new pages are there.
    pub gone_page : (m : ℕ) (moves : Bool) → eqb m 1 ≡ moves → address_of t.g l < P → picked P (address_of t.g (gone_to s t.g t.np m l)) (address_of t.g l) ≡ moved_to P moves (new_page s t.f t.g (address_of t.g l)) (address_of t.g l)
    unfolding gone_to moved_to
    gone_page m moves e below = rw (e, at) (go moves)
      where
        go : (b : Bool) → picked P (address_of t.g (either b)) (address_of t.g l) ≡ cond (b && ltb (t.f + new.group) P) (t.f + new.group) (address_of t.g l)
        go true = rw (either_page true even)
        go false = rw (lt-ltb (address_of t.g l) P below)

-- A step of a lane alone leads home from where it takes the key.
pub lane_on : {n0 x : ℕ} {t t' : Stage} (on : Stepping n0 x t) → After n0 t t' → (d N s P K : ℕ) (moves : Bool) (l l' : Lane) → t.f < P → moves ≡ mover d n0 K x → InGroup t.g l → l' ≡ stepped_to s P t moves l → Leads d n0 N s P K x t (address_of t.g l) → Leads d n0 N s P K (x + 1) t' (address_of t.g l')
lane_on {t = t} on after d N s P K moves l l' below m fits e rest =
    leads_on on after d N s P K (address_of t.g l) (address_of t.g l') below (rw (e, ← m) (step_page s t l P on.even fits moves)) rest

-- A page below P is picked.
pub picks : (P a b : ℕ) → a < P → picked P a b ≡ a
picks P a b h = rw (lt-ltb a P h)

-- A step of many lanes: a lane of G groups before it and after it, with their pages, where m is 1
-- for a mover.
module _ {n0 x : ℕ} {t t' : Stage} (on : Stepping n0 x t) (after : After n0 t t') (s G m page page' : ℕ) (l l' : Lane) (same : t.g ≡ G) (fits : InGroup G l) (at_page : page ≡ address_of G l) (below : page < t.f) (is : l' ≡ gone_to s G t.np m l) (at_page' : page' ≡ address_of G l') where
  -- the same by the groups of the step
  in_step : InGroup t.g l
  in_step = rw same fits

  old : page ≡ address_of t.g l
  old = rw same at_page

  gone : page' ≡ address_of t.g (gone_to s t.g t.np m l)
  gone = rw (same, ← is) at_page'

  -- It leads home from where it takes the key, once it is seen which new pages are there,
  pub all_on : (d N P K before : ℕ) → t.f < P → eqb m 1 ≡ mover d n0 K x → Leads d n0 N s P K x t (picked P page before) → Leads d n0 N s P K (x + 1) t' (picked P page' page)
  all_on d N P K before small moves rest =
      let moved : picked P page' page ≡ moved_to P (mover d n0 K x) (new_page s t.f t.g page) page = rw (gone, old) (gone_page s t l P on.even in_step m (mover d n0 K x) moves (omega (arith, old))) in
      leads_on on after d N s P K (picked P page before) (picked P page' page) small (rw (picks P page before (omega arith)) moved) rest

  -- and takes it to a page of the step after it.
  pub all_below : 1 ≤ s → page' < t'.f
  all_below low = omega (arith, gone, size_next on after, gone_below s t l on.even in_step low m (omega (arith, old)))

-- A number that is 1 for a mover is told from 0.
pub moves_told : (m : ℕ) (b : Bool) → m ≡ cond b 1 0 → eqb m 1 ≡ b
moves_told m b e = rw e (go b)
  where
    go : (c : Bool) → eqb (cond c 1 0) 1 ≡ c
    go true = refl
    go false = refl

-- From one place of the loops of `lanes::homes` to a later one: where the steps lead a key home
-- from what is picked of its pages there, they do so here.
abbrev pub Kept : (d n0 s P : ℕ) (seeds : List ℕ) (x₀ : ℕ) (t₀ : Stage) (after₀ before₀ : List ℕ) (x : ℕ) (t : Stage) (after before : List ℕ) → Type 0
Kept d n0 s P seeds x₀ t₀ a₀ b₀ x t a b =
    (i N K : ℕ) → i < 12 → get_or seeds i 0 ≡ 2 * seed_of K → Leads d n0 N s P K x₀ t₀ (picked P (get_or a₀ i 0) (get_or b₀ i 0)) → Leads d n0 N s P K x t (picked P (get_or a i 0) (get_or b i 0))

-- It goes on through a round, which has the same sweeps, and then to rows of the same pages.
pub kept_over : (d n0 s s' P : ℕ) (seeds : List ℕ) (x₀ x₁ x : ℕ) (t₀ t₁ t : Stage) (a₀ b₀ a₁ b₁ a b a' : List ℕ) → s' ≡ s → Kept d n0 s P seeds x₀ t₀ a₀ b₀ x₁ t₁ a₁ b₁ → Kept d n0 s' P seeds x₁ t₁ a₁ b₁ x t a b → ((i : ℕ) → i < 12 → get_or a' i 0 ≡ get_or a i 0) → Kept d n0 s P seeds x₀ t₀ a₀ b₀ x t a' b
kept_over d n0 s s' P seeds x₀ x₁ x t₀ t₁ t a₀ b₀ a₁ b₁ a b a' e k k' same =
    let on : Kept d n0 s P seeds x₁ t₁ a₁ b₁ x t a b = subst (λ (z : ℕ). Kept d n0 z P seeds x₁ t₁ a₁ b₁ x t a b) e k' in
    λ i N K h q l. rw (same i h) (on i N K h q (k i N K h q l))

-- How a round goes on: with the groups that it began with, or, when it is over, twice as many.
abbrev pub Rounding : (G : ℕ) (t₀ t : Stage) → Type 0
Rounding G t₀ t = ((t.g ≡ G) × (t₀.f ≤ t.f)) ⊎ ((t.g ≡ 2 * G) × (t₀.f < t.f))

-- A step in a round goes on with it.
pub rounding_on : {n0 x : ℕ} {t t' : Stage} (on : Stepping n0 x t) → After n0 t t' → (G : ℕ) (t₀ : Stage) → t.g ≡ G → Rounding G t₀ t → Rounding G t₀ t'
rounding_on {t = t} {t' = t'} on after G t₀ same r =
    let grown : t₀.f < t'.f = omega (arith, size_next on after, on.sound, ⊎_elim {C = t₀.f ≤ t.f} (λ w. w.1) (λ w. omega (arith, w.1)) r) in
    ⊎_elim
    (λ lt. inr (groups_twice on after lt ∙ ap (λ (n : ℕ). 2 * n) same, grown))
    (λ ge. inl (groups_same on after ge ∙ same, omega arith))
    (split t.g t'.g)

-- In a round that goes on the groups are as many, and the size is below P.
pub round_goes : (g G f P : ℕ) → (eqb g G && ltb f P) ≡ true → (g ≡ G) × (f < P)
round_goes g G f P = go (eqb g G) (ltb f P) refl refl
  where
    go : (u v : Bool) → eqb g G ≡ u → ltb f P ≡ v → (u && v) ≡ true → (g ≡ G) × (f < P)
    go true true e d h = (eqb-true g G e, ltb-true f P d)
    go true false e d h = absurd (false≢true h)
    go false v e d h = absurd (false≢true h)

-- When it stops the size has grown, and below P there are twice as many groups.
pub round_stops : (G P : ℕ) (t₀ t : Stage) → t₀.f < P → Rounding G t₀ t → (eqb t.g G && ltb t.f P) ≡ false → (t₀.f < t.f) × (t.f < P → t.g ≡ 2 * G)
round_stops G P t₀ t low (inr w) h = (w.1, λ l. w.0)
round_stops G P t₀ t low (inl w) h =
    let over : P ≤ t.f = ltb-false t.f P (rw (eq-eqb t.g G w.0) at h) in
    (omega arith, λ l. absurd (omega arith))

-- A list that has f of each key at the key's place is the keys' map.
pub mapped : (f : ℕ → ℕ) (r keys : List ℕ) → length r ≡ length keys → ((i : ℕ) → i < length r → get_or r i 0 ≡ f (get_or keys i 0)) → r ≡ map f keys
mapped f [] [] e h = refl
mapped f [] (k ∷ ks) e h = absurd (omega arith)
mapped f (x ∷ xs) [] e h = absurd (omega arith)
mapped f (x ∷ xs) (k ∷ ks) e h = λ i. h zero (omega arith) i ∷ mapped f xs ks (omega arith) (λ n b. h (suc n) (omega arith)) i
