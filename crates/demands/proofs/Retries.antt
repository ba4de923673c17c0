-- A put of a held key beside a find of it, on any bytes.
use mathlib.Core.Path.{◌≡◌, refl, sym, ap, ◌∙◌}
use mathlib.Core.Bool.{Bool, true, false}
use mathlib.Core.Logic.{◌↔◌, inl, inr}
use mathlib.Core.List.{List, [], ◌∷◌}
use Prim.Native.Nat.{ℕ, ◌-◌}
use native.Mathlib.Decide.{ℕ_discrete}
use native.Mathlib.Omega.{arith}
use lib.Dec.{eqb}
use lib.ListN.{length}
use Rattle.std.proofs.Common.{Ok, Err}
use Rattle.layouts.specs.Layout.{slots_on, slots_of}
use Rattle.pages.specs.Page.{Record, key, value}
use Rattle.pages.specs.Area.{pages_from}
use Rattle.state.specs.declared.State.{State}
use Rattle.state.specs.declared.Numbers.{Numbers}
use Rattle.state.specs.State.{homes, one_more}
use Rattle.state.specs.Answer.{told, numbers, refused as why_told, again}
use Rattle.state.proofs.Answers.{again_same, again_other}
use Rattle.walks.specs.declared.Met.TheVariants.{Found, Ends, AtEnd}
use Rattle.walks.specs.Walks.{Walks, Walked, went, stopped, walk, find_answer, carry, put_met, put_walk}
use Rattle.gates.specs.Gates.{on_gate, gate_of}
use Rattle.changes.specs.Changes.{settled}
use Rattle.register.specs.Files.{find, put, File}
use Rattle.demands.specs.Refusals.{OneOf, tells}
use Rattle.demands.proofs.InOrder.{listed, none_of, each_of}
use Rattle.demands.proofs.Causes.{Enters, out, other, entered, enter}
use Rattle.demands.proofs.WalkNumbers.{MetBroken, walk_broken, StopsWith, carry_stops_lem}
use Rattle.demands.proofs.WalkCalls.{find-tells, puts, put-tells}

-- what a put of a record tells, and what a find of its key does: a repeat or a clash, and what is
-- held, or neither
data Beside (x : Record) (p q : Numbers) : Type 0 where
  repeats : (n : ℕ) → p ≡ told 6 0 (value x) n 0 → q ≡ told 0 0 (value x) n 0 → Beside x p q
  clashes : (v n : ℕ) → (value x ≡ v → ⊥) → p ≡ told 13 0 v n 0 → q ≡ told 0 0 v n 0 → Beside x p q
  neither : (OneOf p.refusal (6 ∷ 13 ∷ []) → ⊥) → (q.refusal ≡ 0 → ⊥) → Beside x p q

-- numbers that tell the same value and the same pages read, under any refusal
same_told : (k : ℕ) {v n w m : ℕ} → told k 0 v n 0 ≡ told k 0 w m 0 → (v ≡ w) × ((l : ℕ) → told l 0 v n 0 ≡ told l 0 w m 0)
same_told k e =
    let a = ap (λ (t : Numbers). t.value) e in
    let b = ap (λ (t : Numbers). t.read) e in
    (a, λ l. rw (a, b))

number : {p q : Numbers} → p ≡ q → p.refusal ≡ q.refusal
number e = ap (λ (t : Numbers). t.refusal) e

module _ (f : File) (x : Record) where
  abbrev s : State
  s = f.state

  abbrev area : List ℕ
  area = f.area

  away : (p q : Numbers) → listed p.refusal (6 ∷ 13 ∷ []) ≡ false → listed q.refusal (0 ∷ []) ≡ false → Beside x p q
  away p q a b = neither (none_of p.refusal (6 ∷ 13 ∷ []) a) (λ e. none_of q.refusal (0 ∷ []) b (inl e))

  abbrev comes_to : Walked → Numbers
  comes_to w = numbers (settled f.layout s area (one_more s) (eqb s.r (slots_on f.layout s.cap)) w).done.answer

  -- no carry ends in one of the two
  carried : (u : Bool) (w : Walked) → StopsWith f (4 ∷ 7 ∷ []) w → OneOf (numbers (settled f.layout s area (one_more s) u w).done.answer).refusal (6 ∷ 13 ∷ []) → ⊥
  carried u (stopped why) t =
      each_of (λ k. OneOf k (6 ∷ 13 ∷ []) → ⊥) (numbers (Err why)).refusal (4 ∷ 7 ∷ []) (none_of 4 (6 ∷ 13 ∷ []) refl, (none_of 7 (6 ∷ 13 ∷ []) refl, tt)) t.gives
  carried true (went ws n m) t = none_of 9 (6 ∷ 13 ∷ []) refl
  carried false (went ws n m) t = none_of 0 (6 ∷ 13 ∷ []) refl

  held : (v n : ℕ) → Dec (value x ≡ v) → Beside x (numbers (Err (again (value x) v n))) (told 0 0 v n 0)
  held v n (yes e) = repeats n (rw (again_same (value x) v n e, e)) (rw e)
  held v n (no e) = clashes v n e (rw (again_other (value x) v n e)) refl

  met : (m : Walks) → MetBroken f m → Beside x (comes_to (put_met f.layout (homes s) area s.cap x m)) (numbers (find_answer m))
  met (Ok (Found a i c v n)) t = held v n (ℕ_discrete (value x) v)
  met (Err why) t = rw t.2 (away _ _ refl refl)
  met (Ok (Ends a i c n)) t =
      neither (carried (eqb s.r (slots_on f.layout s.cap)) (carry (slots_of f.layout) (homes s) a (n - 1) 0 x (pages_from f.layout (homes s) area (s.cap - a) a)) (carry_stops_lem f (s.cap - a) a (n - 1) 0 x (omega arith)))
      (λ e. omega arith)
  met (Ok (AtEnd n)) t = away _ _ refl refl

  beside : Beside x (tells f (put x)) (tells f (find (key x)))
  unfolding put_walk
  beside = rw (put-tells f x, find-tells f (key x)) (go (enter f.layout s area))
    where
      go : Enters f.layout s area
          → Beside x (on_gate (gate_of f.layout s (length area)) why_told (puts f x)) (on_gate (gate_of f.layout s (length area)) why_told (numbers (find_answer (walk f.layout (homes s) area s.cap (key x)))))
      go (out r g) = rw g (away _ _ refl refl)
      go (other r l g) = rw g (away _ _ refl refl)
      go (entered r l g) = rw g (met (walk f.layout (homes s) area s.cap (key x)) (walk_broken f (key x)))

  module _ (w n : ℕ) where
    pub repeat_told : (tells f (put x) ≡ told 6 0 w n 0) ↔ ((tells f (find (key x)) ≡ told 0 0 w n 0) × (value x ≡ w))
    repeat_told = go beside
      where
        go : Beside x (tells f (put x)) (tells f (find (key x))) → (tells f (put x) ≡ told 6 0 w n 0) ↔ ((tells f (find (key x)) ≡ told 0 0 w n 0) × (value x ≡ w))
        go (repeats m p q) =
            (λ t. let e = same_told 6 (sym p ∙ t) in (q ∙ e.1 0, e.0), λ t. p ∙ (same_told 0 (sym q ∙ t.0)).1 6)
        go (clashes v m d p q) = (λ t. absurd (omega (arith, number (sym p ∙ t))), λ t. absurd (d (t.1 ∙ sym (same_told 0 (sym q ∙ t.0)).0)))
        go (neither a b) = (λ t. absurd (a (inl (number t))), λ t. absurd (b (number t.0)))

    pub clash_told : (tells f (put x) ≡ told 13 0 w n 0) ↔ ((tells f (find (key x)) ≡ told 0 0 w n 0) × (value x ≡ w → ⊥))
    clash_told = go beside
      where
        go : Beside x (tells f (put x)) (tells f (find (key x))) → (tells f (put x) ≡ told 13 0 w n 0) ↔ ((tells f (find (key x)) ≡ told 0 0 w n 0) × (value x ≡ w → ⊥))
        go (repeats m p q) = (λ t. absurd (omega (arith, number (sym p ∙ t))), λ t. absurd (t.1 (same_told 0 (sym q ∙ t.0)).0))
        go (clashes v m d p q) =
            (λ t. let e = same_told 13 (sym p ∙ t) in (q ∙ e.1 0, λ z. d (z ∙ sym e.0)), λ t. p ∙ (same_told 0 (sym q ∙ t.0)).1 13)
        go (neither a b) = (λ t. absurd (a (inr (inl (number t)))), λ t. absurd (b (number t.0)))
