-- Find, put and remove on any bytes: refused at the gate, or what the walk tells.
use mathlib.Core.Path.{◌≡◌, refl}
use mathlib.Core.Bool.{Bool, true, false, false≢true}
use mathlib.Core.Logic.{◌↔◌, inl, inr, ⊎_elim}
use mathlib.Core.List.{List, [], ◌∷◌}
use Prim.Native.Nat.{ℕ}
use native.Mathlib.Omega.{arith}
use lib.Dec.{eqb}
use lib.ListN.{length}
use borrow.Author.Tests.{eqb-true, eq-eqb}
use Rattle.std.proofs.Common.{Ok, Err}
use Rattle.layouts.specs.Layout.{slots_on}
use Rattle.pages.specs.Page.{Record}
use Rattle.state.specs.Promises.{Ranged}
use Rattle.state.specs.declared.State.{State}
use Rattle.state.specs.declared.Numbers.{Numbers}
use Rattle.state.specs.State.{homes, one_more, one_less}
use Rattle.state.specs.Answer.{told, numbers, refused as why_told}
use Rattle.state.specs.Done.{done}
use Rattle.walks.specs.declared.Met.TheVariants.{Found, Ends, AtEnd}
use Rattle.walks.specs.Walks.{Walks, Walked, went, stopped, walk, find_answer, put_walk, remove_walk}
use Rattle.gates.specs.Gates.{on_gate, gate_of}
use Rattle.changes.specs.Changes.{settled, put_open, remove_open}
use Rattle.register.specs.Files.{Call, find, put, remove, File, left}
use Rattle.demands.specs.Refusals.{RightArea, order, OneOf, gives, tells, AcceptedTells}
use Rattle.demands.proofs.InOrder.{listed, one_of, none_of, Comes}
use Rattle.demands.proofs.Causes.{Enters, out, other, entered, enter}
use Rattle.demands.proofs.WalkNumbers.{MetBroken, walk_broken, StopsWith, put_stops_lem, remove_stops_lem}
use Rattle.demands.proofs.CallNumbers.{Known, refuses, gated, looks}

-- of a put or a removal: where the walk met no cause, 9 is given exactly where the count is wrong
pub record Settled (f : File) (c : Call) (Wrong : Type 0) (n : Numbers) : Type 0 where
  pub known : Known f c n
  pub count : OneOf n.refusal (0 ∷ 9 ∷ []) → (n.refusal ≡ 9) ↔ Wrong

module _ (f : File) where
  abbrev s : State
  s = f.state

  abbrev area : List ℕ
  area = f.area

  module _ (k : ℕ) where
    pub find-tells : tells f (find k) ≡ on_gate (gate_of f.layout s (length area)) why_told (numbers (find_answer (walk f.layout (homes s) area s.cap k)))
    unfolding left
    find-tells = looks s (done s (find_answer (walk f.layout (homes s) area s.cap k))) (gate_of f.layout s (length area))

    pub find_known : Known f (find k) (tells f (find k))
    find_known = rw find-tells (go (enter f.layout s area))
      where
        met : Ranged f.layout s → RightArea s area → (m : Walks) → MetBroken f m → Known f (find k) (numbers (find_answer m))
        met r l (Ok (Found a i c v n)) t = record { comes = inr (r, inr (l, none_of 0 (1 ∷ 2 ∷ []) refl)); gives = inl refl; accepted = λ e. refl; broken = λ e. absurd (omega arith) }
        met r l (Err why) t =
            rw t.2 (record {
              comes = inr (r, inr (l, none_of 4 (1 ∷ 2 ∷ []) refl));
              gives = one_of 4 (gives (find k)) refl;
              accepted = λ e. absurd (omega arith);
              broken = λ e. t.3;
            })
        met r l (Ok (Ends a i c n)) t = refuses f (find k) 5 n refl refl (inr (r, inr (l, none_of 5 (1 ∷ 2 ∷ []) refl)))
        met r l (Ok (AtEnd n)) t = refuses f (find k) 5 n refl refl (inr (r, inr (l, none_of 5 (1 ∷ 2 ∷ []) refl)))

        go : Enters f.layout s area → Known f (find k) (on_gate (gate_of f.layout s (length area)) why_told (numbers (find_answer (walk f.layout (homes s) area s.cap k))))
        go (out r g) = rw g (refuses f (find k) 1 0 refl refl (inl (r, refl)))
        go (other r l g) = rw g (refuses f (find k) 2 0 refl refl (inr (r, inl (l, refl))))
        go (entered r l g) = rw g (met r l (walk f.layout (homes s) area s.cap k) (walk_broken f k))

  -- past the gate, a put or a removal comes to what its walk tells, or to its count
  module _ (c : Call) (past : (k : ℕ) → (OneOf k (1 ∷ 2 ∷ []) → ⊥) → Comes k (order f c) (order f c)) (zero : listed 0 (gives c) ≡ true) (nine : listed 9 (gives c) ≡ true)
      (accepts : (read moved : ℕ) → AcceptedTells f c (told 0 0 0 read moved)) (next : State) {Wrong : Type 0} where
    settles : (wrong : Bool) → (wrong ≡ true) ↔ Wrong → (w : Walked) → StopsWith f (gives c) w → Settled f c Wrong (numbers (settled f.layout s area next wrong w).done.answer)
    settles wrong e (stopped why) t =
        record {
          known = record {
            comes = past (numbers (Err why)).refusal (λ v. t.met (inr (⊎_elim inl (λ u. inr (⊎_elim inl absurd u)) v)));
            gives = t.gives;
            accepted = λ z. absurd (t.met (inl z));
            broken = t.broken;
          };
          count = λ v. absurd (t.met (⊎_elim inl (λ u. inr (inr (inr u))) v));
        }
    settles true e (went pages read moved) t =
        record {
          known = refuses f c 9 read refl nine (past 9 (none_of 9 (1 ∷ 2 ∷ []) refl));
          count = λ v. (λ z. e.0 refl, λ w. refl);
        }
    settles false e (went pages read moved) t =
        record {
          known = record {
            comes = past 0 (none_of 0 (1 ∷ 2 ∷ []) refl);
            gives = one_of 0 (gives c) zero;
            accepted = λ z. accepts read moved;
            broken = λ z. absurd (omega arith);
          };
          count = λ v. (λ z. absurd (omega arith), λ w. absurd (false≢true (e.1 w)));
        }

  -- and is refused before it
  shut : (c : Call) {Wrong : Type 0} (k : ℕ) → listed k (0 ∷ 4 ∷ []) ≡ false → listed k (0 ∷ 9 ∷ []) ≡ false → listed k (gives c) ≡ true → Comes k (order f c) (order f c)
      → Settled f c Wrong (told k 0 0 0 0)
  shut c k p d g w = record { known = refuses f c k 0 p g w; count = λ v. absurd (none_of k (0 ∷ 9 ∷ []) d v) }

  equal : (a b : ℕ) → (eqb a b ≡ true) ↔ (a ≡ b)
  equal a b = (eqb-true a b, eq-eqb a b)

  module _ (x : Record) where
    abbrev pub puts : Numbers
    puts = numbers (put_open f.layout s area x).done.answer

    pub put-tells : tells f (put x) ≡ on_gate (gate_of f.layout s (length area)) why_told puts
    unfolding left
    put-tells = gated s area (put_open f.layout s area x) (gate_of f.layout s (length area))

    pub put_settled : Settled f (put x) (s.r ≡ slots_on f.layout s.cap) (tells f (put x))
    put_settled = rw put-tells (go (enter f.layout s area))
      where
        go : Enters f.layout s area → Settled f (put x) (s.r ≡ slots_on f.layout s.cap) (on_gate (gate_of f.layout s (length area)) why_told puts)
        go (out r g) = rw g (shut (put x) 1 refl refl refl (inl (r, refl)))
        go (other r l g) = rw g (shut (put x) 2 refl refl refl (inr (r, inl (l, refl))))
        go (entered r l g) =
            rw g (settles (put x) (λ n d. inr (r, inr (l, d))) refl refl (λ n m. refl) (one_more s) (eqb s.r (slots_on f.layout s.cap)) (equal s.r (slots_on f.layout s.cap))
            (put_walk f.layout (homes s) area s.cap x) (put_stops_lem f x))

  module _ (k : ℕ) where
    abbrev removes : Numbers
    removes = numbers (remove_open f.layout s area k).done.answer

    remove-tells : tells f (remove k) ≡ on_gate (gate_of f.layout s (length area)) why_told removes
    unfolding left
    remove-tells = gated s area (remove_open f.layout s area k) (gate_of f.layout s (length area))

    pub remove_settled : Settled f (remove k) (s.r ≡ 0) (tells f (remove k))
    remove_settled = rw remove-tells (go (enter f.layout s area))
      where
        go : Enters f.layout s area → Settled f (remove k) (s.r ≡ 0) (on_gate (gate_of f.layout s (length area)) why_told removes)
        go (out r g) = rw g (shut (remove k) 1 refl refl refl (inl (r, refl)))
        go (other r l g) = rw g (shut (remove k) 2 refl refl refl (inr (r, inl (l, refl))))
        go (entered r l g) =
            rw g (settles (remove k) (λ n d. inr (r, inr (l, d))) refl refl (λ n m. refl) (one_less s) (eqb s.r 0) (equal s.r 0)
            (remove_walk f.layout (homes s) area s.cap k) (remove_stops_lem f k))
