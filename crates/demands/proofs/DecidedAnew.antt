-- Grow and shrink on any bytes: each way out with its numbers, and with the causes that hold there.
use mathlib.Core.Path.{◌≡◌, refl, sym, ◌∙◌}
use mathlib.Core.Bool.{Bool, true, false, false≢true}
use mathlib.Core.Logic.{inl, inr}
use mathlib.Core.List.{List, [], ◌∷◌}
use Prim.Native.Nat.{ℕ}
use lib.ListN.{length}
use Rattle.std.proofs.Common.{Ok, Err}
use Rattle.numbers.specs.Little.{Bytes}
use Rattle.layouts.specs.Layout.{slots_of}
use Rattle.homes.specs.Homes.{first_pages}
use Rattle.placing.specs.Rows.{strayed}
use Rattle.pages.specs.Page.{key}
use Rattle.pages.specs.Area.{held_from}
use Rattle.rebuild.specs.Relaid.{relaid}
use Rattle.state.specs.declared.State.{State}
use Rattle.state.specs.declared.Numbers.{Numbers}
use Rattle.state.specs.declared.Refusal.{Refusal}
use Rattle.state.specs.State.{homes, grown, shrunk}
use Rattle.state.specs.Promises.{Ranged}
use Rattle.state.specs.Answer.{told, numbers, refused as why_told}
use Rattle.gates.specs.Gates.{Gate, on_gate, gate_of, grow_gate, shrink_gate}
use Rattle.changes.specs.Changes.{refused}
use Rattle.register.specs.OneImage.{ImageOfR}
use Rattle.register.specs.Calls.{has_room, remade, grow_open, with_row, grown_counts}
use Rattle.register.specs.Files.{grow, shrink, File, left}
use Rattle.register.proofs.Rooms.{room_of}
use Rattle.demands.specs.Refusals.{unless, RightArea, SomeBroken, RoomToGrow, order, tells}
use Rattle.demands.proofs.InOrder.{ranks, none_of}
use Rattle.demands.proofs.Causes.{Enters, out, other, entered, enter, judge, Rows, other_row, at_cap, below, try_row, Starts, at_start, above, try_start}
use Rattle.demands.proofs.CallNumbers.{gated}
use Rattle.demands.proofs.Decided.{Decided, early, late, accepts, on_pages}

module _ (f : File) where
  abbrev s : State
  s = f.state

  abbrev area : List ℕ
  area = f.area

  -- the numbers of a file made anew for the state `next`
  abbrev remade_tells : (next : State) → Numbers
  remade_tells next =
      let old = held_from f.layout area s.cap 0 in
      told 0 0 0 s.cap (strayed key old (relaid (slots_of f.layout) (homes next) s.cap old))

  redone : (next : State) → numbers (remade f.layout s next area).done.answer ≡ remade_tells next
  unfolding remade
  redone next = refl

  -- Grow
  module _ (row : List ℕ) where
    abbrev GoodToGrow : Type 0
    GoodToGrow = Ranged f.layout s × RightArea s area × (length row ≡ s.cap) × (s.p ≡ s.cap → ⊥) × RoomToGrow f

    abbrev grown_tells : Numbers
    grown_tells = numbers (grow_open f.layout s area).done.answer

    grow-tells : tells f (grow row) ≡ on_gate (grow_gate f.layout s area (length row)) why_told grown_tells
    unfolding left
    grow-tells = go (grow_gate f.layout s area (length row))
      where
        go : (g : Gate) → numbers (on_gate g (λ why. with_row (refused s area why) row) (with_row (grow_open f.layout s area) (grown_counts f.layout s area))).done.answer ≡ on_gate g why_told grown_tells
        go (Ok u) = refl
        go (Err why) = refl

    with_room : has_room f.layout s (grown s) area ≡ true → grown_tells ≡ remade_tells (grown s)
    unfolding grow_open
    with_room e = rw e (redone (grown s))

    without_room : has_room f.layout s (grown s) area ≡ false → grown_tells ≡ told 7 0 0 s.cap 0
    unfolding grow_open
    without_room e = rw e

    -- what is refused at the entry of any call
    shut_grow : (why : Refusal) → gate_of f.layout s (length area) ≡ Err why → grow_gate f.layout s area (length row) ≡ Err why
    unfolding grow_gate
    shut_grow why e = rw e

    pub grow_decided : Bytes area → Decided f (grow row) GoodToGrow (tells f (grow row))
    grow_decided b = rw grow-tells (go (enter f.layout s area))
      where
        Ends : Type 0
        Ends = Decided f (grow row) GoodToGrow (on_gate (grow_gate f.layout s area (length row)) why_told grown_tells)

        -- with all else right, the room decides
        room : (r : Ranged f.layout s) (l : RightArea s area) (d : length row ≡ s.cap) (k : s.p ≡ s.cap → ⊥) (w : SomeBroken f → ⊥) (m : ImageOfR f.layout s area)
            → (u : Bool) → has_room f.layout s (grown s) area ≡ u → Decided f (grow row) GoodToGrow grown_tells
        room r l d k w m true e =
            let q : RoomToGrow f = record { is = m; room = (room_of f.layout s (grown s) area m).0 e } in
            rw (with_room e) (accepts f (grow row) refl (r, l, d, k, q) (inr (r, inr (l, inr (d, inr (k, inr (w, inr (m, inr (q, none_of 0 (ranks (order f (grow row))) refl)))))))) _ _ (refl, refl))
        room r l d k w m false e =
            let q : RoomToGrow f → ⊥ = λ v. false≢true (sym e ∙ (room_of f.layout s (grown s) area v.is).1 v.room) in
            rw (without_room e) (late f (grow row) 7 refl refl (λ v. q v.4) (inr (r, inr (l, inr (d, inr (k, inr (w, inr (m, inl (q, refl)))))))))

        tries : Ranged f.layout s → RightArea s area → Rows f row → Ends
        tries r l (other_row d g) = rw g (early f (grow row) 3 refl refl (λ a. d a.2) (inr (r, inr (l, inl (d, refl)))) refl)
        tries r l (at_cap d k g) = rw g (early f (grow row) 8 refl refl (λ a. a.3 k) (inr (r, inr (l, inr (d, inl (k, refl))))) refl)
        tries r l (below d k g) =
            rw g
            (on_pages f (grow row) grown_tells (unless 7 (RoomToGrow f) ∷ []) (λ n w. inr (r, inr (l, inr (d, inr (k, w))))) (refl, refl) (λ a. a.4.is)
            (λ w m. room r l d k w m (has_room f.layout s (grown s) area) refl)
            (judge f b r l))

        go : Enters f.layout s area → Ends
        go (out r g) = rw (shut_grow _ g) (early f (grow row) 1 refl refl (λ a. r a.0) (inl (r, refl)) refl)
        go (other r l g) = rw (shut_grow _ g) (early f (grow row) 2 refl refl (λ a. l a.1) (inr (r, inl (l, refl))) refl)
        go (entered r l g) = tries r l (try_row f row g)

  -- Shrink
  abbrev GoodToShrink : Type 0
  GoodToShrink = Ranged f.layout s × RightArea s area × (s.p ≡ first_pages s.params → ⊥) × ImageOfR f.layout s area

  shrink-tells : tells f shrink ≡ on_gate (shrink_gate f.layout s area) why_told (remade_tells (shrunk s))
  unfolding left
  shrink-tells = gated s area (remade f.layout s (shrunk s) area) (shrink_gate f.layout s area) ∙ rw (redone (shrunk s))

  shut_shrink : (why : Refusal) → gate_of f.layout s (length area) ≡ Err why → shrink_gate f.layout s area ≡ Err why
  unfolding shrink_gate
  shut_shrink why e = rw e

  pub shrink_decided : Bytes area → Decided f shrink GoodToShrink (tells f shrink)
  shrink_decided b = rw shrink-tells (go (enter f.layout s area))
    where
      Ends : Type 0
      Ends = Decided f shrink GoodToShrink (on_gate (shrink_gate f.layout s area) why_told (remade_tells (shrunk s)))

      tries : Ranged f.layout s → RightArea s area → Starts f → Ends
      tries r l (at_start k g) = rw g (early f shrink 14 refl refl (λ a. a.2 k) (inr (r, inr (l, inl (k, refl)))) refl)
      tries r l (above k g) =
          rw g
          (on_pages f shrink (remade_tells (shrunk s)) [] (λ n w. inr (r, inr (l, inr (k, w)))) (refl, refl) (λ a. a.3)
          (λ w m. accepts f shrink refl (r, l, k, m) (inr (r, inr (l, inr (k, inr (w, inr (m, none_of 0 (ranks (order f shrink)) refl)))))) _ _ (refl, refl))
          (judge f b r l))

      go : Enters f.layout s area → Ends
      go (out r g) = rw (shut_shrink _ g) (early f shrink 1 refl refl (λ a. r a.0) (inl (r, refl)) refl)
      go (other r l g) = rw (shut_shrink _ g) (early f shrink 2 refl refl (λ a. l a.1) (inr (r, inl (l, refl))) refl)
      go (entered r l g) = tries r l (try_start f g)
