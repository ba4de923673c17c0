-- What a comparison of any numbers and any bytes comes to.
use mathlib.Core.Path.{◌≡◌, refl, sym, ◌∙◌}
use mathlib.Core.Bool.{Bool, true, false, cond}
use mathlib.Core.Logic.{◌↔◌}
use mathlib.Core.List.{List, ◌++◌}
use Prim.Native.Nat.{ℕ, ◌+◌, ◌*◌, ◌≤◌, ◌<◌}
use native.Mathlib.Omega.{arith}
use borrow.Author.Tests.{leb-true, leb-false}
use lib.Dec.{leb, eqb}
use lib.ListN.{length, drop}
use Rattle.std.specs.Prelude.{Ok, Err}
use Rattle.layouts.specs.Layout.{Layout}
use Rattle.state.specs.declared.State.{State}
use Rattle.state.specs.declared.Refusal.{Refusal}
use Rattle.state.specs.declared.Refusal.TheVariants.{OutOfRange, WrongArea}
use Rattle.state.specs.State.{in_range}
use Rattle.state.specs.Answer.{accepted, refused, numbers}
use Rattle.state.specs.Done.{done}
use Rattle.state.proofs.Ranges.{ranged}
use Rattle.gates.specs.Gates.{Gate, opens, on_gate, gate_of, image_gate, check_gate}
use Rattle.gates.proofs.Gating.{shut_refuses}
use Rattle.gates.proofs.Judging.{pages_refuse}
use Rattle.sites.specs.declared.Which.TheVariants.{First, Second}
use Rattle.comparisons.specs.declared.CompareRefusal.TheVariants.{Short}
use Rattle.comparisons.specs.Compare.{listed, Outcome, filled, contrasted, compared, compared_numbers, refused_file}
use Rattle.comparison_demands.specs.ComparisonDemands.{said, list_of, checks, Told, OnAnyBytes}

abbrev refusal : Outcome → ℕ
refusal o = (compared_numbers o.answer).numbers.refusal

-- after a refusal the room is as it was, and nothing of it was taken
abbrev Keeps : (room : List ℕ) → Outcome → Type 0
Keeps room o = (refusal o ≡ 0 → ⊥) → (o.room ≡ room) × ((compared_numbers o.answer).taken ≡ 0)

-- a room that takes the list, or not
module _ (read : ℕ) (list room : List ℕ) where
  abbrev settled : Bool → Outcome
  settled u = cond u (record { answer = Ok (listed (length list) read); room = list ++ drop (length list) room }) (record { answer = Err (Short (length list) read); room = room })

  filled_keeps : Keeps room (filled read list room)
  filled_keeps = go (leb (length list) (length room))
    where
      go : (u : Bool) → Keeps room (settled u)
      go true n = absurd (n refl)
      go false n = (refl, refl)

  filled_short : ((refusal (filled read list room) ≡ 15) ↔ (length room < length list)) × ((refusal (filled read list room) ≡ 0) ↔ (length list ≤ length room))
  filled_short = go (leb (length list) (length room)) refl
    where
      go : (u : Bool) → leb (length list) (length room) ≡ u → ((refusal (settled u) ≡ 15) ↔ (length room < length list)) × ((refusal (settled u) ≡ 0) ↔ (length list ≤ length room))
      go true e =
          let l = leb-true (length list) (length room) e in
          ((λ q. absurd (omega (arith, q)), λ m. absurd (omega (arith, l, m))), (λ q. l, λ m. refl))
      go false e =
          let l = leb-false (length list) (length room) e in
          ((λ q. l, λ m. refl), (λ q. absurd (omega (arith, q)), λ m. absurd (omega (arith, l, m))))

  filled-wanted : (compared_numbers (filled read list room).answer).wanted ≡ length list
  filled-wanted = go (leb (length list) (length room))
    where
      go : (u : Bool) → (compared_numbers (settled u).answer).wanted ≡ length list
      go true = refl
      go false = refl

-- the gate of a file, as a check tells it
module _ (f : Layout) (s : State) (area : List ℕ) where
  opened : gate_of f s (length area) ≡ opens → in_range f s ≡ true
  unfolding gate_of
  opened k = ranges (in_range f s) refl k
    where
      ranges : (u : Bool) → in_range f s ≡ u → cond u (cond (eqb (length area) (256 * s.cap)) opens (Err WrongArea)) (Err OutOfRange) ≡ opens → in_range f s ≡ true
      ranges true p r = p
      ranges false p r = absurd (let z : ◌≡◌ {A = ℕ} 0 1 = cc in omega arith)

  refuses : (why : Refusal) → check_gate f s area ≡ Err why → (refused why).refusal ≡ 0 → ⊥
  unfolding check_gate
  refuses why = go (gate_of f s (length area)) refl
    where
      go : (g : Gate) → gate_of f s (length area) ≡ g → on_gate g Err (image_gate f s area) ≡ Err why → (refused why).refusal ≡ 0 → ⊥
      go (Err z) e q = (shut_refuses f s (length area) why (sym (e ∙ q))).1
      go (Ok u) e q = (pages_refuse f s area (ranged f s (opened e)).cap_high why (sym q)).1

  accepted_open : (checks f s area).refusal ≡ 0 → check_gate f s area ≡ opens
  accepted_open e = go (check_gate f s area) refl e
    where
      go : (g : Gate) → check_gate f s area ≡ g → (numbers (on_gate g (λ why. done s (Err why)) (done s (Ok (accepted 0 s.cap 0)))).answer).refusal ≡ 0 → g ≡ opens
      go (Ok u) q k = refl
      go (Err why) q k = absurd (refuses why q k)

  shut_checks : (why : Refusal) → check_gate f s area ≡ Err why → checks f s area ≡ refused why
  shut_checks why q = rw q

module _ (f : Layout) (s : State) (area : List ℕ) (t : State) (other room : List ℕ) where
  passed : check_gate f s area ≡ opens → check_gate f t other ≡ opens → compared f s area t other room ≡ filled (s.cap + t.cap) (list_of f s area t other) room
  unfolding compared contrasted
  passed e g = rw (e, g)

  keeps : Keeps room (compared f s area t other room)
  unfolding compared contrasted
  keeps = go (check_gate f s area) (check_gate f t other)
    where
      go : (g h : Gate) → Keeps room (on_gate g (refused_file First 0 room) (on_gate h (refused_file Second s.cap room) (filled (s.cap + t.cap) (list_of f s area t other) room)))
      go (Err why) h n = (refl, refl)
      go (Ok u) (Err why) n = (refl, refl)
      go (Ok u) (Ok v) n = filled_keeps (s.cap + t.cap) (list_of f s area t other) room n

  -- a file that is refused
  first_told : ((checks f s area).refusal ≡ 0 → ⊥) → Told (said f s area t other room) 1 0 (checks f s area)
  unfolding compared
  first_told n = go (check_gate f s area) refl
    where
      go : (g : Gate) → check_gate f s area ≡ g → Told (said f s area t other room) 1 0 (checks f s area)
      go (Ok u) q = absurd (n (rw q))
      go (Err why) q = rw (shut_checks f s area why q, q) (record { file = refl; refusal = refl; page = refl; read = refl })

  second_told : (checks f s area).refusal ≡ 0 → ((checks f t other).refusal ≡ 0 → ⊥) → Told (said f s area t other room) 2 s.cap (checks f t other)
  unfolding compared
  second_told e n = go (check_gate f t other) refl
    where
      go : (g : Gate) → check_gate f t other ≡ g → Told (said f s area t other room) 2 s.cap (checks f t other)
      go (Ok u) q = absurd (n (rw q))
      go (Err why) q = rw (shut_checks f t other why q, accepted_open f s area e, q) (record { file = refl; refusal = refl; page = refl; read = refl })

  pub any_bytes : OnAnyBytes f s area t other room
  any_bytes = record {
    first = first_told;
    second = second_told;
    unchanged = keeps;
    short = λ e g. rw (passed (accepted_open f s area e) (accepted_open f t other g)) (filled_short (s.cap + t.cap) (list_of f s area t other) room);
    wanted = λ e g. rw (passed (accepted_open f s area e) (accepted_open f t other g)) (filled-wanted (s.cap + t.cap) (list_of f s area t other) room);
  }
