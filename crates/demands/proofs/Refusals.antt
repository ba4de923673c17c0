-- The refusals, proved: of any state and any bytes.
use mathlib.Core.Path.{◌≡◌, refl}
use mathlib.Core.Bool.{Bool, true, false, false≢true}
use mathlib.Core.Logic.{◌↔◌, inl}
use mathlib.Core.List.{[], ◌∷◌}
use Prim.Native.Nat.{ℕ, ◌*◌, ◌<◌}
use native.Mathlib.Omega.{arith}
use Rattle.std.proofs.Common.{Ok, Err}
use Rattle.layouts.specs.Layout.{slots_on}
use Rattle.homes.specs.Homes.{first_pages}
use Rattle.state.specs.Promises.{Ranged}
use Rattle.state.proofs.Ranges.{in_range_lem}
use Rattle.state.proofs.Promises.{state_promises}
use Rattle.numbers.specs.Little.{Bytes}
use Rattle.state.specs.declared.Refusal.TheVariants.{OutOfRange, WrongArea, WrongRow, Broken, Absent, Held, NoRoom, AtCap, NotImage, Clash, AtStart}
use Rattle.state.specs.Answer.{Answer, told, numbers}
use Rattle.state.specs.State.{is_due}
use Rattle.register.specs.Files.{Call, format, find, put, remove, grow, shrink, check, due, File, Said, answers, says, left, numbers_of}
use Rattle.register.proofs.Rooms.{room_to_shrink}
use Rattle.demands.specs.Histories.{refusal}
use Rattle.demands.specs.Refusals.{RoomToShrink, order, gives, tells, Plain, Refusals}
use Rattle.demands.proofs.InOrder.{ranks, differ, listed, one_of, none_of, in_order}
use Rattle.demands.proofs.CallNumbers.{Known}
use Rattle.demands.proofs.Decided.{format_decided, check_decided}
use Rattle.demands.proofs.DecidedAnew.{grow_decided, shrink_decided}
use Rattle.demands.proofs.WalkCalls.{find_known, put_settled, remove_settled}
use Rattle.demands.proofs.Retries.{repeat_told, clash_told}

-- what stands beside a refusal's number
module _ (k : ℕ) where
  -- a refusal that reads pages
  looked : (read : ℕ) → listed k (1 ∷ 2 ∷ 3 ∷ 8 ∷ 14 ∷ []) ≡ false → Plain (told k 0 0 read 0)
  looked read d = record { page = λ e. refl; value = λ z e. refl; moved = λ z. refl; read = λ w. absurd (none_of k (1 ∷ 2 ∷ 3 ∷ 8 ∷ 14 ∷ []) d w) }

  -- one that tells the value held
  telling : (value read : ℕ) → listed k (6 ∷ 13 ∷ []) ≡ true → listed k (1 ∷ 2 ∷ 3 ∷ 8 ∷ 14 ∷ []) ≡ false → Plain (told k 0 value read 0)
  telling value read g d =
      record {
        page = λ e. refl;
        value = λ z e. absurd (e (one_of k (6 ∷ 13 ∷ []) g));
        moved = λ z. refl;
        read = λ w. absurd (none_of k (1 ∷ 2 ∷ 3 ∷ 8 ∷ 14 ∷ []) d w);
      }

  -- one that reads none
  unread : Plain (told k 0 0 0 0)
  unread = record { page = λ e. refl; value = λ z e. refl; moved = λ z. refl; read = λ w. refl }

plain_answer : (a : Answer) → Plain (numbers a)
plain_answer (Ok a) =
    record { page = λ e. refl; value = λ z e. absurd (z refl); moved = λ z. absurd (z refl); read = λ w. absurd (none_of 0 (1 ∷ 2 ∷ 3 ∷ 8 ∷ 14 ∷ []) refl w) }
plain_answer (Err OutOfRange) = unread 1
plain_answer (Err WrongArea) = unread 2
plain_answer (Err WrongRow) = unread 3
plain_answer (Err (Broken page read)) =
    record { page = λ e. absurd (e refl); value = λ z e. refl; moved = λ z. refl; read = λ w. absurd (none_of 4 (1 ∷ 2 ∷ 3 ∷ 8 ∷ 14 ∷ []) refl w) }
plain_answer (Err (Absent read)) = looked 5 read refl
plain_answer (Err (Held value read)) = telling 6 value read refl refl
plain_answer (Err (NoRoom read)) = looked 7 read refl
plain_answer (Err AtCap) = unread 8
plain_answer (Err (NotImage read)) = looked 9 read refl
plain_answer (Err (Clash value read)) = telling 13 value read refl refl
plain_answer (Err AtStart) = unread 14

plain_said : (t : Said) → Plain (numbers_of t)
plain_said (answers a) = plain_answer a
plain_said (says u) = unread 0

-- no number stands twice in a call's order
order_differs : (f : File) (c : Call) → differ (ranks (order f c)) ≡ true
order_differs f (format q cap) = refl
order_differs f (find k) = refl
order_differs f (put x) = refl
order_differs f (remove k) = refl
order_differs f (grow row) = refl
order_differs f shrink = refl
order_differs f check = refl
order_differs f due = refl

due_known : (f : File) → Known f due (tells f due)
unfolding left
due_known f = record { comes = λ w. w; gives = inl refl; accepted = λ e. refl; broken = λ e. absurd (omega arith) }

known : (f : File) → Bytes f.area → (c : Call) → Known f c (tells f c)
known f b (format q cap) = (format_decided f q cap).known
known f b (find k) = find_known f k
known f b (put x) = (put_settled f x).known
known f b (remove k) = (remove_settled f k).known
known f b (grow row) = (grow_decided f row b).known
known f b shrink = (shrink_decided f b).known
known f b check = (check_decided f b).known
known f b due = due_known f

-- due says yes exactly where X holds, and otherwise no
says_so : (u : Bool) {X : Type 0} → (u ≡ true) ↔ X → ((says u ≡ says true) ↔ X) × ((says u ≡ says false) ↔ (X → ⊥))
says_so true e =
    ((λ q. e.0 refl, λ x. refl), (λ q. absurd (let z : ◌≡◌ {A = ℕ} 0 1 = cc in omega arith), λ n. absurd (n (e.0 refl))))
says_so false e =
    ((λ q. absurd (let z : ◌≡◌ {A = ℕ} 0 1 = cc in omega arith), λ x. absurd (false≢true (e.1 x))), (λ q x. false≢true (e.1 x), λ n. refl))

due-says : (f : File) → let X = Ranged f.layout f.state × (4 * slots_on f.layout f.state.p < 5 * f.state.r) in (((left f due).said ≡ says true) ↔ X) × (((left f due).said ≡ says false) ↔ (X → ⊥))
unfolding left
due-says f = says_so (is_due f.layout f.state) (state_promises.due f.layout f.state)

-- with one page less there is room, so where a check is accepted a shrinking is
module _ (f : File) (b : Bytes f.area) where
  shrink_room : refusal f check ≡ 0 → (f.state.p ≡ first_pages f.state.params → ⊥) → RoomToShrink f
  shrink_room e k =
      let w = (check_decided f b).accepts.0 e in
      record { is = w.2; room = room_to_shrink f.layout f.state (in_range_lem f.layout f.state w.0) (omega (arith, w.0.p_low)) f.area w.2 }

  shrinks : (refusal f shrink ≡ 0) ↔ ((refusal f check ≡ 0) × (f.state.p ≡ first_pages f.state.params → ⊥))
  shrinks =
      let d = (shrink_decided f b).accepts in
      let c = (check_decided f b).accepts in
      (λ e. let w = d.0 e in (c.1 (w.0, w.1, w.3), w.2), λ p. let w = c.0 p.0 in d.1 (w.0, w.1, p.1, w.2))

pub refusals : Refusals
refusals f b =
    record {
      order = λ c. in_order (tells f c).refusal (order f c) (order_differs f c) (known f b c).comes;
      gives = λ c. (known f b c).gives;
      plain = λ c. plain_said (left f c).said;
      accepted = λ c. (known f b c).accepted;
      formats = λ q cap. (format_decided f q cap).accepts;
      checks = (check_decided f b).accepts;
      grows = λ row. (grow_decided f row b).accepts;
      room_to_shrink = shrink_room f b;
      shrinks = shrinks f b;
      never_full = λ e. none_of 7 (gives shrink) refl (rw e at (known f b shrink).gives);
      check_judges = (check_decided f b).judges;
      grow_judges = λ row. (grow_decided f row b).judges;
      shrink_judges = (shrink_decided f b).judges;
      broken = λ c. (known f b c).broken;
      repeat = repeat_told f;
      clash = clash_told f;
      put_count = λ x. (put_settled f x).count;
      remove_count = λ k. (remove_settled f k).count;
      due_yes = (due-says f).0;
      due_no = (due-says f).1;
    }
