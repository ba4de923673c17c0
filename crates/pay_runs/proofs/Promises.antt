-- What is promised of a run's bytes is proved.
use mathlib.Core.Path.{◌≡◌, refl}
use mathlib.Core.Bool.{Bool, true, false, cond}
use mathlib.Core.Logic.{◌↔◌}
use mathlib.Core.List.{List}
use Prim.Native.Nat.{ℕ, ◌*◌}
use native.Mathlib.Omega.{arith}
use lib.Dec.{eqb}
use lib.ListN.{length}
use borrow.Author.Tests.{eq-eqb, eqb-true}
use Rattle.pages.specs.Page.{Record}
use Rattle.register.specs.Files.{File}
use Rattle.records.specs.Records.{bytes_of_all}
use Rattle.pay_runs.specs.PayRun.{items, end_to_end, puts_in, replies_to, run_refusal, ran}
use Rattle.pay_runs.specs.Promises.{records_of, AllSized, RunPromises}
use Rattle.pay_runs.proofs.ToTheByte.{records_items, records_end, records_puts, only_records}
use Rattle.pay_runs.proofs.Replies.{in_place}

-- which refusal is given, by what is tested
abbrev by_room : (fits : Bool) → ℕ
by_room fits = cond fits 0 15

abbrev by : (heads fits : Bool) → ℕ
by heads fits = cond heads (by_room fits) 10

module _ (xs : List Record) (s : AllSized xs) where
  -- put records have right heads
  heads_right : end_to_end (items (records_of xs)) (records_of xs) ≡ true
  heads_right = rw (records_items xs) (records_end xs s)

  -- so the room alone decides
  room_decides : (room : List ℕ) → run_refusal (records_of xs) room ≡ by_room (eqb (length room) (28 * length xs))
  room_decides room = rw (heads_right, records_items xs)

-- whether two numbers are equal decides between 0 and 15
module _ (a b : ℕ) where
  is_fifteen : (by_room (eqb a b) ≡ 15) ↔ (a ≡ b → ⊥)
  is_fifteen = (λ e d. let z : ◌≡◌ {A = ℕ} 0 15 = rw (eq-eqb a b d) at e in omega arith, go (eqb a b) refl)
    where
      go : (u : Bool) → eqb a b ≡ u → (a ≡ b → ⊥) → by_room u ≡ 15
      go true e n = absurd (n (eqb-true a b e))
      go false e n = refl

  is_zero : (by_room (eqb a b) ≡ 0) ↔ (a ≡ b)
  is_zero = (go (eqb a b) refl, λ d. rw (eq-eqb a b d))
    where
      go : (u : Bool) → eqb a b ≡ u → by_room u ≡ 0 → a ≡ b
      go true e z = eqb-true a b e
      go false e z = absurd (omega arith)

module _ (l room : List ℕ) where
  -- 10 is given where the heads are wrong, and only there
  ten_heads : (run_refusal l room ≡ 10 → ⊥) → end_to_end (items l) l ≡ true
  ten_heads = go (end_to_end (items l) l)
    where
      go : (u : Bool) → (by u (eqb (length room) (28 * items l)) ≡ 10 → ⊥) → u ≡ true
      go true n = refl
      go false n = absurd (n refl)

  heads_ten : end_to_end (items l) l ≡ true → run_refusal l room ≡ 10 → ⊥
  heads_ten e q = go (eqb (length room) (28 * items l)) (rw e at q)
    where
      go : (u : Bool) → by_room u ≡ 10 → ⊥
      go true z = omega arith
      go false z = omega arith

  -- an accepted run leaves its replies in the room
  accepted_room : (f : File) → run_refusal l room ≡ 0 → (ran f l room).room ≡ bytes_of_all (replies_to f (puts_in (items l) l))
  unfolding ran
  accepted_room f z = rw (eq-eqb (run_refusal l room) 0 z)

pub run_promises : RunPromises
run_promises = record {
  reads = λ xs s. (records_items xs, rw (records_items xs) (records_puts xs s));
  ten = λ l room b. (λ n. only_records (items l) l b (ten_heads l room n), λ (xs, s, e). heads_ten l room (rw e at (heads_right xs s)));
  fifteen = λ xs room s. rw (room_decides xs s room) (is_fifteen (length room) (28 * length xs));
  accepted = λ xs room s. rw (room_decides xs s room) (is_zero (length room) (28 * length xs));
  item = λ f l room z first behind c e. rw (accepted_room l room f z, e) (in_place f first behind c);
}
