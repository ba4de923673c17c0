-- What is promised of a run's bytes: `RunPromises`, at the end (02, request 2). What is quoted is
-- 02's.
use Rattle.std.specs.Prelude.{ℕ, ◌*◌, ◌≡◌, ◌↔◌, List, [], ◌∷◌, ◌++◌, length, take, drop}
use Rattle.numbers.specs.Little.{Bytes}
use Rattle.numbers.specs.Fields.{encode}
use Rattle.placing.specs.Image.{All}
use Rattle.pages.specs.Page.{Record}
use Rattle.register.specs.Files.{Call, put, File, left, after, numbers_of}
use Rattle.records.specs.declared.Command.TheVariants.{Put}
use Rattle.records.specs.Records.{layout_of, reply_of}
use Rattle.records.specs.Promises.{Sized}
use Rattle.pay_runs.specs.PayRun.{items, puts_in, run_refusal, ran}

-- "put records end to end (each as in the log)"
unfoldable pub records_of : List Record → List ℕ
records_of [] = []
records_of (x ∷ xs) = encode (layout_of (Put x)) ++ records_of xs

-- the puts of these records, in that order
unfoldable pub puts_of : List Record → List Call
puts_of [] = []
puts_of (x ∷ xs) = put x ∷ puts_of xs

-- each with a key and a value of 64 bits
abbrev pub AllSized : List Record → Type 0
AllSized = All (λ (x : Record). Sized (Put x))

-- What is promised, and proved as `run_promises` (proofs/Promises.antt)
pub record RunPromises : Type 0 where
  -- the bytes of put records are read as their puts, as many as there are, in that order
  pub reads : (xs : List Record) → AllSized xs → (items (records_of xs) ≡ length xs) × (puts_in (items (records_of xs)) (records_of xs) ≡ puts_of xs)
  -- "10 if the bytes aren't whole put records with right heads": exactly then
  pub ten : (l room : List ℕ) → Bytes l → (run_refusal l room ≡ 10 → ⊥) ↔ ((xs : List Record) × AllSized xs × (records_of xs ≡ l))
  -- "then 15 if the lent reply room isn't 28 bytes an item": exactly then; and it is accepted
  -- exactly where neither is given
  pub fifteen : (xs : List Record) (room : List ℕ) → AllSized xs → (run_refusal (records_of xs) room ≡ 15) ↔ (length room ≡ 28 * length xs → ⊥)
  pub accepted : (xs : List Record) (room : List ℕ) → AllSized xs → (run_refusal (records_of xs) room ≡ 0) ↔ (length room ≡ 28 * length xs)
  -- "a 28-byte reply for each": the reply of an item stands in its place in the room, with what its
  -- put answers on the file that the items before it leave, and P and due of the state after it
  pub item : (f : File) (l room : List ℕ) → run_refusal l room ≡ 0 → (first behind : List Call) (c : Call) → puts_in (items l) l ≡ first ++ (c ∷ behind)
      → let o = left (after f first) c in take 28 (drop (28 * length first) (ran f l room).room) ≡ encode (reply_of (numbers_of o.said) o.file.state)
