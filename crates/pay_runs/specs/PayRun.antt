-- A pay run in one call (02, request 2). What is quoted is 02's, or the demands' or 01's where it
-- says so.
use Rattle.std.specs.Prelude.{ℕ, zero, suc, ◌*◌, ◌/◌, Bool, cond, ◌&&◌, List, [], ◌∷◌, length, drop, eqb}
use Rattle.numbers.specs.Fields.{Field}
use Rattle.state.specs.declared.Done.{Done}
use Rattle.state.specs.declared.Numbers.{Numbers}
use Rattle.register.specs.Files.{Call, put, File, left, after, numbers_of}
use Rattle.records.specs.Records.{first_of, is_put, record_in, reply_of, bytes_of_all, refused_by}

-- a put record is 20 bytes, so bytes have room for so many items
abbrev pub items : List ℕ → ℕ
items l = length l / 20

-- "put records end to end": so many "whole put records with right heads", each as the log reads it,
-- and nothing behind them
unfoldable pub end_to_end : (count : ℕ) → List ℕ → Bool
end_to_end zero l = eqb (length l) 0
end_to_end (suc n) l = is_put (first_of l) && end_to_end n (drop 20 l)

-- the puts that they ask for
unfoldable pub puts_in : (count : ℕ) → List ℕ → List Call
puts_in zero l = []
puts_in (suc n) l = put (record_in l) ∷ puts_in n (drop 20 l)

-- "a 28-byte reply for each": 01's reply, each call given the pages and state that the last one
-- left. "a refused item doesn't stop those after it".
unfoldable pub replies_to : File → List Call → List (List Field)
replies_to f [] = []
replies_to f (c ∷ cs) = reply_of (numbers_of (left f c).said) (left f c).file.state ∷ replies_to (left f c).file cs

-- "10 if the bytes aren't whole put records with right heads, then 15 if the lent reply room isn't
-- 28 bytes an item". "an empty run is accepted".
abbrev pub run_refusal : (l room : List ℕ) → ℕ
run_refusal l room = cond (end_to_end (items l) l) (cond (eqb (length room) (28 * items l)) 0 15) 10

-- what a run comes to: the numbers of its answer, the file that it leaves, and the lent room
pub record PayRun : Type 0 where
  pub numbers : Numbers
  pub file : File
  pub room : List ℕ

-- "the same area, state and replies as the puts made one by one in that order"
abbrev pub put_all : File → List Call → PayRun
put_all f cs = record { numbers = refused_by 0; file = after f cs; room = bytes_of_all (replies_to f cs) }

-- a refusal is "before any item is run, with nothing changed"
abbrev pub refuses : ℕ → File → (room : List ℕ) → PayRun
refuses n f room = record { numbers = refused_by n; file = f; room = room }

unfoldable pub ran : File → (l room : List ℕ) → PayRun
ran f l room = cond (eqb (run_refusal l room) 0) (put_all f (puts_in (items l) l)) (refuses (run_refusal l room) f room)

-- the calls that a run put_all: none where it is refused
abbrev pub made_by : (l room : List ℕ) → List Call
made_by l room = cond (eqb (run_refusal l room) 0) (puts_in (items l) l) []

-- what the code gives back of it
abbrev pub told_of : PayRun → Done Numbers
told_of o = record { state = o.file.state; answer = o.numbers }
