-- A whole log, from bytes to replies (01, 'The log program'). What is quoted is 01's.
use Rattle.std.specs.Prelude.{ℕ, zero, suc, ◌+◌, ◌*◌, Bool, true, false, cond, List, [], ◌∷◌, length, drop, eqb, Result, Ok, Err}
use Rattle.numbers.specs.Fields.{Field}
use Rattle.records.specs.declared.Asked.{Asked}
use Rattle.records.specs.declared.Unread.{Unread}
use Rattle.records.specs.declared.Unread.TheVariants.{UnknownKind, CutOff}
use Rattle.records.specs.Records.{first_of, refused_by, reply_of}
use Rattle.commands.specs.declared.Ran.{Ran}
use Rattle.commands.specs.Execute.{Site, Executed, executed}

-- what comes of the first record of an input: no reply yet, a refusal after which the log stops, or
-- a command of so many bytes
pub data Turn : Type 0 where
  waits : Turn
  stops : (refusal : ℕ) → Turn
  goes : Executed → (length : ℕ) → Turn

-- 10 is "unknown kind, or length wrong for it", 11 "input ends within a record": where more may
-- come, a record that is cut off waits for it
abbrev pub on_item : (last : Bool) → Site → Result Asked Unread → Turn
on_item last d (Ok a) = goes (executed d a.command) a.length
on_item last d (Err UnknownKind) = stops 10
on_item last d (Err CutOff) = cond last (stops 11) waits

-- "Input ending between records gets no reply."
unfoldable pub turn : (last : Bool) → Site → List ℕ → Turn
turn last d l = cond (eqb (length l) 0) waits (on_item last d (first_of l))

-- how far a log went: its replies, what it left, the bytes of input that its commands took, and
-- whether it has stopped
pub record Log : Type 0 where
  pub replies : List (List Field)
  pub site : Site
  pub taken : ℕ
  pub stopped : Bool

abbrev pub rests : Site → Log
rests d = record { replies = []; site = d; taken = 0; stopped = false }

-- "After 10 or 11 it stops."
abbrev pub stops_by : ℕ → Site → Log
stops_by n d = record { replies = reply_of (refused_by n) d.state ∷ []; site = d; taken = 0; stopped = true }

-- a command's reply before those of the commands after it
abbrev pub answered : Executed → (length : ℕ) → Log → Log
answered c n g =
    record { replies = reply_of c.numbers c.site.state ∷ g.replies; site = g.site; taken = n + g.taken; stopped = g.stopped }

abbrev pub on_turn : Site → Turn → (Site → ℕ → Log) → Log
on_turn d waits rest = rests d
on_turn d (stops n) rest = stops_by n d
on_turn d (goes c n) rest = answered c n (rest c.site n)

-- "It reads commands and writes one reply each": as many as there is room for, from an input that
-- ends there (`last`) or may go on
unfoldable pub log : (last : Bool) → (room : ℕ) → Site → List ℕ → Log
log last zero d l = rests d
log last (suc room) d l = on_turn d (turn last d l) (λ e n. log last room e (drop n l))

-- a whole log: it never has more replies than bytes
abbrev pub whole_log : Site → List ℕ → Log
whole_log d l = log true (length l) d l

-- what the code gives back of it: a reply takes 28 bytes
abbrev pub ran_of : Log → Ran
ran_of g = record { state = g.site.state; taken = g.taken; given = 28 * length g.replies; stopped = g.stopped }
