-- The log's records to the byte (01, 'The log program'; 02, request 4: a format with its edition;
-- request 5: shrink).
-- What is quoted is 01's, or 02's where that is said.
use Rattle.std.specs.Prelude.{ℕ, ◌≡◌, Bool, true, false, cond, ◌⊎◌, List, [], ◌∷◌, ◌++◌, length, eqb, ltb, Option, Some, None, Result, Ok, Err}
use Rattle.numbers.specs.Little.{number_at}
use Rattle.numbers.specs.Fields.{Field, encode}
use Rattle.layouts.specs.Layout.{in_use}
use Rattle.homes.specs.declared.Params.{Params}
use Rattle.homes.specs.Homes.{params}
use Rattle.pages.specs.Page.{Record, key, value, record_with, run}
use Rattle.state.specs.declared.State.{State}
use Rattle.state.specs.declared.Done.{Done}
use Rattle.state.specs.declared.Numbers.{Numbers}
use Rattle.state.specs.State.{is_due}
use Rattle.state.specs.Answer.{Answer, told, numbers}
use Rattle.records.specs.declared.Kind.{Kind}
use Rattle.records.specs.declared.Kind.TheVariants as kind
use Rattle.records.specs.declared.Form.{Form}
use Rattle.records.specs.declared.Command.{Command}
use Rattle.records.specs.declared.Command.TheVariants.{Format, Put, Find, Remove, Grow, Check, Shrink}
use Rattle.records.specs.declared.Asked.{Asked}
use Rattle.records.specs.declared.Unread.{Unread}
use Rattle.records.specs.declared.Unread.TheVariants.{UnknownKind, CutOff}

-- "257 format: n0, N, s, cap (2 bytes each), length 12. 258 put: key, value, length 20. 259 find
-- and 260 remove: key, length 12. 261 grow and 262 check: length 4." 02, request 4: "a format command
-- of length 14"; request 5: shrink is "kind 263, length 4"
abbrev pub length_of : Kind → ℕ
length_of kind.Format = 12
length_of kind.FormatEdition = 14
length_of kind.Put = 20
length_of kind.Find = 12
length_of kind.Remove = 12
length_of kind.Grow = 4
length_of kind.Check = 4
length_of kind.Shrink = 4

abbrev pub form_for : Kind → Form
form_for k = record { kind = k; length = length_of k }

abbrev pub known : Kind → Option Form
known k = Some (form_for k)

-- which of a format's two records one of this length is
abbrev pub format_for : (length : ℕ) → Kind
format_for n = cond (eqb n 14) kind.FormatEdition kind.Format

-- "Kinds 257 to 262 are commands, 513 is a reply, all others are unknown; a reply is unknown as
-- input.", with 263 (02, request 5). What a kind stands for, in a record that tells this length.
unfoldable pub form_of : (length kind : ℕ) → Option Form
form_of n k =
    cond (eqb k 257) (known (format_for n))
    (cond (eqb k 258) (known kind.Put)
    (cond (eqb k 259) (known kind.Find)
    (cond (eqb k 260) (known kind.Remove)
    (cond (eqb k 261) (known kind.Grow)
    (cond (eqb k 262) (known kind.Check)
    (cond (eqb k 263) (known kind.Shrink) None))))))

-- the request and the commit of a put record, whose body follows four bytes of length and kind; it
-- names no run
abbrev pub record_in : List ℕ → Record
record_in l = record_with (number_at 8 l 4) (number_at 8 l 12) 0

-- a format of that edition: "n0, N, s, cap"
abbrev pub format_in : List ℕ → (edition : ℕ) → Command
format_in l edition = Format (params (number_at 2 l 4) (number_at 2 l 6) (number_at 2 l 8) edition) (number_at 2 l 10)

-- the command of a record. 02, request 4: "a format command of length 14 carries" the edition "as a
-- last two-byte number, and length 12 still means edition 1"
abbrev pub command_of : Kind → List ℕ → Command
command_of kind.Format l = format_in l 1
command_of kind.FormatEdition l = format_in l (number_at 2 l 12)
command_of kind.Put l = Put (record_in l)
command_of kind.Find l = Find (number_at 8 l 4)
command_of kind.Remove l = Remove (number_at 8 l 4)
command_of kind.Grow l = Grow
command_of kind.Check l = Check
command_of kind.Shrink l = Shrink

-- the number of a refusal: 10 is "unknown kind, or length wrong for it", 11 "input ends within a
-- record"
abbrev pub refusal_of : Unread → ℕ
refusal_of UnknownKind = 10
refusal_of CutOff = 11

-- the first record of an input is that of a command, and takes so many bytes
abbrev pub asks : Command → (length : ℕ) → Result Asked Unread
asks c n = Ok (record { command = c; length = n })

-- "then 10, then the body (11)"
abbrev pub formed : List ℕ → Option Form → Result Asked Unread
formed l None = Err UnknownKind
formed l (Some f) = cond (eqb (number_at 2 l 0) f.length) (cond (ltb (length l) f.length) (Err CutOff) (asks (command_of f.kind l) f.length)) (Err UnknownKind)

-- the first record of an input: "the four head bytes (11 if fewer)", then what they ask for.
-- "Length covers the whole record."
unfoldable pub first_of : List ℕ → Result Asked Unread
first_of l = cond (ltb (length l) 4) (Err CutOff) (formed l (form_of (number_at 2 l 0) (number_at 2 l 2)))

-- whether an input begins with a whole put record
abbrev pub asks_put : Command → Bool
asks_put (Format q cap) = false
asks_put (Put x) = true
asks_put (Find k) = false
asks_put (Remove k) = false
asks_put Grow = false
asks_put Check = false
asks_put Shrink = false

abbrev pub is_put : Result Asked Unread → Bool
is_put (Ok a) = asks_put a.command
is_put (Err u) = false

-- a format's record: length and kind, "length first", then its numbers, and what more there is
abbrev format_with : (length : ℕ) → Params → (cap : ℕ) → List Field → List Field
format_with n q cap more = (2, n) ∷ (2, 257) ∷ (2, q.n0) ∷ (2, q.n) ∷ (2, q.s) ∷ (2, cap) ∷ more

-- the bytes of a command's record
abbrev pub layout_of : Command → List Field
layout_of (Format q cap) = format_with 14 q cap ((2, q.edition) ∷ [])
layout_of (Put x) = (2, 20) ∷ (2, 258) ∷ (8, key x) ∷ (8, value x) ∷ []
layout_of (Find k) = (2, 12) ∷ (2, 259) ∷ (8, k) ∷ []
layout_of (Remove k) = (2, 12) ∷ (2, 260) ∷ (8, k) ∷ []
layout_of Grow = (2, 4) ∷ (2, 261) ∷ []
layout_of Check = (2, 4) ∷ (2, 262) ∷ []
layout_of Shrink = (2, 4) ∷ (2, 263) ∷ []

-- and of the shorter record that a format of edition 1 has too
abbrev pub short_of : Params → (cap : ℕ) → List Field
short_of q cap = format_with 12 q cap []

-- the records of a command; none names a run. `RecordPromises` (Promises.antt) says that it is read from their bytes
-- and from no others.
abbrev pub IsRecord : Command → List Field → Type 0
IsRecord (Format q cap) w = (w ≡ layout_of (Format q cap)) ⊎ ((q.edition ≡ 1) × (w ≡ short_of q cap))
IsRecord (Put x) w = (run x ≡ 0) × (w ≡ layout_of (Put x))
IsRecord (Find k) w = w ≡ layout_of (Find k)
IsRecord (Remove k) w = w ≡ layout_of (Remove k)
IsRecord Grow w = w ≡ layout_of Grow
IsRecord Check w = w ≡ layout_of Check
IsRecord Shrink w = w ≡ layout_of Shrink

abbrev pub bit : Bool → ℕ
bit u = cond u 1 0

-- "Reply, length 28: length, kind, refusal, page (2 each), value (8), pages read, moved (4 each),
-- P, due as 0 or 1 (2 each, both of the state after the command ..)"
abbrev pub reply_of : Numbers → State → List Field
reply_of n s =
    (2, 28) ∷ (2, 513) ∷ (2, n.refusal) ∷ (2, n.page) ∷ (8, n.value) ∷ (4, n.read) ∷ (4, n.moved) ∷ (2, s.p)
    ∷ (2, bit (is_due in_use s)) ∷ []

-- the bytes of replies
unfoldable pub bytes_of_all : List (List Field) → List ℕ
bytes_of_all [] = []
bytes_of_all (r ∷ rs) = encode r ++ bytes_of_all rs

-- the numbers of an answer that has none but its refusal: "refusal 0 means accepted"
abbrev pub refused_by : ℕ → Numbers
refused_by n = told n 0 0 0 0

-- what the code gives back of a call
abbrev pub tells : Done Answer → Done Numbers
tells d = record { state = d.state; answer = numbers d.answer }
