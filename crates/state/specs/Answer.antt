-- What an answer says in 01's numbers ('Refusal numbers') and 02's: one definition for all calls.
use Rattle.std.specs.Prelude.{ℕ, cond, eqb, Result, Ok, Err}
use Rattle.state.specs.declared.Accepted.{Accepted}
use Rattle.state.specs.declared.Refusal.{Refusal}
use Rattle.state.specs.declared.Refusal.TheVariants.{OutOfRange, WrongArea, WrongRow, Broken, Absent, Held, NoRoom, AtCap, NotImage, Clash, AtStart}
use Rattle.state.specs.declared.Numbers.{Numbers}

-- what a call answers: what it accepted, or why not
abbrev pub Answer : Type 0
Answer = Result Accepted Refusal

abbrev pub accepted : (value read moved : ℕ) → Accepted
accepted value read moved = record { value = value; read = read; moved = moved }

abbrev pub told : (refusal page value read moved : ℕ) → Numbers
told refusal page value read moved = record { refusal = refusal; page = page; value = value; read = read; moved = moved }

-- the number of a refusal in the table: 01's, and 02's 13 ("clash") and 14 ("when P = n0 x N")
abbrev pub number : Refusal → ℕ
number OutOfRange = 1
number WrongArea = 2
number WrongRow = 3
number (Broken page read) = 4
number (Absent read) = 5
number (Held value read) = 6
number (NoRoom read) = 7
number AtCap = 8
number (NotImage read) = 9
number (Clash value read) = 13
number AtStart = 14

-- "page is 0 except for 4, value 0 except for 6, moved 0."; "refusals 1, 2, 3, 8 .. read 0". 02,
-- request 1: 13 "with the held value"; request 5: 14 is judged before any page
abbrev pub refused : Refusal → Numbers
refused OutOfRange = told 1 0 0 0 0
refused WrongArea = told 2 0 0 0 0
refused WrongRow = told 3 0 0 0 0
refused (Broken page read) = told 4 page 0 read 0
refused (Absent read) = told 5 0 0 read 0
refused (Held value read) = told 6 0 value read 0
refused (NoRoom read) = told 7 0 0 read 0
refused AtCap = told 8 0 0 0 0
refused (NotImage read) = told 9 0 0 read 0
refused (Clash value read) = told 13 0 value read 0
refused AtStart = told 14 0 0 0 0

-- "For accepted calls page is 0", and the refusal
abbrev pub numbers : Answer → Numbers
numbers (Ok a) = told 0 0 a.value a.read a.moved
numbers (Err why) = refused why

-- What a put of a held key is told. 02, request 1: "A put with the same value is a repeat and keeps
-- 6. A put with another value is a clash and must be told apart, with the held value."
abbrev pub again : (offered held read : ℕ) → Refusal
again offered held read = cond (eqb offered held) (Held held read) (Clash held read)
