-- One command of a log carried out (01, 'The log program'). What is quoted is 01's.
use Rattle.std.specs.Prelude.{ℕ, ◌*◌, Bool, false, cond, List, take, ltb}
use Rattle.numbers.specs.Little.{written}
use Rattle.state.specs.declared.State.{State}
use Rattle.state.specs.declared.Done.{Done}
use Rattle.state.specs.declared.Numbers.{Numbers}
use Rattle.register.specs.Files.{Call, format, find, put, remove, grow, shrink, check, file_of, Left, left, numbers_of}
use Rattle.records.specs.declared.Command.{Command}
use Rattle.records.specs.declared.Command.TheVariants.{Format, Put, Find, Remove, Grow, Check, Shrink}
use Rattle.records.specs.Records.{refused_by}

-- what a log keeps from one command to the next: the state, the bytes of its pages, and a row of
-- counts
pub record Site : Type 0 where
  pub state : State
  pub space : List ℕ
  pub row : List ℕ

abbrev pub site : State → (space row : List ℕ) → Site
site s space row = record { state = s; space = space; row = row }

-- what a command comes to: the numbers of its reply, and what it leaves
pub record Executed : Type 0 where
  pub numbers : Numbers
  pub site : Site

abbrev pub carries : Numbers → Site → Executed
carries n d = record { numbers = n; site = d }

-- "cap (pages lent)": a format is lent the pages that it asks for, every other command those of the
-- state
abbrev pub lent_to : State → Command → ℕ
lent_to s (Format q cap) = cap
lent_to s (Put x) = s.cap
lent_to s (Find k) = s.cap
lent_to s (Remove k) = s.cap
lent_to s Grow = s.cap
lent_to s Check = s.cap
lent_to s Shrink = s.cap

-- the call that a command makes; grow "is lent a row of 32-bit counts, one a page"
abbrev pub call_of : Command → (row : List ℕ) → Call
call_of (Format q cap) row = format q cap
call_of (Put x) row = put x
call_of (Find k) row = find k
call_of (Remove k) row = remove k
call_of Grow row = grow row
call_of Check row = check
call_of Shrink row = shrink

-- what a call left, back in its place
abbrev pub leaving : Site → Left → Executed
leaving d l =
    carries (numbers_of l.said) (site l.file.state (written d.space 0 l.file.area) (written d.row 0 l.row))

-- the call on the first of the pages: as many as are lent, or all where there are fewer
abbrev pub called_with : Site → Command → (lent : ℕ) → Executed
called_with d c lent =
    leaving d (left (file_of d.state (take (256 * lent) d.space)) (call_of c (take lent d.row)))

-- 12: "more than 128 pages asked"
abbrev pub too_many : Command → Bool
too_many (Format q cap) = ltb 128 cap
too_many (Put x) = false
too_many (Find k) = false
too_many (Remove k) = false
too_many Grow = false
too_many Check = false
too_many Shrink = false

-- "then 12, then the call": a refusal of the log's own has no other number in its reply
unfoldable pub executed : Site → Command → Executed
executed d c = cond (too_many c) (carries (refused_by 12) d) (called_with d c (lent_to d.state c))

-- what the code gives back of it
abbrev pub told_of : Executed → Done Numbers
told_of c = record { state = c.site.state; answer = c.numbers }
