-- The comparison of two files (02, request 6), for any page layout, any numbers and any bytes. What is
-- quoted is the request's, or 01's where that is said.
use Rattle.std.specs.Prelude.{ℕ, ◌+◌, cond, List, ◌++◌, length, drop, leb, Result, Ok, Err}
use Rattle.layouts.specs.Layout.{Layout}
use Rattle.pages.specs.Page.{key}
use Rattle.state.specs.declared.State.{State}
use Rattle.state.specs.declared.Refusal.{Refusal}
use Rattle.state.specs.Answer.{Answer, told, numbers, refused}
use Rattle.gates.specs.Gates.{on_gate, check_gate}
use Rattle.sites.specs.declared.Which.{Which}
use Rattle.sites.specs.declared.Which.TheVariants.{First, Second}
use Rattle.sites.specs.Held.{held_in, same, read_over}
use Rattle.sites.specs.Told.{file_of}
use Rattle.two_sets.specs.Differences.{differences}
use Rattle.differences.specs.Listing.{listing}
use Rattle.comparisons.specs.declared.Listed.{Listed}
use Rattle.comparisons.specs.declared.CompareRefusal.{CompareRefusal}
use Rattle.comparisons.specs.declared.CompareRefusal.TheVariants.{File, Short}
use Rattle.comparisons.specs.declared.ComparedNumbers.{ComparedNumbers}

-- what a comparison answers: the list that it wrote, or why there is none
abbrev pub Compared : Type 0
Compared = Result Listed CompareRefusal

abbrev pub listed : (bytes read : ℕ) → Listed
listed bytes read = record { length = bytes; read = read }

-- what a comparison comes to: its answer, and the room afterwards. Neither file is written.
pub record Outcome : Type 0 where
  pub answer : Compared
  pub room : List ℕ

-- "The list goes into lent room, the answer says how many bytes it took, and room beyond them keeps its
-- bytes"; "then 15 exactly when the room is shorter than the whole list"
abbrev pub filled : (read : ℕ) → (list room : List ℕ) → Outcome
filled read list room =
    cond (leb (length list) (length room))
    (record { answer = Ok (listed (length list) read); room = list ++ drop (length list) room })
    (record { answer = Err (Short (length list) read); room = room })

-- where both files pass: all pages of both have been judged
unfoldable pub contrasted : Layout → State → List ℕ → State → List ℕ → (room : List ℕ) → Outcome
contrasted f s area t other room = filled (s.cap + t.cap) (listing f (differences key same (held_in f s area) (held_in f t other))) room

-- a file that is refused, after so many pages of the other; "after any of them the room is unchanged"
abbrev pub refused_file : Which → (before : ℕ) → (room : List ℕ) → Refusal → Outcome
refused_file which before room why = record { answer = Err (File which why (read_over before (refused why).read)); room = room }

-- "each file's 1, 2, 4 and 9 as check gives them, the first file's before the second's"
unfoldable pub compared : Layout → State → List ℕ → State → List ℕ → (room : List ℕ) → Outcome
compared f s area t other room =
    on_gate (check_gate f s area) (refused_file First 0 room)
    (on_gate (check_gate f t other) (refused_file Second s.cap room)
    (contrasted f s area t other room))

-- a file that is refused, in numbers, whatever number tells the file and whatever answer the refusal
abbrev pub refused_numbers : (file : ℕ) → Answer → (read : ℕ) → ComparedNumbers
refused_numbers file why read = record { numbers = told (numbers why).refusal (numbers why).page 0 read 0; file = file; taken = 0; wanted = 0 }

-- an answer in 01's numbers and 02's, with the file that a refusal is about, the bytes of the list that was
-- written ("the length is 0" after any refusal), and those that the whole list takes, where it is known
abbrev pub compared_numbers : Compared → ComparedNumbers
compared_numbers (Ok l) = record { numbers = told 0 0 0 l.read 0; file = 0; taken = l.length; wanted = l.length }
compared_numbers (Err (File which why read)) = record { numbers = told (refused why).refusal (refused why).page 0 read 0; file = file_of which; taken = 0; wanted = 0 }
compared_numbers (Err (Short n read)) = record { numbers = told 15 0 0 read 0; file = 0; taken = 0; wanted = n }
