-- The slip: forty bytes by which a program in another language hands a call the state of its file,
-- and is handed the state and the answer. What is quoted is 01's.
use Rattle.std.specs.Prelude.{ℕ, ◌+◌, ◌%◌, Bool, cond, ◌&&◌, List, [], ◌∷◌, ◌++◌, length, eqb}
use Rattle.numbers.specs.Fields.{Field, encode}
use Rattle.layouts.specs.Layout.{in_use}
use Rattle.homes.specs.Homes.{params}
use Rattle.state.specs.declared.State.{State}
use Rattle.state.specs.declared.Numbers.{Numbers}
use Rattle.state.specs.State.{is_due}
use Rattle.slips.specs.Slips.{state_at, state_fields, answer_fields}
use Rattle.pay_runs.specs.PayRun.{PayRun, ran}
use Rattle.comparisons.specs.declared.ComparedNumbers.{ComparedNumbers}
use Rattle.comparisons.specs.Compare.{Outcome, compared, compared_numbers}
use Rattle.merges.specs.Merge as merge
use Rattle.merges.specs.Merge.{merged, merged_numbers}
use Rattle.register.specs.Files.{Call, grow, File, file_of, Left, left, numbers_of}

abbrev pub is_slip : List ℕ → Bool
is_slip l = eqb (length l) 40

-- a state with its edition so many more, as numbers of two bytes go round
abbrev pub renumbered : (by : ℕ) → State → State
renumbered by s =
    record { params = params s.params.n0 s.params.n s.params.s ((s.params.edition + by) % 65536); p = s.p; cap = s.cap; r = s.r }

-- the state that a slip brings, in its first sixteen bytes; those of an answer aren't looked at. It
-- has the edition less 1: slips from before there were editions have 0 there, and "Edition 1 files
-- stay readable and writable as they are" (02, request 4).
abbrev pub state_in : List ℕ → State
state_in l = renumbered 1 (state_at l 0)

-- a slip: the state's bytes, with the edition less 1, and then the answer's, about this file
abbrev pub slip_about : State → Numbers → (file : ℕ) → List ℕ
slip_about s n file = encode (state_fields (renumbered 65535 s) ++ answer_fields n file)

-- and of a call on one file
abbrev pub slip_of : State → Numbers → List ℕ
slip_of s n = slip_about s n 0

-- the file that a slip and an area are
abbrev pub file_in : (slip area : List ℕ) → File
file_in slip area = file_of (state_in slip) area

-- what a call comes to: the number that it returns, the slip, and the file that it leaves
pub record Served : Type 0 where
  pub returned : ℕ
  pub slip : List ℕ
  pub file : File

-- it returns the number of its refusal ("refusal 0 means accepted"); the state "comes back as a
-- value"
abbrev pub served_with : Numbers → File → Served
served_with n f = record { returned = n.refusal; slip = slip_of f.state n; file = f }

abbrev pub served_by : Left → Served
served_by l = served_with (numbers_of l.said) l.file

abbrev pub served_ran : PayRun → Served
served_ran o = served_with o.numbers o.file

-- a slip of another length: 100, which is no number of 01's, and nothing is done
abbrev pub unserved : (slip area : List ℕ) → Served
unserved slip area = record { returned = 100; slip = slip; file = file_in slip area }

-- a call by slip and area is the register's call on the file that they are; due, which leaves the
-- slip as it is, is `due_on`
unfoldable pub served : (slip area : List ℕ) → Call → Served
served slip area c = cond (is_slip slip) (served_by (left (file_in slip area) c)) (unserved slip area)

-- the row after a growth by slip
unfoldable pub served_row : (slip area row : List ℕ) → List ℕ
served_row slip area row = cond (is_slip slip) (left (file_in slip area) (grow row)).row row

-- a run by slip and area (02, request 2) is the run on the file that they are
unfoldable pub served_run : (slip area l room : List ℕ) → Served
served_run slip area l room = cond (is_slip slip) (served_ran (ran (file_in slip area) l room)) (unserved slip area)

-- and the room for its replies afterwards
unfoldable pub served_room : (slip area l room : List ℕ) → List ℕ
served_room slip area l room = cond (is_slip slip) (ran (file_in slip area) l room).room room

-- what a comparison comes to: the number that it returns, the room for the list, and the twenty bytes
-- that it is told in
pub record ServedComparison : Type 0 where
  pub returned : ℕ
  pub list : List ℕ
  pub comparison : List ℕ

-- those bytes, with two zeros
abbrev pub comparison_fields : ComparedNumbers → List Field
comparison_fields n = (2, n.numbers.refusal) ∷ (2, n.file) ∷ (2, n.numbers.page) ∷ (2, 0) ∷ (4, n.numbers.read) ∷ (4, n.taken) ∷ (4, n.wanted) ∷ []

abbrev pub served_outcome : Outcome → ServedComparison
served_outcome o = let n = compared_numbers o.answer in record { returned = n.numbers.refusal; list = o.room; comparison = encode (comparison_fields n) }

-- two slips, and bytes to tell in
abbrev pub are_slips : (slip other told : List ℕ) → Bool
are_slips slip other told = is_slip slip && (is_slip other && eqb (length told) 20)

-- a comparison by slips and areas (02, request 6) is that of the files that they are; with a slip or bytes
-- of another length, 100 and nothing is done
unfoldable pub served_compare : (slip area slip2 area2 list told : List ℕ) → ServedComparison
served_compare slip area slip2 area2 list told =
    cond (are_slips slip slip2 told)
    (served_outcome (compared in_use (state_in slip) area (state_in slip2) area2 list))
    (record { returned = 100; list = list; comparison = told })

-- what a merge comes to: as a call on the living file, and the row
pub record ServedMerge : Type 0 where
  pub served : Served
  pub row : List ℕ

abbrev pub served_merged : merge.Outcome → ServedMerge
served_merged o =
    let n = merged_numbers o.merge.answer in
    record {
      served = record { returned = n.numbers.refusal; slip = slip_about o.merge.state n.numbers n.file; file = file_of o.merge.state o.area };
      row = o.row;
    }

-- a merge by slips and areas (02, request 9) is that of the files that they are; with a slip of another length,
-- 100 and nothing is done
unfoldable pub served_merge : (slip area slip2 area2 row : List ℕ) → ServedMerge
served_merge slip area slip2 area2 row =
    cond (is_slip slip && is_slip slip2)
    (served_merged (merged in_use (state_in slip) area row (state_in slip2) area2))
    (record { served = unserved slip area; row = row })

-- whether growth is due, as 1 or 0; with a slip of another length it isn't
unfoldable pub due_on : List ℕ → ℕ
due_on slip = cond (is_slip slip) (cond (is_due in_use (state_in slip)) 1 0) 0
