-- A file, and a call on it by the definition that its contract names: what it says, and what it
-- leaves. What is quoted is 01's.
use Rattle.std.specs.Prelude.{ℕ, Bool, List, [], ◌∷◌}
use Rattle.layouts.specs.Layout.{Layout, in_use}
use Rattle.homes.specs.declared.Params.{Params}
use Rattle.pages.specs.Page.{Record}
use Rattle.state.specs.declared.State.{State}
use Rattle.state.specs.declared.Done.{Done}
use Rattle.state.specs.declared.Numbers.{Numbers}
use Rattle.state.specs.State.{is_due}
use Rattle.state.specs.Answer.{Answer, numbers}
use Rattle.changes.specs.Changes.{Outcome}
use Rattle.register.specs.Calls.{Growth, formatted, found, stored, removed, checked, grew, shrank}

-- "Calls: format .., find, put, remove, grow .., check, due", and 02's shrink (request 5), each with
-- what it is given beside state and area
pub data Call : Type 0 where
  format : Params → (cap : ℕ) → Call
  find : (k : ℕ) → Call
  put : (x : Record) → Call
  remove : (k : ℕ) → Call
  grow : (row : List ℕ) → Call
  shrink : Call
  check : Call
  due : Call

-- "A file is a lent area of pages and a small state.": the pages are in one layout
pub record File : Type 0 where
  pub layout : Layout
  pub state : State
  pub area : List ℕ

abbrev pub file_in : Layout → State → (area : List ℕ) → File
file_in f s area = record { layout = f; state = s; area = area }

-- one in the layout in use
abbrev pub file_of : State → (area : List ℕ) → File
file_of s area = file_in in_use s area

-- what a call says: an answer or, where it was asked whether growth is due, yes or no
pub data Said : Type 0 where
  answers : Answer → Said
  says : Bool → Said

-- what a call comes to: what it says, and the file and the row that it leaves. Only a growth is
-- lent a row.
pub record Left : Type 0 where
  pub said : Said
  pub file : File
  pub row : List ℕ

-- where the area is left as `area`, in the layout f
abbrev pub leaves : Layout → Done Answer → (area row : List ℕ) → Left
leaves f d area row = record { said = answers d.answer; file = file_in f d.state area; row = row }

abbrev pub of_outcome : Layout → Outcome → Left
of_outcome f o = leaves f o.done o.area []

abbrev pub of_growth : Layout → Growth → Left
of_growth f g = leaves f g.done g.area g.row

-- a call on a file, by the definition that its contract names
unfoldable pub left : File → Call → Left
left f (format q cap) = of_outcome f.layout (formatted f.layout f.state q cap f.area)
left f (find k) = leaves f.layout (found f.layout f.state f.area k) f.area []
left f (put x) = of_outcome f.layout (stored f.layout f.state f.area x)
left f (remove k) = of_outcome f.layout (removed f.layout f.state f.area k)
left f (grow row) = of_growth f.layout (grew f.layout f.state f.area row)
left f shrink = of_outcome f.layout (shrank f.layout f.state f.area)
left f check = leaves f.layout (checked f.layout f.state f.area) f.area []
left f due = record { said = says (is_due f.layout f.state); file = f; row = [] }

-- demands 2 and 3: "each call given the pages and state that the last one left"
unfoldable pub after : File → List Call → File
after f [] = f
after f (c ∷ cs) = after (left f c).file cs

-- 01's numbers of what was said; due is never refused and has no others
abbrev pub numbers_of : Said → Numbers
numbers_of (answers a) = numbers a
numbers_of (says u) = record { refusal = 0; page = 0; value = 0; read = 0; moved = 0 }
