-- A pass over the records of one file, each sought in the other: how many differ, and their entries.
use Rattle.std.specs.Prelude.{ℕ, ◌+◌, ◌≡◌, Bool, true, false, cond, List, [], ◌∷◌, ◌++◌, map, leb, length, Option as Optional, None, Some}
use Rattle.std.proofs.Math.Option.{Option}
use Rattle.numbers.specs.Little.{written}
use Rattle.placing.specs.Lay.{count}
use Rattle.pages.specs.Page.{Record, key}
use Rattle.entries.specs.declared.Entry.{Entry}
use Rattle.entries.specs.Steps.Entries.{size, entry_bytes}
use Rattle.two_sets.specs.Differences.{Difference, only_first, only_second, unlike, is_unlike, of_first, of_second}
use Rattle.sites.specs.declared.Which.{Which}
use Rattle.sites.specs.declared.Which.TheVariants.{First, Second}
use Rattle.sites.specs.Held.{same}
use Rattle.differences.specs.declared.Difference.{Difference as Kind}
use Rattle.differences.specs.declared.Difference.TheVariants.{OnlyFirst, OnlySecond, Unlike}
use Rattle.differences.specs.declared.Tally.{Tally}
use Rattle.differences.specs.Listing.{kind_of}

abbrev pub D : Type 0
D = Difference Record

-- what a record comes to, of the first file or of the second, by what the other holds at its key
abbrev pub of_one : Which → Record → Option Record → List D
of_one First x o = of_first key same x o
of_one Second x o = of_second key same x o

module _ (which : Which) (look : ℕ → Option Record) where
  abbrev pub of_all : List Record → List D
  of_all [] = []
  of_all (x ∷ rs) = of_one which x (look (key x)) ++ of_all rs

-- the kind of a difference as the code has it, and its number
abbrev pub sort_of : D → Kind
sort_of (only_first x) = OnlyFirst
sort_of (only_second y) = OnlySecond
sort_of (unlike x y) = Unlike

abbrev pub number_of : Kind → ℕ
number_of OnlyFirst = 769
number_of OnlySecond = 770
number_of Unlike = 771

-- the kind of the difference, if there is one, as the code's `Option`
abbrev pub kind_in : List D → Optional Kind
kind_in [] = None
kind_in (d ∷ ds) = Some (sort_of d)

-- the record that a difference tells first
abbrev pub record_of : D → Record
record_of (only_first x) = x
record_of (only_second y) = y
record_of (unlike x y) = x

-- an entry of a kind: a slot's length stands where `entries` has the home, so that all are in order
-- of their keys, and the kind where it has the page
abbrev pub marked : (kind : ℕ) → Record → Entry
marked kind x = record { home = size; from = kind; held = x }

abbrev pub entries_of : Optional Kind → Record → List Entry
entries_of None x = []
entries_of (Some kind) x = marked (number_of kind) x ∷ []

abbrev pub entry_of : D → Entry
entry_of d = marked (kind_of d) (record_of d)

-- what is written to a row from an offset on, of which as much is left out as has no room
unfoldable pub fitted : (row : List ℕ) (at : ℕ) → List Entry → List ℕ
fitted row at [] = row
fitted row at (e ∷ es) = fitted (cond (leb (at + size) (length row)) (written row at (entry_bytes e)) row) (at + size) es

-- whether a record's key is only in its own file
abbrev pub is_only : D → Bool
is_only (only_first x) = true
is_only (only_second y) = true
is_only (unlike x y) = false

abbrev pub tallied : List D → Tally
tallied ds = record { absent = count is_only ds; unlike = count is_unlike ds }

-- the tally of one record
abbrev pub tally_of_one : Optional Kind → Tally
tally_of_one None = record { absent = 0; unlike = 0 }
tally_of_one (Some OnlyFirst) = record { absent = 1; unlike = 0 }
tally_of_one (Some OnlySecond) = record { absent = 1; unlike = 0 }
tally_of_one (Some Unlike) = record { absent = 0; unlike = 1 }

-- what a pass over some records tells, and leaves of a row
pub record Passes (which : Which) (look : ℕ → Option Record) (rs : List Record) (row₀ : List ℕ) (at : ℕ) (t : Tally) (row : List ℕ) : Type 0 where
  pub tally : t ≡ tallied (of_all which look rs)
  pub rows : row ≡ fitted row₀ at (map entry_of (of_all which look rs))
