-- The records that a growth takes to its new page, found by their places.
use Rattle.std.specs.Prelude.{ℕ, zero, suc, ◌+◌, ◌-◌, ◌/◌, ◌%◌, Bool, List, [], ◌∷◌, length, take, get_or, eqb}
use Rattle.numbers.specs.Little.{written}
use Rattle.layouts.specs.Layout.{in_use}
use Rattle.placing.specs.Steps.Keep.{keep}
use Rattle.pages.specs.Page.{key, vacant, records_in}
use Rattle.pages.specs.Area.{part_at}
use Rattle.entries.specs.declared.Entry.{Entry}
use Rattle.entries.specs.Steps.Entries.{size, row_bytes}
use Rattle.rebuild.specs.Steps.Rebuild.{slots, packed}

-- whether an entry's home is a page
abbrev pub homed : ℕ → Entry → Bool
homed P e = eqb e.home P

-- the entries of an area whose home is page P, in the order in which they stand
unfoldable pub leavers : (h : ℕ → ℕ) (P cap : ℕ) → List ℕ → List Entry
leavers h P cap area = keep (homed P) (packed h cap area)

-- what stands j slots behind the first of page a, as an entry with a home
abbrev pub seat : List ℕ → (to a j : ℕ) → Entry
seat area to a j = record { home = to; from = a + j / slots; held = get_or (records_in in_use (part_at area (a + j / slots))) (j % slots) vacant }

-- n of these, one behind the other
abbrev pub seats : List ℕ → (to a n j : ℕ) → List Entry
seats area to a zero j = []
seats area to a (suc n) j = seat area to a j ∷ seats area to a n (suc j)

-- those of them whose key is taken
unfoldable pub going : (ℕ → Bool) → List ℕ → (to a n j : ℕ) → List Entry
going takes area to a n j = keep (λ e. takes (key e.held)) (seats area to a n j)

-- entries written to a room from an offset on, as far as it has bytes for them
unfoldable pub entered : List ℕ → ℕ → List Entry → List ℕ
entered room at es = written room at (row_bytes (take ((length room - at) / size) es))
