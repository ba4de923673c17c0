-- What the code knows past a gate: a step between code and definition.
use Rattle.std.specs.Prelude.{ℕ, ◌-◌, ◌*◌, ◌≤◌, ◌≡◌, true, List, [], length, take, Ok, Err, Some}
use Rattle.layouts.specs.Layout.{in_use}
use Rattle.homes.specs.declared.new_homes.NewHomes.{NewHomes}
use Rattle.homes.specs.Homes.{shape_of}
use Rattle.homes.specs.Steps.Last.{last_step}
use Rattle.homes.specs.Steps.NewHomes.{Usable, Follows}
use Rattle.placing.specs.Image.{cat}
use Rattle.placing.specs.Rows.{counts}
use Rattle.pages.specs.Page.{home_for}
use Rattle.pages.specs.Area.{held_from}
use Rattle.entries.specs.declared.Entry.{Entry}
use Rattle.entries.specs.Steps.Entries.{size, row_bytes}
use Rattle.leaving.specs.Steps.Leaving.{leavers}
use Rattle.state.specs.declared.State.{State}
use Rattle.state.specs.State.{in_range, homes, grown}
use Rattle.gates.specs.Gates.{Gate, on_gate, image_gate}
use Rattle.changes.specs.Changes.{Outcome, refused}
use Rattle.register.specs.Calls.{Growth, with_row, grown_counts, grow_open, shrink_open}

-- a state in range, an area of its length, and a count for each page
abbrev pub Judgeable : State → (m n : ℕ) → Type 0
Judgeable s m n = (in_range in_use s ≡ true) × (m ≡ 256 * s.cap) × (n ≡ s.cap)

-- the homes in the file `next`, where `larger` is the one of two files with a page more
abbrev pub besides : (next larger : State) → NewHomes
besides next larger =
    record { shape = shape_of next.params next.p; stays = Some (record { last = last_step (shape_of larger.params larger.p); added = larger.p - 1 }); apart = larger.p - 1 }

-- new homes for the records of a file
pub record Rehomes (s : State) (new : NewHomes) : Type 0 where
  pub usable : Usable new
  pub follows : Follows (shape_of s.params s.p) new new.stays
  pub low : new.shape.p ≤ s.cap

-- where the pages pass, their records are counted by the homes that they have
abbrev pub CountedIf : Gate → State → List ℕ → (row : List ℕ) → Type 0
CountedIf (Ok u) s area row = row ≡ counts (home_for (homes s)) (cat (held_from in_use area s.cap 0) []) s.cap 0
CountedIf (Err why) s area row = Unit {0}

-- what a growth comes to that enters
abbrev pub grew_entered : State → List ℕ → (row : List ℕ) → Growth
grew_entered s area row = on_gate (image_gate in_use s area) (λ why. with_row (refused s area why) row) (with_row (grow_open in_use s area) (grown_counts in_use s area))

-- what a shrinking comes to that enters
abbrev pub shrank_entered : State → List ℕ → Outcome
shrank_entered s area = on_gate (image_gate in_use s area) (refused s area) (shrink_open in_use s area)

-- the records that a growth takes to its new page
abbrev pub goers : State → List ℕ → List Entry
goers s area = leavers (homes (grown s)) s.p s.cap area

-- they take so many bytes, and stand in a room that has as many
pub record Parted (s : State) (area room : List ℕ) (end : ℕ) : Type 0 where
  pub many : end ≡ size * length (goers s area)
  pub bytes : end ≤ length room → take end room ≡ row_bytes (goers s area)
  pub short : length room ≤ 65536
