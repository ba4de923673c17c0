-- The calls of the register: what each answers, and the state, the area and the row that it leaves,
-- for any page layout, any numbers and any bytes. What is quoted is 01's, or 02's where that is said.
use Rattle.std.specs.Prelude.{ℕ, Bool, cond, List, [], length, replicate, eqb, Ok, Err}
use Rattle.layouts.specs.Layout.{Layout, slots_of}
use Rattle.homes.specs.declared.Params.{Params}
use Rattle.placing.specs.Image.{cat}
use Rattle.placing.specs.Lay.{taken}
use Rattle.placing.specs.Rows.{counts, strayed}
use Rattle.pages.specs.Page.{Record, key, home_for}
use Rattle.pages.specs.Area.{held_from, area_from}
use Rattle.rebuild.specs.Relaid.{relaid}
use Rattle.state.specs.declared.State.{State}
use Rattle.state.specs.State.{homes, fresh, grown, shrunk}
use Rattle.state.specs.declared.Done.{Done}
use Rattle.state.specs.declared.Refusal.TheVariants.{NoRoom}
use Rattle.state.specs.Answer.{Answer, accepted}
use Rattle.state.specs.Done.{done}
use Rattle.walks.specs.Walks.{walk, find_answer}
use Rattle.changes.specs.Changes.{Outcome, refused, put_open, remove_open}
use Rattle.gates.specs.Gates.{on_gate, gate_of, check_gate, grow_gate, shrink_gate}

-- Format: "empty file, P = n0 x N, r = 0"; "judged on the numbers it is asked for, not on the state
-- before it"
abbrev pub formatted : Layout → State → Params → (cap : ℕ) → List ℕ → Outcome
formatted f old q cap area =
    on_gate (gate_of f (fresh q cap) (length area)) (refused old area)
    (record { done = done (fresh q cap) (Ok (accepted 0 0 0)); area = area_from f 0 (replicate cap []) })

-- "Find 1, 2, then the walk."
abbrev pub found : Layout → State → List ℕ → (k : ℕ) → Done Answer
found f s area k = on_gate (gate_of f s (length area)) (λ why. done s (Err why)) (done s (find_answer (walk f (homes s) area s.cap k)))

abbrev pub stored : Layout → State → List ℕ → Record → Outcome
stored f s area x = on_gate (gate_of f s (length area)) (refused s area) (put_open f s area x)

abbrev pub removed : Layout → State → List ℕ → (k : ℕ) → Outcome
removed f s area k = on_gate (gate_of f s (length area)) (refused s area) (remove_open f s area k)

-- Check: its gate is all there is to it
abbrev pub checked : Layout → State → List ℕ → Done Answer
checked f s area = on_gate (check_gate f s area) (λ why. done s (Err why)) (done s (Ok (accepted 0 s.cap 0)))

-- whether the lent pages can take all records, each at its home in the file `next` or higher
unfoldable pub has_room : Layout → (s next : State) → List ℕ → Bool
has_room f s next area =
    let held = cat (held_from f area s.cap 0) [] in
    eqb (taken (home_for (homes next)) (slots_of f) held s.cap) (length held)

-- Grow and shrink, where the file is the image of r records: the image for the pages of `next` is
-- made.
unfoldable pub remade : Layout → (s next : State) → List ℕ → Outcome
remade f s next area =
    let old = held_from f area s.cap 0 in
    let new = relaid (slots_of f) (homes next) s.cap old in
    record { done = done next (Ok (accepted 0 s.cap (strayed key old new))); area = area_from f 0 new }

-- a growth past its gate: it "makes the image for P + 1", or there is no room (7)
unfoldable pub grow_open : Layout → State → List ℕ → Outcome
grow_open f s area = cond (has_room f s (grown s) area) (remade f s (grown s) area) (refused s area (NoRoom s.cap))

-- what a growth comes to
pub record Growth : Type 0 where
  pub done : Done Answer
  pub area : List ℕ
  pub row : List ℕ

-- with a row
abbrev pub with_row : Outcome → (row : List ℕ) → Growth
with_row o row = record { done = o.done; area = o.area; row = row }

-- the row "holds the number of records of each home at size P + 1", a count for each lent page
abbrev pub grown_counts : Layout → State → List ℕ → List ℕ
grown_counts f s area = counts (home_for (homes (grown s))) (cat (held_from f area s.cap 0) []) s.cap 0

-- "Grow 1, 2, 3, 8, 4, 9, 7."; "The row is untouched by 1, 2, 3, 8, 4 and 9", and filled "after
-- success or 7"
abbrev pub grew : Layout → State → List ℕ → (row : List ℕ) → Growth
grew f s area row = on_gate (grow_gate f s area (length row)) (λ why. with_row (refused s area why) row) (with_row (grow_open f s area) (grown_counts f s area))

-- a shrinking past its gate. 02, request 10: "a file that passed its check always has an arrangement"
abbrev pub shrink_open : Layout → State → List ℕ → Outcome
shrink_open f s area = remade f s (shrunk s) area

-- 02, request 5: "the reverse of grow: from P to P - 1, giving the image for that size, with the same
-- check of the whole file first"; request 10: "shrink's order is now 1, 2, 14, 4, 9"
abbrev pub shrank : Layout → State → List ℕ → Outcome
shrank f s area = on_gate (shrink_gate f s area) (refused s area) (shrink_open f s area)
