-- A refusal leaves the file, and all but 7 the row: on any bytes.
use mathlib.Core.Path.{◌≡◌, refl}
use mathlib.Core.Bool.{Bool, true, false, cond}
use mathlib.Core.List.{List, []}
use Prim.Native.Nat.{ℕ}
use lib.Dec.{eqb}
use lib.ListN.{length, replicate}
use Rattle.std.proofs.Common.{Ok, Err}
use Rattle.layouts.specs.Layout.{slots_on}
use Rattle.pages.specs.Area.{area_from}
use Rattle.state.specs.declared.State.{State}
use Rattle.state.specs.declared.Refusal.TheVariants.{NoRoom}
use Rattle.state.specs.Answer.{Answer, accepted}
use Rattle.state.specs.Done.{done}
use Rattle.state.specs.State.{homes, fresh, one_more, one_less, grown, shrunk}
use Rattle.walks.specs.Walks.{Walked, went, stopped, walk, find_answer, put_walk, remove_walk}
use Rattle.gates.specs.Gates.{Gate, on_gate, gate_of, check_gate, grow_gate, shrink_gate}
use Rattle.changes.specs.Changes.{Outcome, refused, settled, put_open, remove_open}
use Rattle.register.specs.Calls.{has_room, remade, grow_open, with_row, grown_counts}
use Rattle.register.specs.Files.{format, find, put, remove, grow, shrink, check, due, File, Left, of_outcome, of_growth, leaves, left, numbers_of}
use Rattle.demands.specs.Demands.{Total}

-- the number of what was left
abbrev number : Left → ℕ
number l = (numbers_of l.said).refusal

-- a call leaves the file f unless it is accepted, and of the row what it was lent unless there was
-- no room
abbrev Leaves : File → Left → List ℕ → Type 0
Leaves f l row = (number l ≡ 0 → ⊥) → (l.file ≡ f) × ((number l ≡ 7 → ⊥) → l.row ≡ row)

module _ (f : File) where
  -- past a gate, or not
  gated : (g : Gate) (o : Outcome) → Leaves f (of_outcome f.layout o) [] → Leaves f (of_outcome f.layout (on_gate g (refused f.state f.area) o)) []
  gated (Ok u) o k = k
  gated (Err why) o k = λ n. (refl, λ s. refl)

  looks : (g : Gate) (a : Answer) → Leaves f (leaves f.layout (on_gate g (λ why. done f.state (Err why)) (done f.state a)) f.area []) []
  looks (Ok u) a = λ n. (refl, λ s. refl)
  looks (Err why) a = λ n. (refl, λ s. refl)

  walked : (next : State) (wrong : Bool) (w : Walked) → Leaves f (of_outcome f.layout (settled f.layout f.state f.area next wrong w)) []
  walked next wrong (stopped why) = λ n. (refl, λ s. refl)
  walked next true (went pages read moved) = λ n. (refl, λ s. refl)
  walked next false (went pages read moved) = λ n. absurd (n refl)

  grows : (g : Gate) (row counted : List ℕ) → Leaves f (of_growth f.layout (on_gate g (λ why. with_row (refused f.state f.area why) row) (with_row (grow_open f.layout f.state f.area) counted))) row
  unfolding grow_open remade
  grows (Err why) row counted = λ n. (refl, λ s. refl)
  grows (Ok u) row counted = room (has_room f.layout f.state (grown f.state) f.area)
    where
      room : (v : Bool) → Leaves f (of_growth f.layout (with_row (cond v (remade f.layout f.state (grown f.state) f.area) (refused f.state f.area (NoRoom f.state.cap))) counted)) row
      room true = λ n. absurd (n refl)
      room false = λ n. (refl, λ s. absurd (s refl))

pub total : (f : File) → Total f
unfolding left remade
total f (format q cap) = formats (gate_of f.layout (fresh q cap) (length f.area))
  where
    new : Outcome
    new = record { done = done (fresh q cap) (Ok (accepted 0 0 0)); area = area_from f.layout 0 (replicate cap []) }

    formats : (g : Gate) → Leaves f (of_outcome f.layout (on_gate g (refused f.state f.area) new)) []
    formats g = gated f g new (λ n. absurd (n refl))
total f (find k) = looks f (gate_of f.layout f.state (length f.area)) (find_answer (walk f.layout (homes f.state) f.area f.state.cap k))
total f (put x) =
    let s = f.state in
    gated f (gate_of f.layout s (length f.area)) (put_open f.layout s f.area x)
    (walked f (one_more s) (eqb s.r (slots_on f.layout s.cap)) (put_walk f.layout (homes s) f.area s.cap x))
total f (remove k) =
    let s = f.state in
    gated f (gate_of f.layout s (length f.area)) (remove_open f.layout s f.area k) (walked f (one_less s) (eqb s.r 0) (remove_walk f.layout (homes s) f.area s.cap k))
total f (grow row) = grows f (grow_gate f.layout f.state f.area (length row)) row (grown_counts f.layout f.state f.area)
total f shrink = gated f (shrink_gate f.layout f.state f.area) (remade f.layout f.state (shrunk f.state) f.area) (λ n. absurd (n refl))
total f check = looks f (check_gate f.layout f.state f.area) (Ok (accepted 0 f.state.cap 0))
total f due = λ n. absurd (n refl)
