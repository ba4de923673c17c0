-- What is promised of the calls on any bytes, beside what the definitions of the calls say. What is
-- quoted is 01's.
use Rattle.std.specs.Prelude.{ℕ, ◌*◌, ◌<◌, ◌≡◌, true, ◌↔◌, length, Ok}
use mathlib.Core.List.{List, [], Permᴰ}
use Rattle.numbers.specs.Little.{Bytes}
use Rattle.layouts.specs.Layout.{Layout, slots_of}
use Rattle.placing.specs.Image.{cat, RecordSet, Room}
use Rattle.placing.specs.Rows.{left_over}
use Rattle.pages.specs.Page.{Record, key}
use Rattle.pages.specs.Area.{held_from}
use Rattle.state.specs.declared.State.{State}
use Rattle.state.specs.State.{in_range, homes, grown}
use Rattle.state.specs.Answer.{accepted}
use Rattle.register.specs.Calls.{checked, grown_counts}
use Rattle.register.specs.OneImage.{AreaImage, ImageOfR}

-- What is promised, and proved as `register_promises` (proofs/Promises.antt), for any layout
pub record RegisterPromises : Type 0 where
  -- "Check says yes exactly when the area is the image of r records.": of a state in range and an
  -- area of its length, and else it is refused with 1 or 2
  pub check_yes : (f : Layout) (s : State) (area : List ℕ) → Bytes area → length area ≡ 256 * s.cap → in_range f s ≡ true
      → ((checked f s area).answer ≡ Ok (accepted 0 s.cap 0)) ↔ ImageOfR f s area
  -- "At most one image exists.": to the byte, whatever order the records are told in
  pub one_image : (f : Layout) (s : State) (a b : List ℕ) (rs ts : List Record) → RecordSet key rs → Permᴰ rs ts → AreaImage f s a rs → AreaImage f s b ts → a ≡ b
  -- A "row of 32-bit counts .. used to decide whether growth has room": of a file that may grow,
  -- the counts leave no record over exactly when there is an arrangement at size P + 1
  pub row_decides : (f : Layout) (s : State) (area : List ℕ) → in_range f s ≡ true → s.p < s.cap
      → let held = cat (held_from f area s.cap 0) [] in
      RecordSet key held → (left_over (slots_of f) (grown_counts f s area) 0 ≡ 0) ↔ Room key (homes (grown s)) (slots_of f) s.cap held
