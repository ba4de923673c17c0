-- What a call refuses before it does anything (01, 'Refusal numbers'), in 01's order. What is
-- quoted is 01's, or 02's where that is said.
use Rattle.std.specs.Prelude.{ℕ, suc, ◌*◌, cond, ◌&&◌, List, length, eqb, Result, Ok, Err}
use Rattle.layouts.specs.Layout.{Layout}
use Rattle.homes.specs.Homes.{first_pages}
use Rattle.state.specs.declared.State.{State}
use Rattle.state.specs.State.{in_range, homes}
use Rattle.state.specs.declared.Refusal.{Refusal}
use Rattle.state.specs.declared.Refusal.TheVariants.{OutOfRange, WrongArea, WrongRow, Broken, AtCap, NotImage, AtStart}
use Rattle.survey.specs.Survey.{Verdict, surveyed}

-- whether a call may go on, or why not
abbrev pub Gate : Type 0
Gate = Result (Unit {0}) Refusal

abbrev pub opens : Gate
opens = Ok tt

abbrev pub on_gate : {A : Type 0} → Gate → (Refusal → A) → A → A
on_gate (Ok u) refuse on = on
on_gate (Err why) refuse on = refuse why

-- "1 a state number out of range", then "2 area isn't 256 x cap bytes", of an area of n bytes
unfoldable pub gate_of : Layout → State → (n : ℕ) → Gate
gate_of f s n = cond (in_range f s) (cond (eqb n (256 * s.cap)) opens (Err WrongArea)) (Err OutOfRange)

-- "Check says yes exactly when the area is the image of r records. Otherwise 4 with the lowest
-- broken page, or, with none broken, 9." Pages are judged from 0 upward, so a broken page a is the
-- last of a + 1 that are read.
abbrev pub image_of : State → Verdict → Gate
image_of s (Err a) = Err (Broken a (suc a))
image_of s (Ok w) = cond (w.image && eqb w.records s.r) opens (Err (NotImage s.cap))

unfoldable pub image_gate : Layout → State → List ℕ → Gate
image_gate f s area = image_of s (surveyed f (homes s) area s.cap)

-- "Check 1, 2, 4, 9."
unfoldable pub check_gate : Layout → State → List ℕ → Gate
check_gate f s area = on_gate (gate_of f s (length area)) Err (image_gate f s area)

-- 1, 2 and then "3 row isn't cap counts", with an area of m bytes and a row of n counts
abbrev pub row_entry : Layout → State → (m n : ℕ) → Gate
row_entry f s m n = on_gate (gate_of f s m) Err (cond (eqb n s.cap) opens (Err WrongRow))

-- 02, request 9: "the living file's 1 and 2, its row's 3, its 4 and 9"
unfoldable pub merge_gate : Layout → State → List ℕ → (n : ℕ) → Gate
merge_gate f s area n = on_gate (row_entry f s (length area) n) Err (image_gate f s area)

-- "Grow 1, 2, 3, 8"
abbrev pub grow_entry : Layout → State → (m n : ℕ) → Gate
grow_entry f s m n = on_gate (row_entry f s m n) Err (cond (eqb s.p s.cap) (Err AtCap) opens)

-- then "4, 9"
unfoldable pub grow_gate : Layout → State → List ℕ → (n : ℕ) → Gate
grow_gate f s area n = on_gate (grow_entry f s (length area) n) Err (image_gate f s area)

-- 02, request 5: "14 when P = n0 x N; order 1, 2, 14", with an area of m bytes
abbrev pub shrink_entry : Layout → State → (m : ℕ) → Gate
shrink_entry f s m = on_gate (gate_of f s m) Err (cond (eqb s.p (first_pages s.params)) (Err AtStart) opens)

-- then "4, 9"
unfoldable pub shrink_gate : Layout → State → List ℕ → Gate
shrink_gate f s area = on_gate (shrink_entry f s (length area)) Err (image_gate f s area)
