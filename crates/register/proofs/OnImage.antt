-- A file that is the image of its records, and what it is for a call to refuse it or to accept.
use mathlib.Core.Path.{◌≡◌, ap, ◌∙◌}
use mathlib.Core.Bool.{true}
use mathlib.Core.List.{List}
use Prim.Native.Nat.{ℕ, ◌*◌, ◌≤◌}
use native.Mathlib.Omega.{arith}
use lib.ListN.{length}
use Rattle.std.proofs.Common.{Ok, Err}
use Rattle.layouts.specs.Layout.{Layout, slots_of}
use Rattle.pages.specs.Small.{Small}
use Rattle.homes.proofs.Homes.{home_below}
use Rattle.placing.specs.Image.{All, RecordSet, Image}
use Rattle.pages.specs.Page.{Record, key}
use Rattle.pages.specs.Area.{area_from}
use Rattle.pages.proofs.Areas.{area_length}
use Rattle.state.specs.declared.State.{State}
use Rattle.state.specs.declared.Refusal.{Refusal}
use Rattle.state.specs.Answer.{accepted}
use Rattle.state.specs.Done.{done}
use Rattle.state.specs.State.{in_range, homes}
use Rattle.state.proofs.Ranges.{ranged, in_shape}
use Rattle.gates.specs.Gates.{opens, gate_of}
use Rattle.gates.proofs.Gating.{gate_open}
use Rattle.walks.proofs.Clean.{Clean, InOrder, image_order, image_clean}
use Rattle.register.specs.Files.{Call, leaves, file_in, left}

-- a state in range, and pages that are the image of as many records as it tells
pub record OnImage (form : Layout) (s : State) (rs : List Record) (ps : List (List Record)) : Type 0 where
  pub range : in_range form s ≡ true
  pub set : RecordSet key rs
  pub formed : All (Small form) rs
  pub count : length rs ≡ s.r
  pub image : Image key (homes s) (slots_of form) s.cap rs ps

module _ {form : Layout} {s : State} {rs : List Record} {ps : List (List Record)} (w : OnImage form s rs ps) where
  -- its pages are read back
  pub on_clean : Clean form (homes s) s.cap ps
  on_clean = image_clean w.set (ranged form s w.range).cap_high w.formed w.image

  -- as many as are lent
  pub on_length : length (area_from form 0 ps) ≡ 256 * s.cap
  on_length = area_length form 0 ps ∙ ap (λ (n : ℕ). 256 * n) on_clean.many

  -- so no call refuses it before it looks at a page
  pub on_gate : opens ≡ gate_of form s (length (area_from form 0 ps))
  on_gate = gate_open form s (length (area_from form 0 ps)) w.range on_length

  -- and a home is one of its pages
  pub home_low : (k : ℕ) → homes s k ≤ s.cap
  home_low k = omega (arith, home_below s.params s.p k (in_shape form s w.range), (ranged form s w.range).p_high)

  -- its records stand in order, no request twice, no more to a page than it has slots
  pub on_order : InOrder (slots_of form) (homes s) ps
  on_order = image_order w.set w.image

-- a call is refused and leaves the file, with some row
abbrev pub Refused : Layout → State → List (List Record) → Call → Refusal → (row : List ℕ) → Type 0
Refused form s ps c why row = left (file_in form s (area_from form 0 ps)) c ≡ leaves form (done s (Err why)) (area_from form 0 ps) row

-- a call is accepted with this value, and leaves a file that is the image of the records rs; `far`
-- tells how many of a file's records lie on another page than before
pub record Accepts (form : Layout) (s : State) (ps : List (List Record)) (c : Call) (v : ℕ) (row : List ℕ) (new : State) (rs : List Record) (far : List (List Record) → ℕ) : Type 0 where
  pub read : ℕ
  pub moved : ℕ
  pub pages : List (List Record)
  pub left : left (file_in form s (area_from form 0 ps)) c ≡ leaves form (done new (Ok (accepted v read moved))) (area_from form 0 pages) row
  pub stands : OnImage form new rs pages
  pub moves : moved ≡ far pages
