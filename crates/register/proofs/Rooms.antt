-- When the records of an image have room in another file: where an arrangement exists, and so always
-- where the file has one page less.
use mathlib.Core.Path.{◌≡◌}
use mathlib.Core.Bool.{true}
use mathlib.Core.Logic.{◌↔◌}
use mathlib.Core.List.{List, []}
use Prim.Native.Nat.{ℕ, ◌+◌, ◌-◌, ◌*◌, ◌≤◌, ◌<◌}
use native.Mathlib.Omega.{arith}
use lib.ListN.{length}
use borrow.Author.Tests.{eqb-true, eq-eqb}
use Rattle.numbers.specs.Little.{Bytes}
use Rattle.layouts.specs.Layout.{Layout, slots_of}
use Rattle.homes.specs.Homes.{first_pages}
use Rattle.homes.proofs.Homes.{home_below, home_grown}
use Rattle.placing.specs.Image.{cat, Room}
use Rattle.placing.proofs.Images.{room_taken}
use Rattle.placing.proofs.Perms.{perm-length, perm-up_to}
use Rattle.placing.proofs.Rehome.{grown_higher, room_lower}
use Rattle.placing.proofs.Taken.{taken_cong}
use Rattle.pages.specs.Page.{key, home_for}
use Rattle.walks.proofs.Clean.{read_held}
use Rattle.state.specs.declared.State.{State}
use Rattle.state.specs.State.{in_range, homes, shrunk}
use Rattle.state.proofs.Ranges.{in_shape, shrunk_range}
use Rattle.gates.specs.Gates.{opens, image_gate}
use Rattle.gates.proofs.Judging.{open_good}
use Rattle.register.specs.OneImage.{ImageOfR}
use Rattle.register.specs.Calls.{has_room}
use Rattle.register.proofs.CheckImage.{good_image}

-- the pages can take all that stand on them exactly where the records have an arrangement
pub room_of : (form : Layout) (s next : State) (area : List ℕ) (w : ImageOfR form s area) → (has_room form s next area ≡ true) ↔ Room key (homes next) (slots_of form) s.cap w.records
unfolding has_room
room_of form s next area w =
    let h = home_for (homes next) in
    let ps = w.is.pages in
    let p = w.is.image.arranged.holds in
    let t = room_taken key (homes next) (slots_of form) s.cap w.records w.set in
    rw (read_held form (homes s) area s.cap 0 ps w.is.pass, taken_cong h (slots_of form) (cat ps []) w.records (λ j. perm-up_to h j p) s.cap, perm-length p)
    (λ e. t.1 (eqb-true _ _ e), λ r. eq-eqb _ _ (t.0 r))

module _ (form : Layout) (s : State) (range : in_range form s ≡ true) (more : first_pages s.params < s.p) where
  -- 02, request 10: "Records only get lower homes when the file shrinks"
  homes_sink : (k : ℕ) → homes (shrunk s) k ≤ homes s k
  homes_sink =
      let r = in_shape form (shrunk s) (shrunk_range form s range more) in
      let e : s.p - 1 + 1 ≡ s.p = omega arith in
      grown_higher (homes (shrunk s)) (homes s) (s.p - 1) (λ k. home_below s.params (s.p - 1) k r) (λ k. rw e at (home_grown s.params (s.p - 1) k r))

  -- "so a file that passed its check always has an arrangement": its own pages are one
  pub room_to_shrink : (area : List ℕ) (w : ImageOfR form s area) → Room key (homes (shrunk s)) (slots_of form) s.cap w.records
  room_to_shrink area w = room_lower key (homes (shrunk s)) (homes s) (slots_of form) s.cap w.records homes_sink (w.is.pages, w.is.image.arranged)

  -- which is what a shrinking relies on past its gate
  pub open_room : (next : State) → next ≡ shrunk s → (area : List ℕ) → Bytes area → length area ≡ 256 * s.cap → image_gate form s area ≡ opens → has_room form s next area ≡ true
  open_room next e area b l o =
      let w : ImageOfR form s area = good_image form s area b l (open_good form s area o) in
      rw e ((room_of form s (shrunk s) area w).1 (room_to_shrink area w))
