-- A page more and then one less, or the other way round, gives back the file that there was.
use mathlib.Core.Path.{◌≡◌, refl}
use mathlib.Core.List.Permᴰ
use mathlib.Core.List.{List, []}
use Prim.Native.Nat.{ℕ, zero, suc, ◌+◌, ◌-◌, ◌*◌, ◌≤◌, ◌<◌}
use mathlib.Core.Bool.{true}
use native.Mathlib.Omega.{arith}
use lib.ListN.{length}
use Rattle.numbers.specs.Little.{Bytes}
use Rattle.layouts.specs.Layout.{Layout, slots_of}
use Rattle.homes.specs.Homes.{first_pages}
use Rattle.placing.specs.Image.{All, cat, Room}
use Rattle.placing.proofs.Lists.{all_append}
use Rattle.placing.proofs.Perms.{perm_all}
use Rattle.placing.proofs.Images.{one_image}
use Rattle.pages.specs.Page.{Record, key, records_in}
use Rattle.pages.specs.Small.{Small}
use Rattle.pages.specs.Area.{part_at, held_from, area_from}
use Rattle.walks.proofs.Clean.{read_held}
use Rattle.pages.proofs.Bounds.{part_small}
use Rattle.state.specs.declared.State.{State}
use Rattle.state.specs.State.{in_range, homes, grown, shrunk}
use Rattle.state.proofs.Ranges.{ranged}
use Rattle.register.specs.OneImage.{ImageOfR}
use Rattle.register.specs.Files.{Call, grow, shrink, File, file_in, left, numbers_of}
use Rattle.register.proofs.OnImage.{OnImage, Accepts}
use Rattle.register.proofs.RemadeImage.{grown_row, grow_with_room, shrink_yes}

-- what stands at the places of an area's records are records that the layout takes
held_formed : (form : Layout) (area : List ℕ) → Bytes area → (n a : ℕ) → 256 * (a + n) ≤ length area → All (Small form) (cat (held_from form area n a) [])
held_formed form area b zero a h = tt
held_formed form area b (suc n) a h =
    all_append (Small form) (records_in form (part_at area a)) (cat (held_from form area n (suc a)) []) (part_small form area a (omega arith) b) (held_formed form area b n (suc a) (omega arith))

-- an area that is the image of its state's records stands
pub image_stands : (form : Layout) (s : State) (area : List ℕ) → Bytes area → length area ≡ 256 * s.cap → in_range form s ≡ true → (w : ImageOfR form s area) → OnImage form s w.records w.is.pages
image_stands form s area b l r w =
    let e = read_held form (homes s) area s.cap 0 w.is.pages w.is.pass in
    let f : All (Small form) (cat w.is.pages []) = rw e at (held_formed form area b s.cap 0 (omega arith)) in
    record { range = r; set = w.set; formed = perm_all (Small form) w.is.image.arranged.holds f; count = w.count; image = w.is.image }

-- one page more and one less are no change
grown_back : (s : State) → shrunk (grown s) ≡ s
grown_back s =
    let e : s.p + 1 - 1 ≡ s.p = omega arith in
    rw e

shrunk_back : (s : State) → 1 ≤ s.p → grown (shrunk s) ≡ s
shrunk_back s l =
    let e : s.p - 1 + 1 ≡ s.p = omega arith in
    rw e

module _ {form : Layout} {s : State} {rs : List Record} {ps : List (List Record)} (w : OnImage form s rs ps) where
  -- its own pages are an arrangement
  room_here : (t : State) → t ≡ s → Room key (homes t) (slots_of form) s.cap rs
  room_here t e = rw e (ps, w.image.arranged)

  -- the same records at the same state stand on the same pages
  same_pages : (t : State) (qs : List (List Record)) → t ≡ s → OnImage form t rs qs → qs ≡ ps
  same_pages t qs e v =
      let u : OnImage form s rs qs = rw e at v in
      one_image key (homes s) (slots_of form) w.set (Permᴰ.refl rs) u.image w.image

  -- a call on a file is accepted, and leaves the file of these pages
  abbrev Back : File → Call → Type 0
  Back g c = ((numbers_of (left g c).said).refusal ≡ 0) × ((left g c).file ≡ file_in form s (area_from form 0 ps))

  -- an accepted call that leads to the state again is such a one
  back : (t : State) (qs : List (List Record)) (c : Call) (row : List ℕ) {far : List (List Record) → ℕ} {next : State} → next ≡ s → Accepts form t qs c 0 row next rs far → Back (file_in form t (area_from form 0 qs)) c
  back t qs c row {far} {next} e a = rw (a.left, e, same_pages next a.pages e a.stands) (refl, refl)

  -- a growth, and a shrinking at once
  pub grow-shrink : (row : List ℕ) → length row ≡ s.cap → s.p < s.cap → Room key (homes (grown s)) (slots_of form) s.cap rs → Back (left (file_in form s (area_from form 0 ps)) (grow row)).file shrink
  grow-shrink row fits low r =
      let a = grow_with_room w row fits low r in
      let more : first_pages s.params < s.p + 1 = omega (arith, (ranged form s w.range).p_low) in
      rw a.left (back (grown s) a.pages shrink [] (grown_back s) (shrink_yes a.stands more))

  -- a shrinking, and a growth at once
  pub shrink-grow : (row : List ℕ) → length row ≡ s.cap → first_pages s.params < s.p → Back (left (file_in form s (area_from form 0 ps)) shrink).file (grow row)
  shrink-grow row fits more =
      let a = shrink_yes w more in
      let e = shrunk_back s (omega arith) in
      let low : s.p - 1 < s.cap = omega (arith, (ranged form s w.range).p_high) in
      rw a.left (back (shrunk s) a.pages (grow row) (grown_row (shrunk s) rs) e (grow_with_room a.stands row fits low (room_here (grown (shrunk s)) e)))
