-- A file made anew past its gate: the records are a set, their homes are pages, and the counts tell
-- whether they have room.
use mathlib.Core.Path.{◌≡◌, sym, ap, ◌∙◌}
use mathlib.Core.Bool.{Bool, true}
use mathlib.Core.Logic.{◌↔◌, inl, inr}
use mathlib.Core.List.{List, [], ◌∷◌}
use Prim.Native.Nat.{ℕ, ◌+◌, ◌-◌, ◌*◌, ◌≤◌, ◌<◌}
use native.Mathlib.Omega.{arith}
use lib.Dec.{eqb}
use lib.ListN.{length, take, replicate, length-replicate}
use lib.Seq.{length-take-le}
use Rattle.std.proofs.Common.{Ok, Err}
use borrow.Author.Tests.{eqb-true, eq-eqb}
use Rattle.numbers.specs.Little.{Bytes}
use Rattle.layouts.specs.Layout.{Layout, in_use, slots_of}
use Rattle.homes.specs.declared.Shape.{Shape}
use Rattle.homes.specs.declared.new_homes.NewHomes.{NewHomes}
use Rattle.homes.specs.Homes.{first_pages, shape_of, home_in}
use Rattle.homes.specs.Steps.NewHomes.{new_home, Usable, Agrees}
use Rattle.homes.proofs.Homes.{home_below}
use Rattle.homes.proofs.Keeping.{agrees}
use Rattle.placing.specs.Image.{All, cat, RecordSet, Room}
use Rattle.placing.specs.Lay.{taken}
use Rattle.placing.specs.Rows.{counts, left_over, strayed}
use Rattle.placing.proofs.Images.{room_taken}
use Rattle.placing.proofs.Rows.{counts-length, row_room}
use Rattle.pages.specs.Page.{Record, key, home_for}
use Rattle.pages.specs.Area.{held_from, area_from}
use Rattle.pages.specs.Steps.Known.{KnownAt}
use Rattle.rebuild.specs.Relaid.{relaid}
use Rattle.survey.specs.Survey.{Verdict}
use Rattle.survey.specs.Steps.Counts.{Counts}
use Rattle.survey.proofs.ImageTest.{good_pages}
use Rattle.survey.proofs.Knowing.{image_known}
use Rattle.state.specs.declared.State.{State}
use Rattle.state.specs.declared.Accepted.{Accepted}
use Rattle.state.specs.Answer.{accepted}
use Rattle.state.specs.Done.{done}
use Rattle.state.specs.State.{in_range, homes, grown, shrunk}
use Rattle.state.proofs.Ranges.{ranged, in_shape, grown_range, shrunk_range}
use Rattle.gates.specs.Gates.{Gate, opens, image_of, image_gate}
use Rattle.gates.proofs.Judging.{open_counted, GoodFile, open_good, held_set}
use Rattle.register.specs.Steps.Past.{besides, Rehomes, CountedIf}
use Rattle.register.specs.Calls.{grown_counts, has_room, remade}

-- the records of an area that is an image are a set
pub open_set : (form : Layout) (s : State) (area : List ℕ) → Bytes area → length area ≡ 256 * s.cap → image_gate form s area ≡ opens
    → RecordSet key (cat (held_from form area s.cap 0) [])
open_set form s area b l e = held_set form s area b l (open_good form s area e)

-- the counts are as many as the area has pages
pub counts_many : (form : Layout) (s : State) (area row : List ℕ) → row ≡ grown_counts form s area → length row ≡ s.cap
counts_many form s area row e = ap length e ∙ counts-length (home_for (homes (grown s))) (cat (held_from form area s.cap 0) []) s.cap 0

-- as many zeros as are cut off from more
pub cut : (m n : ℕ) → n ≤ m → length {A = ℕ} (take n (replicate m 0)) ≡ n
cut m n l = length-take-le {A = ℕ} n (replicate m 0) (omega (arith, length-replicate {A = ℕ} m 0))

-- a file of one page more
module _ (s next : State) (e : next ≡ grown s) (range : in_range in_use s ≡ true) (low : s.p < s.cap) where
  pub grown_in : in_range in_use next ≡ true
  grown_in = rw e (grown_range in_use s range low)

  -- has pages that it didn't start with
  pub grown_more : first_pages next.params < next.p
  grown_more = rw e (omega (arith, (ranged in_use s range).p_low))

  -- and its homes may follow those of the file as it was
  pub grown_rehomes : {new : NewHomes} → new ≡ besides next next → Usable new → Rehomes s new
  grown_rehomes {new} b u =
      let p : next.p ≡ s.p + 1 = rw e in
      let a : next.p - 1 + 1 ≡ next.p = omega arith in
      record { usable = u; follows = rw b (rw e, rw (a, e), inl (omega arith, omega arith)); low = rw b (omega arith) }

-- a file of one page less
module _ (s next : State) (e : next ≡ shrunk s) (range : in_range in_use s ≡ true) (more : first_pages s.params < s.p) where
  pub shrunk_in : in_range in_use next ≡ true
  shrunk_in = rw e (shrunk_range in_use s range more)

  pub shrunk_rehomes : {new : NewHomes} → new ≡ besides next s → Usable new → Rehomes s new
  shrunk_rehomes {new} b u =
      let p : next.p ≡ s.p - 1 = rw e in
      let a : s.p - 1 + 1 ≡ s.p = omega arith in
      record { usable = u; follows = rw b (rw e, rw a, inr (omega arith, omega arith)); low = rw b (omega (arith, (ranged in_use s range).p_high)) }

-- past the gate of the pages the homes of a file's records are counted
pub counted_if : (s : State) (shape : Shape) → shape ≡ shape_of s.params s.p → (area row : List ℕ) (n : ℕ) → n ≡ s.cap → (v : Verdict) (g : Gate) → g ≡ image_of s v
    → Counts v (home_in shape) (cat (held_from in_use area s.cap 0) []) n row → CountedIf g s area row
counted_if s shape f area row n l v (Ok u) e k = rw (f, l) at (open_counted s v (home_in shape) (cat (held_from in_use area s.cap 0) []) n row (sym e) k)
counted_if s shape f area row n l v (Err why) e k = tt

-- new homes of a file's records
module _ (s : State) (range : in_range in_use s ≡ true) {new : NewHomes} (m : Rehomes s new) where
  same_page : Agrees (homes s) new
  same_page = agrees (shape_of s.params s.p) new (in_shape in_use s range) m.usable.ready m.follows

  -- what is known of the homes on its pages, if they are an image
  pub rehomed_known : (area : List ℕ) → Bytes area → length area ≡ 256 * s.cap → image_gate in_use s area ≡ opens → (a : ℕ) → a < s.cap → KnownAt in_use new area a
  rehomed_known area b l e =
      let k : GoodFile in_use s area = open_good in_use s area e in
      image_known in_use (homes s) area new same_page s.cap (good_pages in_use (homes s) area b s.cap 0 (omega arith) k.whole) k.image

-- past an open gate the homes are counted
pub counted_open : (s : State) (area row : List ℕ) (g : Gate) → CountedIf g s area row → g ≡ opens → row ≡ counts (home_for (homes s)) (cat (held_from in_use area s.cap 0) []) s.cap 0
counted_open s area row g k e = rw e at k

-- the row of a file that may grow
module _ (form : Layout) (s : State) (range : in_range form s ≡ true) (low : s.p < s.cap) where
  -- all homes are pages of the area
  homes_low : (rs : List Record) → All (λ x. home_for (homes (grown s)) x < s.cap) rs
  homes_low [] = tt
  homes_low (x ∷ rs) = (omega (arith, home_below s.params (s.p + 1) (key x) (in_shape form (grown s) (grown_range form s range low))), homes_low rs)

  -- so the counts tell whether the pages can take all
  row_takes : (area : List ℕ)
      → eqb (left_over (slots_of form) (grown_counts form s area) 0) 0 ≡ eqb (taken (home_for (homes (grown s))) (slots_of form) (cat (held_from form area s.cap 0) []) s.cap) (length (cat (held_from form area s.cap 0) []))
  row_takes area =
      let rs : List Record = cat (held_from form area s.cap 0) [] in
      row_room (home_for (homes (grown s))) (slots_of form) rs s.cap (homes_low rs)

  -- and whether there is an arrangement
  pub row_arranges : (area : List ℕ) → RecordSet key (cat (held_from form area s.cap 0) [])
      → (left_over (slots_of form) (grown_counts form s area) 0 ≡ 0) ↔ Room key (homes (grown s)) (slots_of form) s.cap (cat (held_from form area s.cap 0) [])
  row_arranges area set =
      let t = room_taken key (homes (grown s)) (slots_of form) s.cap (cat (held_from form area s.cap 0) []) set in
      let e = row_takes area in
      (λ z. t.1 (eqb-true _ _ (sym e ∙ eq-eqb _ 0 z)), λ r. eqb-true _ 0 (e ∙ eq-eqb _ _ (t.0 r)))

  -- and so whether there is room
  pub row_rooms : (area row : List ℕ) → row ≡ grown_counts form s area → (room : Bool) → room ≡ eqb (left_over (slots_of form) row 0) 0 → has_room form s (grown s) area ≡ room
  unfolding has_room
  row_rooms area row filled room told = sym (told ∙ rw filled (row_takes area))

-- new homes that are those of the file `next`
module _ (form : Layout) (s next : State) (area : List ℕ) (new : NewHomes) (of : new.shape ≡ shape_of next.params next.p) where
  same_homes : new_home new ≡ homes next
  same_homes = rw of

  -- with room a rebuild may go on
  pub takes_all : has_room form s next area ≡ true → taken (home_for (new_home new)) (slots_of form) (cat (held_from form area s.cap 0) []) s.cap ≡ length (cat (held_from form area s.cap 0) [])
  unfolding has_room
  takes_all r = rw same_homes (eqb-true _ _ r)

  -- and makes the file anew
  pub remake_done : (moved : ℕ) → moved ≡ strayed key (held_from form area s.cap 0) (relaid (slots_of form) (new_home new) s.cap (held_from form area s.cap 0))
      → (made : List ℕ) → made ≡ area_from form 0 (relaid (slots_of form) (new_home new) s.cap (held_from form area s.cap 0))
      → (a : Accepted) → a ≡ accepted 0 s.cap moved → let o = remade form s next area in (done next (Ok a) ≡ o.done) × (made ≡ o.area)
  unfolding remade
  remake_done moved k made n a e = (rw (e, k, same_homes), n ∙ rw same_homes)
