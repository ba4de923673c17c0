-- An accepted merge into a file after a fresh history leaves what puts of the records that it lacks leave.
use mathlib.Core.Path.{◌≡◌, refl, ap, ◌∙◌}
use mathlib.Core.Bool.{cond}
use mathlib.Core.Option.{Option, none, some}
use mathlib.Core.List.{List, [], ◌∷◌, ◌++◌, map, reverse, reverse_aux, reverse_aux-eq, reverse-reverse, Permᴰ}
use Prim.Native.Nat.{ℕ}
use lib.Dec.{eqb}
use borrow.Author.Tests.{eq-eqb}
use Rattle.numbers.specs.Little.{Bytes}
use Rattle.layouts.specs.Layout.{slots_of}
use Rattle.placing.specs.Image.{All, RecordSet, Image, Room}
use Rattle.placing.proofs.Lists.{all_append, all_right}
use Rattle.placing.proofs.Seek.{ne_seek}
use Rattle.placing.proofs.Perms.{perm_all, perm-length}
use Rattle.placing.proofs.Tidy.{set_perm}
use Rattle.placing.proofs.Images.{one_image}
use Rattle.pages.specs.Page.{Record, key}
use Rattle.pages.specs.Small.{Small}
use Rattle.state.specs.State.{homes}
use Rattle.register.specs.Files.{Call, put, File, left, after}
use Rattle.register.proofs.After.{after-append, after-layout}
use Rattle.demands.specs.Histories.{Fits, refusal, Kept, state_of, commit_of, holding, makes, kept}
use Rattle.demands.specs.Demands.{Fresh}
use Rattle.demands.proofs.Sets.{commit_found}
use Rattle.demands.proofs.Demands.{stands, demands}
use Rattle.sites.specs.Held.{held_in}
use Rattle.two_sets.specs.Union.{missing, union}
use Rattle.two_sets.proofs.Union.{missing_all, union-perm}
use Rattle.two_sets.proofs.Rooms.{room_perm, room_part}
use Rattle.merge_demands.specs.MergeDemands.{number, left_by, both, RoomForBoth, AllAccepted}
use Rattle.merge_demands.proofs.Held.{Holds, holds, Stood, stood, holds_kept}
use Rattle.merge_demands.proofs.Decided.{pages_of, both_set, both_image}
use Rattle.merge_demands.proofs.AnyFiles.{joined_to_lem, any_files}

-- what calls keep, in two parts
kept_append : (o : Option Kept) (f : File) (cs ds : List Call) → kept o f (cs ++ ds) ≡ kept (kept o f cs) (after f cs) ds
unfolding kept after
kept_append o f [] ds = refl
kept_append o f (c ∷ cs) ds = kept_append (cond (eqb (refusal f c) 0) (makes f.layout o c) o) (left f c).file cs ds

-- a fresh history goes on
pub goes_on : (m : Kept) (f : File) → Fresh m f → (cs : List Call) → All (Fits f.layout) cs → (m' : Kept) → kept (some m) f cs ≡ some m' → Fresh m' (after f cs)
goes_on m f w cs fits m' e =
    let same : f.layout ≡ w.start.layout = rw w.leaves at (after-layout w.start w.calls) in
    record {
      start = w.start;
      calls = w.calls ++ cs;
      fits = all_append (Fits w.start.layout) w.calls cs w.fits (rw same at fits);
      keeps = kept_append none w.start w.calls cs ∙ rw (w.keeps, w.leaves) e;
      leaves = after-append w.start w.calls cs ∙ rw w.leaves;
    }

-- an accepted put adds its record
put_goes : (m : Kept) (f : File) → Fresh m f → (x : Record) → Small f.layout x → refusal f (put x) ≡ 0 → Fresh (holding m (x ∷ m.held)) (left f (put x)).file
unfolding kept after
put_goes m f w x h e = goes_on m f w (put x ∷ []) (h, tt) (holding m (x ∷ m.held)) (rw (eq-eqb (refusal f (put x)) 0 e))

-- puts of records that the file lacks, with room for all, are accepted
puts : (zs : List Record) (m : Kept) (f : File) → Fresh m f → All (Small m.layout) zs → RecordSet key (zs ++ m.held) → Room key (homes (state_of m)) (slots_of m.layout) m.cap (zs ++ m.held)
    → AllAccepted f (map put zs) × Fresh (holding m (reverse_aux zs m.held)) (after f (map put zs))
unfolding after
puts [] m f w h d r = (tt, w)
puts (z ∷ zs) m f w h d r =
    let p = mathlib.Core.List.Permᴰ.symm (mathlib.Core.List.Permᴰ.middle z zs m.held) in
    let d' = set_perm key p d in
    let r' = room_perm key (homes (state_of m)) (slots_of m.layout) p r in
    let lacks : commit_of (key z) m.held ≡ none = rw (commit_found (key z) m.held, ne_seek key (key z) m.held (all_right (λ y. key y ≡ key z → ⊥) zs m.held d.once.0)) in
    let takes : refusal f (put z) ≡ 0 = (demands.room_put m f w z h.0 lacks).1.1 (room_part key (homes (state_of m)) (slots_of m.layout) zs (z ∷ m.held) d' r') in
    let on = puts zs (holding m (z ∷ m.held)) (left f (put z)).file (put_goes m f w z (rw (demands.counted m f w).layout h.0) takes) h.1 d' r' in
    ((takes, on.0), on.1)

-- an accepted merge of any other file
module _ (m : Kept) (f : File) (w : Fresh m f) (row : List ℕ) (g : File) (c : Bytes g.area) (z : number f row g ≡ 0) where
  abbrev known : Stood m f
  known = stood m f w

  own : Holds f.layout f.state f.area
  own = holds_kept known

  others : Holds f.layout g.state g.area
  others = let a = (any_files f row g known.bytes c).accepted.0 z in holds f.layout g.state g.area c a.5 a.6

  room : RoomForBoth f g
  room = ((any_files f row g known.bytes c).accepted.0 z).8

  -- it leaves the one file that holds both
  lands : (us : List Record) → Permᴰ us (both f g) → (h : File) → Fresh (holding m us) h → h ≡ left_by f row g
  lands us p h v =
      let t = stands (holding m us) h v in
      let i : Image key (homes f.state) (slots_of f.layout) f.state.cap us t.0 = rw (known.state, known.layout) t.1.1.image in
      let e : t.0 ≡ pages_of f g = one_image key (homes f.state) (slots_of f.layout) t.1.1.set p i (both_image f g own others room) in
      t.1.0 ∙ rw (joined_to_lem f row g known.bytes c z, e, perm-length p, known.state, known.layout)

  -- which puts of the records that the living file lacks leave, in any order
  module _ (ys : List Record) (y : Permᴰ (held_in f.layout g.state g.area) ys) where
    pub as_puts : (zs : List Record) → Permᴰ zs (missing key m.held ys)
        → AllAccepted f (map put zs) × Fresh (holding m (reverse_aux zs m.held)) (after f (map put zs)) × (after f (map put zs) ≡ left_by f row g)
    unfolding union
    as_puts zs q =
        let p : Permᴰ (zs ++ m.held) (both f g) = mathlib.Core.List.Permᴰ.trans (mathlib.Core.List.Permᴰ.append_right m.held q) (mathlib.Core.List.Permᴰ.symm (union-perm key known.held y own.set others.set)) in
        let small : All (Small f.layout) zs = perm_all (Small f.layout) (mathlib.Core.List.Permᴰ.symm q) (missing_all key (Small f.layout) m.held ys (perm_all (Small f.layout) y others.small)) in
        let fits = room_perm key (homes f.state) (slots_of f.layout) (mathlib.Core.List.Permᴰ.symm p) room in
        let on = puts zs m f w (rw known.layout at small) (set_perm key (mathlib.Core.List.Permᴰ.symm p) (both_set f g own others)) (rw (known.state, known.layout) at fits) in
        (on.0, on.1, lands (reverse_aux zs m.held) (mathlib.Core.List.Permᴰ.trans (mathlib.Core.List.Permᴰ.reverse_aux zs m.held) p) (after f (map put zs)) on.1)

    -- "After an accepted merge the records it added count as put"
    pub joined_fresh : Fresh (holding m (union key m.held ys)) (left_by f row g)
    unfolding union
    joined_fresh =
        let zs = missing key m.held ys in
        let on = as_puts (reverse zs) (mathlib.Core.List.Permᴰ.reverse zs) in
        let e : reverse_aux (reverse zs) m.held ≡ zs ++ m.held = reverse_aux-eq (reverse zs) m.held ∙ ap (λ (s : List Record). s ++ m.held) (reverse-reverse zs) in
        rw (on.2, e) at on.1
