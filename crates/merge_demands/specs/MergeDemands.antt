-- What is promised of the merge of another file into a living one (02, request 9): `MergeDemands`, at the
-- end. What is quoted is the request's, or 01's where that is said.
use Rattle.std.specs.Prelude.{ℕ, ◌+◌, ◌*◌, ◌<◌, ◌≡◌, cond, ◌↔◌, length, eqb}
use Rattle.std.proofs.Math.Option
use Rattle.std.proofs.Math.Option.{Option, none, some}
use mathlib.Core.List.{List, [], ◌∷◌, map, Permᴰ}
use Rattle.numbers.specs.Little.{Bytes}
use Rattle.layouts.specs.Layout.{Layout, in_use, slots_of}
use Rattle.placing.specs.Image.{All, RecordSet, Room}
use Rattle.placing.specs.Rows.{counts}
use Rattle.pages.specs.Page.{Record, key, home_for}
use Rattle.state.specs.State.{homes, holding}
use Rattle.state.specs.Promises.{Ranged}
use Rattle.register.specs.OneImage.{AreaImage, ImageOfR}
use Rattle.register.specs.Files.{Call, put, File, file_in, left, after}
use Rattle.demands.specs.Histories as histories
use Rattle.demands.specs.Histories.{Fits, refusal, Kept, state_of, record_of, kept}
use Rattle.demands.specs.Demands.{Fresh}
use Rattle.demands.specs.Refusals.{RightArea, SomeBroken, LowestBroken, Cause, when, unless, InOrder}
use Rattle.sites.specs.Held.{held_in, same}
use Rattle.two_sets.specs.Union.{missing, union, lowest_clash}
use Rattle.two_sets.specs.UnionPromises.{ClashAt}
use Rattle.merges.specs.declared.MergedNumbers.{MergedNumbers}
use Rattle.merges.specs.Merge.{Outcome, merged, merged_numbers}

-- the merge of g into f, with this row, by the definition that its contract names. Both are in the layout of
-- the living file.
abbrev pub merging : (f : File) (row : List ℕ) (g : File) → Outcome
merging f row g = merged f.layout f.state f.area row g.state g.area

-- what it says, in numbers
abbrev pub says : (f : File) (row : List ℕ) (g : File) → MergedNumbers
says f row g = merged_numbers (merging f row g).merge.answer

abbrev pub number : (f : File) (row : List ℕ) (g : File) → ℕ
number f row g = (says f row g).numbers.refusal

-- the living file afterwards
abbrev pub left_by : (f : File) (row : List ℕ) (g : File) → File
left_by f row g = file_in f.layout (merging f row g).merge.state (merging f row g).area

-- what both hold, each record once
abbrev pub both : (f g : File) → List Record
both f g = union key (held_in f.layout f.state f.area) (held_in f.layout g.state g.area)

-- they clash at a key: both hold it, with two values
abbrev pub Clashes : (f g : File) → ℕ → Type 0
Clashes f g = ClashAt key same (held_in f.layout f.state f.area) (held_in f.layout g.state g.area)

-- an "arrangement of both sets" on the living file's lent pages
abbrev pub RoomForBoth : (f g : File) → Type 0
RoomForBoth f g = Room key (homes f.state) (slots_of f.layout) f.state.cap (both f g)

-- the other file, in the living file's layout
abbrev pub read_as : (f g : File) → File
read_as f g = file_in f.layout g.state g.area

-- a refusal with the file that it is about, as one number: the file counts hundreds
abbrev pub marked : MergedNumbers → ℕ
marked n = n.file * 100 + n.numbers.refusal

-- "Refusals, in order ..: the living file's 1 and 2, its row's 3, its 4 and 9, the other's 1, 2, 4 and 9, then
-- 13 .., then 7 exactly when no arrangement of both sets exists"
abbrev pub order : (f : File) (row : List ℕ) (g : File) → List Cause
order f row g =
    let s = f.state in
    let t = g.state in
    unless 101 (Ranged f.layout s) ∷ unless 102 (RightArea s f.area) ∷ unless 103 (length row ≡ s.cap)
    ∷ when 104 (SomeBroken f) ∷ unless 109 (ImageOfR f.layout s f.area)
    ∷ unless 201 (Ranged f.layout t) ∷ unless 202 (RightArea t g.area) ∷ when 204 (SomeBroken (read_as f g)) ∷ unless 209 (ImageOfR f.layout t g.area)
    ∷ when 13 ((k : ℕ) × Clashes f g k) ∷ unless 7 (RoomForBoth f g) ∷ []

-- what an accepted merge leaves: "The living file ends as the image of both record sets at its own size"
pub record Joins (f : File) (row : List ℕ) (g : File) : Type 0 where
  pub set : RecordSet key (both f g)
  pub state : (merging f row g).merge.state ≡ holding f.state (length (both f g))
  pub image : AreaImage f.layout (holding f.state (length (both f g))) (merging f row g).area (both f g)
  -- 01's check says yes of it
  pub is : ImageOfR f.layout (merging f row g).merge.state (merging f row g).area

-- Of any numbers and any bytes
pub record OfAnyFiles (f : File) (row : List ℕ) (g : File) : Type 0 where
  -- each refusal is given exactly where its cause holds and no earlier one does
  pub order : InOrder (marked (says f row g)) Unit (order f row g)
  -- and a merge is accepted exactly where none does
  pub accepted : (number f row g ≡ 0) ↔ (ImageOfR f.layout f.state f.area × Ranged f.layout f.state × RightArea f.state f.area × (length row ≡ f.state.cap)
      × Ranged f.layout g.state × RightArea g.state g.area × ImageOfR f.layout g.state g.area
      × ((k : ℕ) → Clashes f g k → ⊥) × RoomForBoth f g)
  -- "with both files unchanged"; the row is untouched by "any other refusal, 13 too", than 7
  pub unchanged : (number f row g ≡ 0 → ⊥) → (left_by f row g ≡ f) × ((number f row g ≡ 7 → ⊥) → (merging f row g).row ≡ row)
  -- "after success or 7 holds the number of each home over both sets"
  pub row_accepted : number f row g ≡ 0 → (merging f row g).row ≡ counts (home_for (homes f.state)) (both f g) f.state.cap 0
  pub row_full : number f row g ≡ 7 → (merging f row g).row ≡ counts (home_for (homes f.state)) (both f g) f.state.cap 0
  -- "13 with the lowest clashing key in the value field"
  pub lowest : number f row g ≡ 13 → let k = (says f row g).numbers.value in Clashes f g k × ((j : ℕ) → j < k → Clashes f g j → ⊥)
  -- which page 4 tells
  pub broken : number f row g ≡ 4 → ((says f row g).file ≡ 1 → LowestBroken f (says f row g).numbers.page) × ((says f row g).file ≡ 2 → LowestBroken (read_as f g) (says f row g).numbers.page)
  pub joins : number f row g ≡ 0 → Joins f row g

-- what is done to a living file: a call, or a merge of any other file, with a row
pub data Deed : Type 0 where
  call : Call → Deed
  merge : (row : List ℕ) (other : File) → Deed

-- a call's numbers fit, and the other file's bytes are bytes
abbrev pub FitsDeed : Layout → Deed → Type 0
FitsDeed form (call c) = Fits form c
FitsDeed form (merge row g) = Bytes g.area

abbrev pub left_by_deed : File → Deed → File
left_by_deed f (call c) = (left f c).file
left_by_deed f (merge row g) = left_by f row g

-- the demands': "each call given the pages and state that the last one left", merges among them
unfoldable pub after_all : File → List Deed → File
after_all f [] = f
after_all f (d ∷ ds) = after_all (left_by_deed f d) ds

-- what is kept after a deed: "After an accepted merge the records it added count as put"
abbrev pub kept_by : Option Kept → File → Deed → Option Kept
kept_by o f (call c) = kept o f (c ∷ [])
kept_by o f (merge row g) = cond (eqb (number f row g) 0) (Option.map (λ m. histories.holding m (union key m.held (held_in f.layout g.state g.area))) o) o

unfoldable pub kept_all : Option Kept → File → List Deed → Option Kept
kept_all o f [] = o
kept_all o f (d ∷ ds) = kept_all (kept_by o f d) (left_by_deed f d) ds

-- each of some calls is accepted, one after the other
abbrev pub AllAccepted : File → List Call → Type 0
AllAccepted f [] = Unit {0}
AllAccepted f (c ∷ cs) = (refusal f c ≡ 0) × AllAccepted (left f c).file cs

-- two files of one page layout, each after a fresh history, with what they keep: parameters, lent sizes,
-- pages grown to and editions may be any
pub record TwoFresh (a b : Kept) (f g : File) : Type 0 where
  pub first : Fresh a f
  pub second : Fresh b g
  pub layout : a.layout ≡ b.layout

-- Of such files
pub record MergesOf (a b : Kept) (f g : File) : Type 0 where
  -- 13 exactly where some request has two commits, with the lowest such request
  pub clash : (row : List ℕ) → length row ≡ a.cap → (k : ℕ)
      → ((number f row g ≡ 13) × ((says f row g).numbers.value ≡ k)) ↔ (lowest_clash key same a.held b.held ≡ some k)
  -- "7 exactly when no arrangement of both sets exists", and otherwise, where none clashes, it is accepted
  pub room : (row : List ℕ) → length row ≡ a.cap → lowest_clash key same a.held b.held ≡ none
      → let fits = Room key (homes (state_of a)) (slots_of a.layout) a.cap (union key a.held b.held) in
      ((number f row g ≡ 7) ↔ (fits → ⊥)) × ((number f row g ≡ 0) ↔ fits)
  -- "Merging an empty file changes no page"
  pub empty : (row : List ℕ) → length row ≡ a.cap → b.held ≡ [] → (number f row g ≡ 0) × (left_by f row g ≡ f)
  -- the records afterwards: of each request what the living file held or, where it held none, what the other
  -- did
  pub holds : (row : List ℕ) → number f row g ≡ 0 → Fresh (histories.holding a (union key a.held b.held)) (left_by f row g)
  -- "Merging the first into the second or the second into the first gives, where both are accepted, the same
  -- record set": in the layout in use, where a record is its key and its value. (In the other, records that
  -- differ in their run alone do not clash, and the living file's stays.)
  pub same_set : (row row' : List ℕ) → a.layout ≡ in_use → number f row g ≡ 0 → number g row' f ≡ 0
      → (k : ℕ) → record_of k (union key a.held b.held) ≡ record_of k (union key b.held a.held)
  -- "with equal parameters, size, edition and lent pages, the same bytes": and the same state, in the layout in
  -- use
  pub same_bytes : (row row' : List ℕ) → a.layout ≡ in_use → number f row g ≡ 0 → number g row' f ≡ 0 → a.params ≡ b.params → a.p ≡ b.p → a.cap ≡ b.cap → left_by f row g ≡ left_by g row' f
  -- where one of the two is accepted, so is the other, with a row of the right length
  pub both_accepted : (row row' : List ℕ) → length row' ≡ b.cap → number f row g ≡ 0 → a.params ≡ b.params → a.p ≡ b.p → a.cap ≡ b.cap → number g row' f ≡ 0

-- What is promised, and proved as `merge_demands` (proofs/MergeDemands.antt)
pub record MergeDemands : Type 0 where
  pub any_files : (f : File) (row : List ℕ) (g : File) → Bytes f.area → Bytes g.area → OfAnyFiles f row g
  -- "After an accepted merge the records it added count as put, so demands 2 and 3 go on holding": calls and
  -- merges of any files, after a fresh history, leave a file after a fresh history with what they keep, and all
  -- of `Demands` is of it; `Refusals` is of every file
  pub fresh : (m : Kept) (f : File) → Fresh m f → (ds : List Deed) → All (FitsDeed f.layout) ds → (m' : Kept) → kept_all (some m) f ds ≡ some m' → Fresh m' (after_all f ds)
  -- the same file comes out as by putting the records that the living file lacks one by one, in any order: each
  -- is accepted
  pub one_by_one : (m : Kept) (f g : File) → Fresh m f → Bytes g.area → (row : List ℕ) → number f row g ≡ 0
      → (zs : List Record) → Permᴰ zs (missing key m.held (held_in f.layout g.state g.area))
      → AllAccepted f (map put zs) × (after f (map put zs) ≡ left_by f row g)
  pub after_fresh : (a b : Kept) (f g : File) → TwoFresh a b f g → MergesOf a b f g
