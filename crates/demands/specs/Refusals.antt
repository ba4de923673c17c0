-- The refusals: which number a call gives and for what cause (01, 'Refusal numbers'), of any file,
-- said by none of the tests that code and definitions go by. `Refusals`, at the end, is what is
-- promised. What is quoted is 01's.
use Rattle.std.specs.Prelude.{ℕ, ◌+◌, ◌*◌, ◌<◌, ◌≡◌, true, false, ◌↔◌, ◌⊎◌, List, [], ◌∷◌, length}
use Rattle.std.proofs.Math.Option.{none}
use Rattle.numbers.specs.Little.{Bytes}
use Rattle.layouts.specs.Layout.{Layout, slots_of, slots_on}
use Rattle.homes.specs.declared.Params.{Params}
use Rattle.homes.specs.Homes.{first_pages}
use Rattle.placing.specs.Image.{Room}
use Rattle.pages.specs.Page.{Record, key, value, read_page}
use Rattle.pages.specs.Area.{part_at}
use Rattle.state.specs.declared.State.{State}
use Rattle.state.specs.declared.Numbers.{Numbers}
use Rattle.state.specs.State.{homes, fresh, grown, shrunk}
use Rattle.state.specs.Promises.{Ranged}
use Rattle.state.specs.Answer.{told}
use Rattle.register.specs.OneImage.{ImageOfR}
use Rattle.register.specs.Files.{Call, format, find, put, remove, grow, shrink, check, due, File, says, left, numbers_of}
use Rattle.demands.specs.Histories.{refusal}

-- the area is "256 x cap bytes"
abbrev pub RightArea : State → List ℕ → Type 0
RightArea s area = length area ≡ 256 * s.cap

module _ (f : File) where
  -- page a of the area breaks a page rule: it is not read
  abbrev pub BrokenAt : ℕ → Type 0
  BrokenAt a = (a < f.state.cap) × (read_page f.layout (homes f.state) a (part_at f.area a) ≡ none)

  -- "a page .. is broken"
  abbrev pub SomeBroken : Type 0
  SomeBroken = (a : ℕ) × BrokenAt a

  -- "the lowest broken page"
  pub record LowestBroken (a : ℕ) : Type 0 where
    pub broken : BrokenAt a
    pub lowest : (b : ℕ) → b < a → BrokenAt b → ⊥

  -- the area is the image of r records, and they have room in the file of a state
  pub record RoomIn (next : State) : Type 0 where
    pub is : ImageOfR f.layout f.state f.area
    pub room : Room key (homes next) (slots_of f.layout) f.state.cap is.records

  -- with one page more, and with one less
  abbrev pub RoomToGrow : Type 0
  RoomToGrow = RoomIn (grown f.state)

  abbrev pub RoomToShrink : Type 0
  RoomToShrink = RoomIn (shrunk f.state)

-- the cause of a number: that something holds, or that it doesn't
pub data Cause : Type 1 where
  when : (number : ℕ) (it : Type 0) → Cause
  unless : (number : ℕ) (it : Type 0) → Cause

abbrev pub number : Cause → ℕ
number (when k it) = k
number (unless k it) = k

abbrev pub Holds : Cause → Type 0
Holds (when k it) = it
Holds (unless k it) = it → ⊥

abbrev pub Fails : Cause → Type 0
Fails (when k it) = it → ⊥
Fails (unless k it) = it

-- "A refusal is given when its cause holds and no earlier one does, and not otherwise.": n is the
-- number given, the causes stand in the call's order, and no cause before them holds where `clear`
-- does
abbrev pub InOrder : (n : ℕ) → (clear : Type 0) → List Cause → Type 0
InOrder n clear [] = Unit {0}
InOrder n clear (c ∷ cs) = ((n ≡ number c) ↔ (clear × Holds c)) × InOrder n (clear × Fails c) cs

-- "1 a state number out of range", "2 area isn't 256 x cap bytes"
abbrev pub entry : Layout → State → List ℕ → List Cause
entry l s area = unless 1 (Ranged l s) ∷ unless 2 (RightArea s area) ∷ []

-- "Order: format 1, 2 (judged on the numbers it is asked for, not on the state before it). Find 1,
-- 2, then the walk. Put and remove 1, 2, the walk (4, 5, 6 or 7 as met), then 9. Grow 1, 2, 3, 8,
-- 4, 9, 7. Check 1, 2, 4, 9." 02, request 1: 13 "stands where 6 stood in the walk"; request 5: "14
-- when P = n0 x N"; request 10: "shrink's order is now 1, 2, 14, 4, 9". Due gives none. What a walk
-- meets is its definition's to say.
abbrev pub order : File → Call → List Cause
order f (format q cap) = entry f.layout (fresh q cap) f.area
order f (find k) = entry f.layout f.state f.area
order f (put x) = entry f.layout f.state f.area
order f (remove k) = entry f.layout f.state f.area
order f (grow row) =
    unless 1 (Ranged f.layout f.state) ∷ unless 2 (RightArea f.state f.area)
    ∷ unless 3 (length row ≡ f.state.cap) ∷ when 8 (f.state.p ≡ f.state.cap)
    ∷ when 4 (SomeBroken f) ∷ unless 9 (ImageOfR f.layout f.state f.area) ∷ unless 7 (RoomToGrow f) ∷ []
order f shrink =
    unless 1 (Ranged f.layout f.state) ∷ unless 2 (RightArea f.state f.area) ∷ when 14 (f.state.p ≡ first_pages f.state.params)
    ∷ when 4 (SomeBroken f) ∷ unless 9 (ImageOfR f.layout f.state f.area) ∷ []
order f check = unless 1 (Ranged f.layout f.state) ∷ unless 2 (RightArea f.state f.area) ∷ when 4 (SomeBroken f) ∷ unless 9 (ImageOfR f.layout f.state f.area) ∷ []
order f due = []

-- n is one of these numbers
abbrev pub OneOf : (n : ℕ) → List ℕ → Type 0
OneOf n [] = ⊥
OneOf n (k ∷ ks) = (n ≡ k) ⊎ OneOf n ks

-- the column "Given by", call by call, with 13 by put (02, request 1) and those of shrink (requests
-- 5 and 10); "refusal 0 means accepted"
abbrev pub gives : Call → List ℕ
gives (format q cap) = 0 ∷ 1 ∷ 2 ∷ []
gives (find k) = 0 ∷ 1 ∷ 2 ∷ 4 ∷ 5 ∷ []
gives (put x) = 0 ∷ 1 ∷ 2 ∷ 4 ∷ 6 ∷ 7 ∷ 9 ∷ 13 ∷ []
gives (remove k) = 0 ∷ 1 ∷ 2 ∷ 4 ∷ 5 ∷ 9 ∷ []
gives (grow row) = 0 ∷ 1 ∷ 2 ∷ 3 ∷ 4 ∷ 7 ∷ 8 ∷ 9 ∷ []
gives shrink = 0 ∷ 1 ∷ 2 ∷ 4 ∷ 9 ∷ 14 ∷ []
gives check = 0 ∷ 1 ∷ 2 ∷ 4 ∷ 9 ∷ []
gives due = 0 ∷ []

-- 01's numbers of what a call says
abbrev pub tells : File → Call → Numbers
tells f c = numbers_of (left f c).said

-- what numbers tell beside the refusal
pub record Plain (n : Numbers) : Type 0 where
  -- "page is 0 except for 4"; "For accepted calls page is 0"
  pub page : (n.refusal ≡ 4 → ⊥) → n.page ≡ 0
  -- of a refusal "value 0 except for 6", and for a clash
  pub value : (n.refusal ≡ 0 → ⊥) → (OneOf n.refusal (6 ∷ 13 ∷ []) → ⊥) → n.value ≡ 0
  -- of a refusal "moved 0"
  pub moved : (n.refusal ≡ 0 → ⊥) → n.moved ≡ 0
  -- "refusals 1, 2, 3, 8 .. read 0", and so does 14, which comes before any page
  pub read : OneOf n.refusal (1 ∷ 2 ∷ 3 ∷ 8 ∷ 14 ∷ []) → n.read ≡ 0

-- what an accepted call tells: "value is 0 for all but find", "format .. read 0", and moved is 0
-- but for put, remove, grow and shrink; check, grow and shrink have judged all pages
abbrev pub AcceptedTells : File → Call → Numbers → Type 0
AcceptedTells f (format q cap) n = n ≡ told 0 0 0 0 0
AcceptedTells f (find k) n = n.moved ≡ 0
AcceptedTells f (put x) n = n.value ≡ 0
AcceptedTells f (remove k) n = n.value ≡ 0
AcceptedTells f (grow row) n = (n.value ≡ 0) × (n.read ≡ f.state.cap)
AcceptedTells f shrink n = (n.value ≡ 0) × (n.read ≡ f.state.cap)
AcceptedTells f check n = n ≡ told 0 0 0 f.state.cap 0
AcceptedTells f due n = n ≡ told 0 0 0 0 0

-- "Check and grow judge pages from 0 upward and stop at the first broken one.", and so does shrink: 4
-- tells "the lowest broken page", and the pages read are those up to it ("a broken one included"); 9
-- and 7 come after all pages
pub record Judges (f : File) (n : Numbers) : Type 0 where
  pub lowest : n.refusal ≡ 4 → LowestBroken f n.page
  pub up_to : n.refusal ≡ 4 → n.read ≡ n.page + 1
  pub all : OneOf n.refusal (9 ∷ 7 ∷ []) → n.read ≡ f.state.cap

-- what is promised of a file
pub record RefusalsOf (f : File) : Type 0 where
  -- each call gives its numbers in order, and 1 and 2 before any walk
  pub order : (c : Call) → InOrder (refusal f c) Unit (order f c)
  -- it gives no others
  pub gives : (c : Call) → OneOf (refusal f c) (gives c)
  -- what it tells beside the number
  pub plain : (c : Call) → Plain (tells f c)
  pub accepted : (c : Call) → refusal f c ≡ 0 → AcceptedTells f c (tells f c)
  -- format is accepted where neither 1 nor 2 is given
  pub formats : (q : Params) (cap : ℕ) → (refusal f (format q cap) ≡ 0) ↔ (Ranged f.layout (fresh q cap) × RightArea (fresh q cap) f.area)
  -- "Check says yes exactly when the area is the image of r records."
  pub checks : (refusal f check ≡ 0) ↔ (Ranged f.layout f.state × RightArea f.state f.area × ImageOfR f.layout f.state f.area)
  -- grow is accepted where none of its seven is given
  pub grows : (row : List ℕ) → (refusal f (grow row) ≡ 0)
      ↔ (Ranged f.layout f.state × RightArea f.state f.area × (length row ≡ f.state.cap) × (f.state.p ≡ f.state.cap → ⊥) × RoomToGrow f)
  -- 02, request 10: "a file that passed its check always has an arrangement", with one page less
  pub room_to_shrink : refusal f check ≡ 0 → (f.state.p ≡ first_pages f.state.params → ⊥) → RoomToShrink f
  -- so shrink is accepted exactly where check is and P isn't n0 x N
  pub shrinks : (refusal f shrink ≡ 0) ↔ ((refusal f check ≡ 0) × (f.state.p ≡ first_pages f.state.params → ⊥))
  -- and is never refused for room
  pub never_full : refusal f shrink ≡ 7 → ⊥
  -- which page 4 tells, and how many pages are read
  pub check_judges : Judges f (tells f check)
  pub grow_judges : (row : List ℕ) → Judges f (tells f (grow row))
  pub shrink_judges : Judges f (tells f shrink)
  -- of every call: "4 a page looked at is broken; its address"
  pub broken : (c : Call) → refusal f c ≡ 4 → BrokenAt f (tells f c).page
  -- 02, request 1, of any bytes: "A put with the same value is a repeat and keeps 6. A put with
  -- another value is a clash", 13, "with the held value": each is given exactly where a find of the
  -- key is accepted, and tells what the find tells, its value and the pages read
  pub repeat : (x : Record) (w n : ℕ) → (tells f (put x) ≡ told 6 0 w n 0) ↔ ((tells f (find (key x)) ≡ told 0 0 w n 0) × (value x ≡ w))
  pub clash : (x : Record) (w n : ℕ) → (tells f (put x) ≡ told 13 0 w n 0) ↔ ((tells f (find (key x)) ≡ told 0 0 w n 0) × (value x ≡ w → ⊥))
  -- "the walk (4, 5, 6 or 7 as met), then 9": where the walk meets no cause, 9 is given exactly
  -- "where r = 12 x cap" by put, twelve being the slots of a page, "where r = 0" by remove
  pub put_count : (x : Record) → OneOf (refusal f (put x)) (0 ∷ 9 ∷ []) → (refusal f (put x) ≡ 9) ↔ (f.state.r ≡ slots_on f.layout f.state.cap)
  pub remove_count : (k : ℕ) → OneOf (refusal f (remove k)) (0 ∷ 9 ∷ []) → (refusal f (remove k) ≡ 9) ↔ (f.state.r ≡ 0)
  -- "Growth is due exactly when 5r > 48P", four times the slots of P pages; out of range "due
  -- answers no"
  pub due_yes : ((left f due).said ≡ says true) ↔ (Ranged f.layout f.state × (4 * slots_on f.layout f.state.p < 5 * f.state.r))
  pub due_no : ((left f due).said ≡ says false) ↔ (Ranged f.layout f.state × (4 * slots_on f.layout f.state.p < 5 * f.state.r) → ⊥)

-- What is promised of every file, any state and any bytes, and proved as `refusals`
-- (proofs/Refusals.antt).
abbrev pub Refusals : Type 0
Refusals = (f : File) → Bytes f.area → RefusalsOf f
