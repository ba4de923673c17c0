-- What the users asked for: `Demands`, at the end, with what each of its lines means before it.
-- What is quoted is the demands', or 01's where it says so.
use Rattle.std.specs.Prelude.{ℕ, ◌*◌, ◌^◌, ◌<◌, ◌≡◌, ◌↔◌, ◌⊎◌, List, [], ◌∷◌, length, ltb}
use Rattle.std.proofs.Math.Option.{none, some}
use Rattle.numbers.specs.Little.{Bytes}
use Rattle.layouts.specs.Layout.{slots_of, slots_on}
use Rattle.homes.specs.Homes.{first_pages}
use Rattle.placing.specs.Image.{All, RecordSet, Room}
use Rattle.placing.specs.Rows.{counts}
use Rattle.pages.specs.Page.{Record, key, value, home_for}
use Rattle.state.specs.State.{homes, grown}
use Rattle.register.specs.OneImage.{AreaImage}
use Rattle.register.specs.Files.{Call, format, find, put, remove, grow, shrink, check, due, File, says, left, numbers_of, after}
use Rattle.demands.specs.Histories.{Fits, refusal, Kept, state_of, record_of, commit_of, kept}
use Rattle.demands.specs.ReadMoved.{ReadHeld, ReadAbsent, ReadWithin, Moved}

-- A file that a history left "from a fresh file": calls from any bytes and any state, a format
-- among them accepted, with what they keep
pub record Fresh (m : Kept) (f : File) : Type 0 where
  pub start : File
  pub calls : List Call
  pub fits : All (Fits start.layout) calls
  pub keeps : kept none start calls ≡ some m
  pub leaves : after start calls ≡ f

-- a call is refused with this number, or 0, and tells this commit
abbrev pub Tells : File → Call → (number commit : ℕ) → Type 0
Tells f c number commit = (refusal f c ≡ number) × ((numbers_of (left f c).said).value ≡ commit)

-- the row that a call is lent
abbrev pub lent : Call → List ℕ
lent (format q cap) = []
lent (find k) = []
lent (put x) = []
lent (remove k) = []
lent (grow row) = row
lent shrink = []
lent check = []
lent due = []

-- Demand 1: "A refusal changes no page and no state; the count row follows 01", where it "is
-- untouched by 1, 2, 3, 8, 4 and 9"; of any file
abbrev pub Total : File → Type 0
Total f = (c : Call) → (refusal f c ≡ 0 → ⊥) → ((left f c).file ≡ f) × ((refusal f c ≡ 7 → ⊥) → (left f c).row ≡ lent c)

module _ (m : Kept) (f : File) where
  -- The rest is of a file after a fresh history. 01: "after success or 7" the row "holds the number
  -- of records of each home at size P + 1".
  abbrev pub Row : Type 0
  Row = (row : List ℕ) → (refusal f (grow row) ≡ 0) ⊎ (refusal f (grow row) ≡ 7) → (left f (grow row)).row ≡ counts (home_for (homes (grown (state_of m)))) m.held m.cap 0

  -- Demand 2: "a search gives a request's commit exactly when the accepted puts and removals leave
  -- it there"; otherwise it is refused with 5
  abbrev pub Found : Type 0
  Found = (k : ℕ) → k < 2 ^ 64
      → ((v : ℕ) → Tells f (find k) 0 v ↔ (commit_of k m.held ≡ some v)) × ((refusal f (find k) ≡ 5) ↔ (commit_of k m.held ≡ none))

  -- and a put of what is held is told its commit. 02, request 1: "A put with the same value is a
  -- repeat and keeps 6. A put with another value is a clash and must be told apart" (13), "with the
  -- held value"; a put of what isn't held is neither
  pub record PutTold (x : Record) : Type 0 where
    pub repeat : (w : ℕ) → Tells f (put x) 6 w ↔ ((commit_of (key x) m.held ≡ some w) × (value x ≡ w))
    pub clash : (w : ℕ) → Tells f (put x) 13 w ↔ ((commit_of (key x) m.held ≡ some w) × (value x ≡ w → ⊥))
    pub neither : ((refusal f (put x) ≡ 6 → ⊥) × (refusal f (put x) ≡ 13 → ⊥)) ↔ (commit_of (key x) m.held ≡ none)

  abbrev pub Retried : Type 0
  Retried = (x : Record) → Fits m.layout (put x) → PutTold x

  -- a removal is accepted where the request is held, and otherwise refused with 5
  abbrev pub Removed : Type 0
  Removed = (k : ℕ) → k < 2 ^ 64 → ((refusal f (remove k) ≡ 0) ↔ (commit_of k m.held ≡ none → ⊥)) × ((refusal f (remove k) ≡ 5) ↔ (commit_of k m.held ≡ none))

  -- no call meets a broken page (4), a wrong count or a wrong image (9), and check says yes
  abbrev pub Sound : Type 0
  Sound = ((c : Call) → Fits m.layout c → (refusal f c ≡ 4 → ⊥) × (refusal f c ≡ 9 → ⊥)) × (refusal f check ≡ 0)

  -- Demand 3: "the pages are the one image set by parameters, lent size, pages grown to and records
  -- held", in 01's sentence (`AreaImage`) and to the byte
  pub record TheImage : Type 0 where
    pub set : RecordSet key m.held
    pub image : AreaImage m.layout (state_of m) f.area m.held

  -- "A put of a number not held .. is refused for room exactly when no arrangement on the lent
  -- pages, twelve to a page, puts every record (the new one included) at its home page .. or a
  -- higher one"; otherwise it is accepted
  abbrev pub RoomPut : Type 0
  RoomPut = (x : Record) → Fits m.layout (put x) → commit_of (key x) m.held ≡ none
      → let room = Room key (homes (state_of m)) (slots_of m.layout) m.cap (x ∷ m.held) in ((refusal f (put x) ≡ 7) ↔ (room → ⊥)) × ((refusal f (put x) ≡ 0) ↔ room)

  -- and "a growth below the lent size with a row of the right length" likewise, each record at "its
  -- home after it"
  abbrev pub RoomGrow : Type 0
  RoomGrow = (row : List ℕ) → m.p < m.cap → length row ≡ m.cap
      → let room = Room key (homes (grown (state_of m))) (slots_of m.layout) m.cap m.held in ((refusal f (grow row) ≡ 7) ↔ (room → ⊥)) × ((refusal f (grow row) ≡ 0) ↔ room)

  -- 02, request 10: "Shrinking can't run out of room": a file that has more pages than at the start
  -- gives one up, and otherwise 14
  abbrev pub Shrinks : Type 0
  Shrinks = ((refusal f shrink ≡ 0) ↔ (first_pages m.params < m.p)) × ((refusal f shrink ≡ 14) ↔ (m.p ≡ first_pages m.params))

  -- the state tells the parameters, the lent size, the pages grown to and the number of records
  -- held; 01: "Growth is due exactly when 5r > 48P", which is four times the slots of P pages
  pub record Counted : Type 0 where
    pub state : f.state ≡ state_of m
    pub layout : f.layout ≡ m.layout
    pub due : (left f due).said ≡ says (ltb (4 * slots_on m.layout m.p) (5 * length m.held))

-- 02, request 5: "An accepted growth followed at once by a shrink gives back the same bytes and
-- state."; and so does an accepted shrinking followed by a growth with a row of the right length. Each
-- second call is accepted. Of any file.
pub record TakenBack (f : File) : Type 0 where
  pub grow-shrink : (row : List ℕ) → refusal f (grow row) ≡ 0 → let g = (left f (grow row)).file in (refusal g shrink ≡ 0) × ((left g shrink).file ≡ f)
  pub shrink-grow : (row : List ℕ) → refusal f shrink ≡ 0 → length row ≡ f.state.cap → let g = (left f shrink).file in (refusal g (grow row) ≡ 0) × ((left g (grow row)).file ≡ f)

-- Two files of one page layout agree in "parameters, lent size, pages grown to and records held":
-- the record of each request, in whatever order that came about. The edition is a parameter; 02,
-- request 4: "Equal bytes at two sites now need equal editions too."
pub record Agree (a b : Kept) : Type 0 where
  pub layout : a.layout ≡ b.layout
  pub params : a.params ≡ b.params
  pub cap : a.cap ≡ b.cap
  pub p : a.p ≡ b.p
  pub held : (k : ℕ) → record_of k a.held ≡ record_of k b.held

-- of every file after a fresh history
abbrev pub AfterFresh : (Kept → File → Type 0) → Type 0
AfterFresh Says = (m : Kept) → (f : File) → Fresh m f → Says m f

-- What is promised, and proved as `demands` (proofs/Demands.antt). That every call takes whatever
-- it is given and ends, and that its contract allows one answer, is `Answers` (specs/Answers.antt).
pub record Demands : Type 0 where
  pub total : (f : File) → Total f
  pub row : AfterFresh Row
  pub found : AfterFresh Found
  pub retried : AfterFresh Retried
  pub removed : AfterFresh Removed
  pub sound : AfterFresh Sound
  pub image : AfterFresh TheImage
  pub same : (a b : Kept) → (f g : File) → Fresh a f → Fresh b g → Agree a b → f ≡ g
  pub room_put : AfterFresh RoomPut
  pub room_grow : AfterFresh RoomGrow
  pub shrinks : AfterFresh Shrinks
  pub taken_back : (f : File) → Bytes f.area → TakenBack f
  pub counted : AfterFresh Counted
  pub read_held : AfterFresh (λ m. ReadHeld)
  pub read_absent : AfterFresh (λ m. ReadAbsent)
  pub read_within : AfterFresh (λ m. ReadWithin)
  pub moved : AfterFresh (λ m. Moved)
