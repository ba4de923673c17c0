-- A page: its records, its bytes and its rules (01, 'Bytes of a page'; 02, request 8, for the second
-- layout), over any layout. What is quoted is 01's, or 02's where that is said.
use Rattle.std.specs.Prelude.{ℕ, zero, suc, ◌+◌, ◌-◌, min, Bool, true, cond, ◌&&◌, List, [], ◌∷◌, ◌++◌, map, length, replicate, leb, ltb}
use Rattle.std.specs.Prelude.{Option as Optional, Some, None}
use Rattle.std.proofs.Math.Option.{Option, none, some}
use Rattle.numbers.specs.Little.{number_at}
use Rattle.numbers.specs.Fields.{Field, encode, matches}
use Rattle.layouts.specs.Layout.{Layout, kind_of, slots_of, width_of, slot_at}
use Rattle.placing.specs.Lay.{ranked}
use Rattle.pages.specs.declared.Record as declared
use Rattle.pages.specs.declared.Page.{Page}
use Rattle.pages.specs.declared.Judged.{Judged}

-- "A record is a key .. and a value", 02: "A record gains a four-byte run number after its value":
-- one value, as the code declares it
abbrev pub Record : Type 0
Record = declared.Record

abbrev pub key : Record → ℕ
key x = x.key

abbrev pub value : Record → ℕ
value x = x.value

abbrev pub run : Record → ℕ
run x = x.run

abbrev pub record_with : (k v r : ℕ) → Record
record_with k v r = record { key = k; value = v; run = r }

-- "key and value zero", and no run
abbrev pub vacant : Record
vacant = record_with 0 0 0

-- the home of a record is that of its key
abbrev pub home_for : (ℕ → ℕ) → Record → ℕ
home_for h x = h (key x)

-- (home, key) of a record as one number
abbrev pub rank : (ℕ → ℕ) → Record → ℕ
rank h x = ranked (home_for h x) (key x)

-- the run as a slot has it: in one layout it has none
abbrev pub run_field : Layout → ℕ → List Field
run_field zero r = []
run_field (suc f) r = (4, r) ∷ []

-- what stands at the place of the run
abbrev pub run_at : Layout → List ℕ → ℕ → ℕ
run_at zero l at = 0
run_at (suc f) l at = number_at 4 l at

module _ (f : Layout) where
  -- "Head, 16 bytes: length 256 (2), kind 0x0011 (2), page address (4), records used (2), six zero
  -- bytes."
  abbrev pub head : (address used : ℕ) → List Field
  head address used = (2, 256) ∷ (2, kind_of f) ∷ (4, address) ∷ (2, used) ∷ (2, 0) ∷ (4, 0) ∷ []

  -- what a record says of its key: "value (8)"; 02: "a four-byte run number after its value"
  abbrev pub payload : Record → List Field
  payload x = (8, value x) ∷ run_field f (run x)

  -- A slot: "length 20 (2), kind (2), key (8), value (8)"
  abbrev pub slot : (kind : ℕ) → Record → List Field
  slot kind x = (2, width_of f) ∷ (2, kind) ∷ (8, key x) ∷ payload x

  -- "Kind 1 is a record."
  abbrev pub record_slot : Record → List Field
  record_slot x = slot 1 x

  -- "Kind 0 is empty, with key and value zero."
  abbrev pub empty_slot : List Field
  empty_slot = slot 0 vacant

  -- the slot of a record, or an empty one
  abbrev pub slot_of : Optional Record → List Field
  slot_of None = empty_slot
  slot_of (Some x) = record_slot x

  -- n slots: "Records stand first, empty slots after."
  abbrev pub slots : ℕ → List Record → List Field
  slots zero rs = []
  slots (suc n) [] = empty_slot ++ slots n []
  slots (suc n) (x ∷ rs) = record_slot x ++ slots n rs

  -- the head, "Then 12 slots of 20 bytes"
  abbrev pub fields : ℕ → List Record → List Field
  fields address rs = head address (length rs) ++ slots (slots_of f) rs

  -- the 256 bytes of a page
  unfoldable pub page_bytes : (address : ℕ) → List Record → List ℕ
  page_bytes address rs = encode (fields address rs)

  -- what stands at the places of key, value and run in a slot that starts at an offset
  abbrev pub record_in : List ℕ → ℕ → Record
  record_in l at = record_with (number_at 8 l (at + 4)) (number_at 8 l (at + 12)) (run_at f l (at + 20))

  -- the records of n slots from slot i on
  abbrev pub records_from : (n i : ℕ) → List ℕ → List Record
  records_from zero i l = []
  records_from (suc n) i l = record_in l (slot_at f i) ∷ records_from n (suc i) l

  -- how many records a page says that it holds, of its slots at most
  abbrev pub count_in : List ℕ → ℕ
  count_in l = min (slots_of f) (number_at 2 l 8)

  -- what any bytes hold at the places of a page's records
  unfoldable pub records_in : List ℕ → List Record
  records_in l = records_from (count_in l) 0 l

  -- "the head is exact; slots are well formed; the count is right": the bytes are those of the
  -- records that they hold
  unfoldable pub well_formed : (address : ℕ) → List ℕ → Bool
  well_formed address l = matches l 0 (fields address (records_in l))

module _ (h : ℕ → ℕ) where
  -- "every home is at most this page's address"
  abbrev pub homes_to : (address : ℕ) → List Record → Bool
  homes_to address [] = true
  homes_to address (x ∷ rs) = leb (h (key x)) address && homes_to address rs

  -- "(home, key) rises strictly from slot to slot"
  abbrev pub rises : List Record → Bool
  rises [] = true
  rises (x ∷ []) = true
  rises (x ∷ (y ∷ rs)) = ltb (rank h x) (rank h y) && rises (y ∷ rs)

-- the records of a page that passes the page rules. "A page that breaks one is broken": none.
unfoldable pub read_page : Layout → (ℕ → ℕ) → (address : ℕ) → List ℕ → Option (List Record)
read_page f h address l =
    let rs = records_in f l in
    cond (well_formed f address l && (homes_to h address rs && rises h rs)) (some rs) none

-- twelve numbers: those given, then zeros
abbrev pub padded : List ℕ → List ℕ
padded xs = xs ++ replicate (12 - length xs) 0

-- "In memory a page is one value: a count with twelve keys and twelve values." and as many runs; a
-- layout with fewer slots leaves places free
unfoldable pub in_memory : List Record → Page
in_memory rs = record { count = length rs; keys = padded (map key rs); values = padded (map value rs); runs = padded (map run rs) }

-- of a good page its keys and their homes
unfoldable pub judged_page : (ℕ → ℕ) → List Record → Judged
judged_page h rs = record { count = length rs; keys = padded (map key rs); homes = padded (map (home_for h) rs) }

-- a page as it was judged: of a broken one nothing
abbrev pub judged : (ℕ → ℕ) → Option (List Record) → Optional Judged
judged h none = None
judged h (some rs) = Some (judged_page h rs)
