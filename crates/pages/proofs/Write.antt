-- The bytes of a page as they are written, slot by slot.
use mathlib.Core.Path.{◌≡◌, refl, sym, ap, ◌∙◌}
use Rattle.std.specs.Prelude.{Option as Optional, Some, None}
use mathlib.Core.Bool.{true, false}
use mathlib.Core.List.{List, [], ◌∷◌, ◌++◌, map, append-nil}
use Prim.Native.Nat.{ℕ, zero, suc, ◌+◌, ◌*◌, ◌-◌, ◌≤◌, ◌<◌}
use native.Mathlib.Nat.{add-zero, zero-add, sub-zero}
use native.Mathlib.Numerals.{add-one}
use native.Mathlib.Omega.{arith}
use lib.ListN.{length, drop, get_or, replicate}
use lib.Seq.{drop-drop}
use borrow.Rule.Slice.PartMut.{put_mid}
use Rattle.numbers.specs.Little.{Bytes, bytes_of, written}
use Rattle.numbers.specs.Fields.{Field, width, encode}
use Rattle.numbers.proofs.Laws.{written-nil, written_all, written-written}
use Rattle.numbers.proofs.Records.{length-encode, width-append, encode-append, bytes_encode}
use Rattle.layouts.specs.Layout.{Layout, slots_of, width_of, slot_at, has_run}
use Rattle.layouts.proofs.Lying.{slot_first, slot_next, slot_end, slot_fits}
use Rattle.pages.specs.Page.{Record, key, value, run, record_with, vacant, run_field, head, slot, slot_of, empty_slot, slots, fields, page_bytes}
use Rattle.pages.proofs.Held.{Held}
use Rattle.pages.proofs.Read.{slot-width}

-- fields written behind others are written with them
pub fields_on : (fs gs : List Field) (l : List ℕ) (at to : ℕ) → at + width fs ≡ to → to ≤ length l
    → written (written l at (encode fs)) to (encode gs) ≡ written l at (encode (fs ++ gs))
fields_on fs gs l at to e h =
    let n : at + length (encode fs) ≡ to = omega (arith, length-encode fs) in
    rw (encode-append, ← n) (written-written l at (encode fs) (encode gs) (omega arith))

-- a run is written where slots have one
pub run_written : (f : Layout) (l : List ℕ) (at r : ℕ) → has_run f ≡ true → written l at (bytes_of 4 r) ≡ written l at (encode (run_field f r))
unfolding encode
run_written zero l at r h = absurd (cc h)
run_written (suc f) l at r h = rw append-nil

pub no_run_written : (f : Layout) (l : List ℕ) (at r : ℕ) → has_run f ≡ false → l ≡ written l at (encode (run_field f r))
unfolding encode
no_run_written zero l at r h = sym (written-nil l at)
no_run_written (suc f) l at r h = absurd (cc h)

-- zeros stand in each place
pub zeros : (m i : ℕ) → ◌≡◌ {A = ℕ} (get_or (replicate m 0) i 0) 0
zeros zero i = refl
zeros (suc m) zero = refl
zeros (suc m) (suc i) = zeros m i

module _ (f : Layout) where
  slot_on : (n i kind : ℕ) (x : Record) (fs : List Field) → slot_at f (suc i) + width fs ≡ slot_at f (suc i + n) → slot_at f i + width (slot f kind x ++ fs) ≡ slot_at f (i + suc n)
  slot_on n i kind x fs e =
      let t : i + suc n ≡ suc i + n = omega arith in
      rw t (omega (arith, width-append (slot f kind x) fs, slot-width f kind x, slot_next f i))

  -- n slots from slot i on end where slot i + n starts
  pub slots-width : (n i : ℕ) (rs : List Record) → slot_at f i + width (slots f n rs) ≡ slot_at f (i + n)
  slots-width zero i rs = rw (add-zero i, add-zero (slot_at f i))
  slots-width (suc n) i [] = slot_on n i 0 vacant (slots f n []) (slots-width n (suc i) [])
  slots-width (suc n) i (x ∷ rs) = slot_on n i 1 x (slots f n rs) (slots-width n (suc i) rs)

  -- a page has 256 bytes
  pub fields-width : (address : ℕ) (rs : List Record) → width (fields f address rs) ≡ 256
  fields-width address rs = omega (arith, rw zero-add at (slots-width (slots_of f) 0 rs), slot_first f, slot_end f)

  pub page_length : (address : ℕ) (rs : List Record) → length (page_bytes f address rs) ≡ 256
  unfolding page_bytes
  page_length address rs = length-encode (fields f address rs) ∙ fields-width address rs

  -- and they are bytes
  pub page_bytes_lem : (address : ℕ) (rs : List Record) → Bytes (page_bytes f address rs)
  unfolding page_bytes
  page_bytes_lem address rs = bytes_encode (fields f address rs)

  -- a record's slot, and then the others
  slot_used : (rs : List Record) (ks vs us : List ℕ) (i n : ℕ) → i < length rs
      → slots f (suc n) (drop i rs) ≡ slot f 1 (record_with (get_or (map key rs ++ ks) i 0) (get_or (map value rs ++ vs) i 0) (get_or (map run rs ++ us) i 0)) ++ slots f n (drop (suc i) rs)
  slot_used [] ks vs us i n h = absurd (omega arith)
  slot_used (x ∷ rs) ks vs us zero n h = refl
  slot_used (x ∷ rs) ks vs us (suc i) n h = slot_used rs ks vs us i n (omega arith)

  -- past the records an empty slot, and then the others
  slot_empty : (rs : List Record) (i n : ℕ) → length rs ≤ i → slots f (suc n) (drop i rs) ≡ empty_slot f ++ slots f n (drop (suc i) rs)
  slot_empty [] zero n h = refl
  slot_empty [] (suc i) n h = refl
  slot_empty (x ∷ rs) zero n h = absurd (omega arith)
  slot_empty (x ∷ rs) (suc i) n h = slot_empty rs i n (omega arith)

  -- what is left to write at place i is this slot, and then what is left at the next place
  abbrev pub Next : ℕ → Optional Record → List Record → Type 0
  Next i x rs = slots f (slots_of f - i) (drop i rs) ≡ slot_of f x ++ slots f (slots_of f - (i + 1)) (drop (i + 1) rs)

  module _ (i n : ℕ) (ks vs us : List ℕ) (rs : List Record) (h : Held n ks vs us rs) (t : i < slots_of f) (x : Optional Record) where
    more : slots_of f - i ≡ suc (slots_of f - (i + 1))
    more = omega arith

    -- so it is with a record of the rows below the count
    pub next_used : i < n → x ≡ Some (record_with (get_or ks i 0) (get_or vs i 0) (get_or us i 0)) → Next i x rs
    next_used lt k = rw (more, k, h.1, h.2, h.3, add-one) (slot_used rs _ _ _ i (slots_of f - suc i) (omega arith))

    -- and with an empty slot from the count on
    pub next_empty : n ≤ i → x ≡ None → Next i x rs
    next_empty ge k = rw (more, k, add-one) (slot_empty rs i (slots_of f - suc i) (omega arith))

  -- a slot of either kind has the width of the layout
  slot_of-width : (x : Optional Record) → width (slot_of f x) ≡ width_of f
  slot_of-width None = slot-width f 0 vacant
  slot_of-width (Some x) = slot-width f 1 x

  -- a turn of the code writes a slot of what is left to write
  pub slot_turn : (l m : List ℕ) (i : ℕ) (x : Optional Record) (rs : List Record) → i < slots_of f → length l ≡ 256
      → m ≡ written l (slot_at f i) (encode (slot_of f x))
      → Next i x rs
      → written m (slot_at f (i + 1)) (encode (slots f (slots_of f - (i + 1)) (drop (i + 1) rs))) ≡ written l (slot_at f i) (encode (slots f (slots_of f - i) (drop i rs)))
  slot_turn l m i x rs t n e next =
      let on : slot_at f i + width (slot_of f x) ≡ slot_at f (i + 1) = rw (slot_of-width x, add-one) (slot_next f i) in
      rw (e, next)
      (fields_on (slot_of f x) (slots f (slots_of f - (i + 1)) (drop (i + 1) rs)) l (slot_at f i) (slot_at f (i + 1)) on (omega (arith, slot_fits f i t, slot_of-width x)))

  -- with the head written, all slots are left to write
  pub head_first : (l m : List ℕ) (address n : ℕ) (ks vs us : List ℕ) (rs : List Record) → length l ≡ 256
      → m ≡ written l 0 (encode (head f address n))
      → Held n ks vs us rs
      → written m (slot_at f 0) (encode (slots f (slots_of f - 0) rs)) ≡ page_bytes f address rs
  unfolding page_bytes
  head_first l m address n ks vs us rs k e h =
      rw (e, h.0, slot_first f, sub-zero)
      (fields_on (head f address (length rs)) (slots f (slots_of f) rs) l 0 16 refl (omega arith)
      ∙ written_all l (page_bytes f address rs) (page_length address rs ∙ sym k))

  -- after the last slot nothing is left to write
  pub slots_done : (l : List ℕ) (i : ℕ) (rs : List Record) → slots_of f ≤ i → written l (slot_at f i) (encode (slots f (slots_of f - i) (drop i rs))) ≡ l
  unfolding encode
  slots_done l i rs e =
      let z : slots_of f - i ≡ 0 = omega arith in
      rw z (written-nil l (slot_at f i))

-- a page's bytes in its part of an area
pub part_written : (f : Layout) (area : List ℕ) (a : ℕ) (rs : List Record) (v : List ℕ) → v ≡ page_bytes f a rs
    → put_mid (256 * a) (256 * a + 256 - 256 * a) area v ≡ written area (256 * a) (page_bytes f a rs)
unfolding written
part_written f area a rs v e =
    let n : length v ≡ 256 = ap length e ∙ page_length f a rs in
    let k : 256 * a + 256 - 256 * a ≡ length v = omega arith in
    rw (k, drop-drop, e)
