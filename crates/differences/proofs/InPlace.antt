-- Sorted entries made records of the list in place: a record ends where the next entry begins, or
-- below.
use mathlib.Core.Path.{◌≡◌, refl, sym, ap, ◌∙◌}
use mathlib.Core.Bool.{Bool, true, false, cond}
use mathlib.Core.Option.{Option}
use mathlib.Core.List.{List, [], ◌∷◌, ◌++◌, append_assoc, append-nil}
use Prim.Native.Nat.{ℕ, ◌+◌, ◌-◌, ◌*◌, ◌/◌, ◌≤◌, ◌<◌}
use native.Mathlib.Nat.{add_assoc}
use native.Mathlib.Omega.{arith}
use borrow.Author.Tests.{eq-eqb, ne_eqb}
use lib.Dec.{eqb}
use lib.ListN.{length, take, drop}
use lib.Seq.{take_all, drop-drop}
use Rattle.numbers.specs.Little.{bytes_of, written}
use Rattle.numbers.specs.Fields.{width, encode}
use Rattle.numbers.proofs.Laws.{written-length, written_front, written_after, written-written}
use Rattle.numbers.proofs.Records.{length-encode, encode-append, puts-written}
use Rattle.layouts.specs.Layout.{in_use}
use Rattle.placing.specs.Lay.{one}
use Rattle.pages.specs.Page.{Record, key, value, payload}
use Rattle.entries.specs.declared.Entry.{Entry}
use Rattle.entries.specs.Steps.Entries.{size, fields, entry_bytes, entry_at, entries_in}
use Rattle.entries.proofs.Entries.{length_entry}
use Rattle.entries.proofs.Reading.{Whole, left_first, left_none}
use Rattle.differences.specs.Listing.{closing}
use Rattle.differences.specs.Steps.Unpacked.{more, or_vacant, entry_fields, unpacked, wide}

-- five numbers that were written are the closing record
pub closing_put : (l l₁ l₂ l₃ l₄ l₅ : List ℕ) (at a b c : ℕ) → at + 16 ≤ length l
    → l₁ ≡ written l at (bytes_of 2 16)
    → l₂ ≡ written l₁ (at + 2) (bytes_of 2 772)
    → l₃ ≡ written l₂ (at + 4) (bytes_of 4 a)
    → l₄ ≡ written l₃ (at + 8) (bytes_of 4 b)
    → l₅ ≡ written l₄ (at + 12) (bytes_of 4 c)
    → l₅ ≡ written l at (encode (closing a b c))
closing_put l l₁ l₂ l₃ l₄ l₅ at a b c h p q r s t = rw (t, s, r, q, p) (simp add_assoc at (puts-written (closing a b c) l at h))

-- a number that was written is what a record says of its key
pub payload_put : (l l₁ : List ℕ) (at : ℕ) (x : Record) → l₁ ≡ written l at (bytes_of 8 (value x)) → l₁ ≡ written l at (encode (payload in_use x))
unfolding encode
payload_put l l₁ at x e = e ∙ ap (written l at) (sym (append-nil (bytes_of 8 (value x))))

-- an entry, and behind it what another record says of the key
entry_more : (e : Entry) (row : List ℕ) (at : ℕ) (y : Record) → at + size ≤ length row
    → written (written row at (entry_bytes e)) (at + size) (encode (payload in_use y)) ≡ written row at (encode (fields e ++ payload in_use y))
unfolding entry_bytes
entry_more e row at y h =
    let n : at + size ≡ at + length (encode (fields e)) = omega (arith, length-encode (fields e)) in
    let two = written-written row at (encode (fields e)) (encode (payload in_use y)) (omega arith) in
    ap (λ (j : ℕ). written (written row at (encode (fields e))) j (encode (payload in_use y))) n ∙ two ∙ ap (written row at) (sym (encode-append (fields e) (payload in_use y)))

module _ (look : ℕ → Option Record) where
  -- a record of the list is as long as a slot, and a 771 longer by what the second says
  pub record_width : (e : Entry) → width (entry_fields look e) ≡ size + more * one (eqb e.from 771)
  record_width e = go (eqb e.from 771)
    where
      go : (t : Bool) → width (cond t ((2, size + more) ∷ (2, e.from) ∷ (8, key e.held) ∷ (payload in_use e.held ++ payload in_use (or_vacant (look (key e.held))))) (fields e))
          ≡ size + more * one t
      go true = refl
      go false = refl

  -- the ways out of `put_record`
  module _ (e : Entry) (row : List ℕ) (at : ℕ) (h : at + width (entry_fields look e) ≤ length row) where
    pub record_fits : at + size ≤ length row
    record_fits = omega (arith, h, record_width e)

    pub short_put : (row₁ : List ℕ) → (e.from ≡ 771 → ⊥) → row₁ ≡ written row at (entry_bytes e)
        → (at + size ≡ at + width (entry_fields look e)) × (row₁ ≡ written row at (encode (entry_fields look e)))
    unfolding entry_bytes
    short_put row₁ n g = rw (ne_eqb e.from 771 n) (refl, g)

    module _ (is : e.from ≡ 771) where
      abbrev long : Entry
      long = record { home = size + more; from = 771; held = e.held }

      pub long_fits : at + size + more ≤ length row
      long_fits =
          let t : one (eqb e.from 771) ≡ 1 = rw (eq-eqb e.from 771 is) in
          omega (arith, h, record_width e, t)

      pub long_after : (row₁ : List ℕ) → row₁ ≡ written row at (entry_bytes long) → at + size + more ≤ length row₁
      long_after row₁ g = omega (arith, long_fits, ap length g, length_entry long, written-length row at (entry_bytes long) (omega (arith, record_fits, length_entry long)))

      pub long_put : (row₁ row₂ : List ℕ) (y : Record) → y ≡ or_vacant (look (key e.held)) → row₁ ≡ written row at (entry_bytes long) → row₂ ≡ written row₁ (at + size) (encode (payload in_use y))
          → (at + size + more ≡ at + width (entry_fields look e)) × (row₂ ≡ written row at (encode (entry_fields look e)))
      long_put row₁ row₂ y f g k = rw is (omega arith, k ∙ rw (g, f) (entry_more long row at (or_vacant (look (key e.held))) record_fits))

-- what stands from beyond the end of a write on is what stood there
written_beyond : (l : List ℕ) (at : ℕ) (v : List ℕ) (k : ℕ) → at ≤ length l → at + length v ≤ k → drop k (written l at v) ≡ drop k l
written_beyond l at v k h le =
    let j : ℕ = k - (at + length v) in
    let e : at + length v + j ≡ k = omega arith in
    rw (← e, ← drop-drop j (at + length v) (written l at v), written_after l at v h, drop-drop)

-- what holds between entries: the records so far and those of the entries that are left are the whole,
-- and as many bytes lie between as the others still grow
pub record Unpacking (look : ℕ → Option Record) (first : List ℕ) (base : ℕ) (row : List ℕ) (to from : ℕ) : Type 0 where
  pub bytes : take to row ++ unpacked look (entries_in (drop from row)) ≡ unpacked look (entries_in (drop base first))
  pub gap : to + more * wide (entries_in (drop from row)) ≡ from
  pub many : length row ≡ length first
  pub whole : Whole from row
  pub within : from ≤ length row

pub unpacking_start : (look : ℕ → Option Record) (row : List ℕ) (base : ℕ) → base ≤ length row → length row ≡ base + size * ((length row - base) / size) → base ≡ more * wide (entries_in (drop base row))
    → Unpacking look row base row 0 base
unpacking_start look row base h w g = record { bytes = refl; gap = omega arith; many = refl; whole = w; within = h }

module _ {look : ℕ → Option Record} {first : List ℕ} {base : ℕ} {row : List ℕ} {to from : ℕ} (w : Unpacking look first base row to from) where
  module _ (left : from < length row) where
    pub one_more : from + size ≤ length row
    one_more = omega (arith, w.whole)

    module _ (e : Entry) (is : e ≡ entry_at row from) where
      rest : entries_in (drop from row) ≡ e ∷ entries_in (drop (from + size) row)
      rest = left_first row from one_more ∙ rw is

      -- the record ends where the next entry begins, or below
      below : to + width (entry_fields look e) ≤ from + size
      below =
          let g : to + more * wide (e ∷ entries_in (drop (from + size) row)) ≡ from = rw rest at w.gap in
          omega (arith, record_width look e, g)

      pub next_fits : to + width (entry_fields look e) ≤ length row
      next_fits = omega (arith, below, one_more)

      pub unpacking_turn : (row₁ : List ℕ) (to₁ : ℕ) → to₁ ≡ to + width (entry_fields look e) → row₁ ≡ written row to (encode (entry_fields look e))
          → Unpacking look first base row₁ to₁ (from + size)
      unpacking_turn row₁ to₁ f g =
          let v : List ℕ = encode (entry_fields look e) in
          let n : length v ≡ width (entry_fields look e) = length-encode (entry_fields look e) in
          let low : to ≤ length row = omega (arith, next_fits) in
          let front : take to₁ row₁ ≡ take to row ++ v = rw (f, g, ← n) (written_front row to v low) in
          let back : drop (from + size) row₁ ≡ drop (from + size) row = rw g (written_beyond row to v (from + size) low (omega (arith, n, below))) in
          let same : length row₁ ≡ length row = ap length g ∙ written-length row to v (omega (arith, n, next_fits)) in
          let h : take to row ++ (v ++ unpacked look (entries_in (drop (from + size) row))) ≡ unpacked look (entries_in (drop base first)) = rw rest at w.bytes in
          let k : to + more * wide (e ∷ entries_in (drop (from + size) row)) ≡ from = rw rest at w.gap in
          record {
            bytes = rw (front, back, append_assoc) h;
            gap = rw back (omega (arith, k, f, record_width look e));
            many = same ∙ w.many;
            whole = omega (arith, same, w.whole, one_more);
            within = omega (arith, same, one_more);
          }

  -- after the last entry
  pub unpacking_end : length row ≤ from → row ≡ unpacked look (entries_in (drop base first))
  unpacking_end end =
      let none = left_none row from end in
      let g : to + more * wide [] ≡ from = rw none at w.gap in
      let b : take to row ++ [] ≡ unpacked look (entries_in (drop base first)) = rw none at w.bytes in
      sym (take_all to row (omega (arith, g, w.within))) ∙ sym (append-nil (take to row)) ∙ b
