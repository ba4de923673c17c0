-- Entries at the top end of an area sorted where they stand.
use mathlib.Core.Path.{◌≡◌, ap, ◌∙◌}
use mathlib.Core.List.{List, [], ◌++◌, append-nil}
use Prim.Native.Nat.{ℕ, zero, suc, ◌+◌, ◌-◌, ◌*◌, ◌/◌, ◌≤◌}
use native.Mathlib.Omega.{arith}
use borrow.Rule.Slice.PartMut.{put_mid}
use lib.ListN.{length, take, drop, length-append, length-drop, drop_of_length-le}
use lib.Seq.{take_all, drop_at, length-take-le}
use Rattle.numbers.specs.Little.{Bytes}
use Rattle.numbers.proofs.Laws.{bytes_drop}
use Rattle.placing.specs.Image.{All, Distinct}
use Rattle.placing.specs.Lay.{sort, taken, Sorted}
use Rattle.placing.proofs.Perms.{perm-length, perm-up_to, sort-perm, sort_sorted}
use Rattle.placing.proofs.Taken.{taken_cong}
use Rattle.entries.specs.declared.Entry.{Entry}
use Rattle.entries.specs.Steps.Entries.{size, entries_from, entries_in, row_bytes, rank, home}
use Rattle.entries.proofs.Entries.{SizedEntry, entry_fits}
use Rattle.entries.proofs.Rows.{length_in, row_length, entries_row}
use Rattle.rebuild.specs.Steps.Rebuild.{slots}
use Rattle.rebuild.proofs.Commuting.{all_sort}

-- entries that are read fit
entries_fit : (l : List ℕ) → Bytes l → (n at : ℕ) → at + size * n ≤ length l → All SizedEntry (entries_from n at l)
entries_fit l b zero at h = tt
entries_fit l b (suc n) at h = (entry_fits l at b (omega arith), entries_fit l b n (at + size) (omega arith))

module _ (l : List ℕ) (cap base : ℕ) (b : Bytes l) (long : length l ≡ 256 * cap) (low : base ≤ 256 * cap) (whole : 256 * cap ≡ base + size * ((256 * cap - base) / size))
    (once : Distinct rank (entries_in (drop base l))) where
  abbrev es : List Entry
  es = entries_in (drop base l)

  -- the part that is lent to be sorted
  part : take (length l - base) (drop base l) ≡ drop base l
  part = take_all (length l - base) (drop base l) (omega (arith, length-drop base l))

  pub part_whole : length (take (length l - base) (drop base l)) ≡ size * (length (take (length l - base) (drop base l)) / size)
  part_whole = rw part (omega (arith, length-drop base l))

  pub part_once : Distinct rank (entries_in (take (length l - base) (drop base l)))
  part_once = rw part once

  fit : All SizedEntry es
  unfolding entries_in
  fit = entries_fit (drop base l) (bytes_drop base l b) (length (drop base l) / size) 0 (omega (arith, length-drop base l))

  front : length (take base l) ≡ base
  front = length-take-le base l (omega arith)

  module _ (k : List ℕ) (e : k ≡ row_bytes (sort rank (entries_in (take (length l - base) (drop base l))))) where
    -- the area with that part back
    back : put_mid base (length l - base) l k ≡ take base l ++ row_bytes (sort rank es)
    back =
        let d : drop (length l - base) (drop base l) ≡ [] = drop_of_length-le (drop base l) {i = length l - base} (omega (arith, length-drop base l)) in
        let s : k ≡ row_bytes (sort rank es) = e ∙ ap (λ (x : List ℕ). row_bytes (sort rank (entries_in x))) part in
        rw (d, s, append-nil)

    -- holds the entries in order
    pub back_entries : entries_in (drop base (put_mid base (length l - base) l k)) ≡ sort rank es
    back_entries = rw (back, drop_at (take base l) (row_bytes (sort rank es)) base front) (entries_row (sort rank es) (all_sort SizedEntry rank es fit))

    pub back_length : length (put_mid base (length l - base) l k) ≡ 256 * cap
    back_length =
        rw back (omega (arith, length-append (take base l) (row_bytes (sort rank es)), front, row_length (sort rank es), perm-length (sort-perm rank es), length_in (drop base l), length-drop base l))

    pub back_sorted : Sorted rank (entries_in (drop base (put_mid base (length l - base) l k)))
    back_sorted = rw back_entries (sort_sorted rank es once)

    -- which have room as they had it
    pub back_room : taken home slots es cap ≡ length es
        → taken home slots (entries_in (drop base (put_mid base (length l - base) l k))) cap ≡ length (entries_in (drop base (put_mid base (length l - base) l k)))
    back_room r = rw back_entries (omega (arith, r, perm-length (sort-perm rank es), taken_cong home slots (sort rank es) es (λ j. perm-up_to home j (sort-perm rank es)) cap))
