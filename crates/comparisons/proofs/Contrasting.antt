-- Two files that pass: the counts tell how long the list is, and the entries of both, in order and
-- unpacked, are its records.
use mathlib.Core.Path.{◌≡◌, refl, sym, ap, ◌∙◌}
use mathlib.Core.Option.{Option}
use mathlib.Core.List.Permᴰ
use mathlib.Core.List.{List, [], ◌∷◌, ◌++◌, map, map-append, append_assoc}
use Prim.Native.Nat.{ℕ, ◌+◌, ◌*◌, ◌≤◌, ◌<◌}
use native.Mathlib.Omega.{arith}
use borrow.Author.Tests.{le-leb, lt-leb}
use lib.ListN.{length, take, drop, length-append, length-map}
use lib.Seq.{length-take-le, take_at, drop_at, drop-drop}
use Rattle.std.specs.Prelude.{Ok, Err}
use Rattle.numbers.specs.Little.{written}
use Rattle.numbers.specs.Fields.{encode}
use Rattle.numbers.proofs.Records.{length-encode}
use Rattle.layouts.specs.Layout.{in_use}
use Rattle.placing.specs.Image.{All}
use Rattle.placing.specs.Lay.{count, sort}
use Rattle.placing.proofs.Perms.{perm_all, perm-length, perm-count, sort-perm}
use Rattle.pages.specs.Page.{Record, key}
use Rattle.entries.specs.declared.Entry.{Entry}
use Rattle.entries.specs.Steps.Entries.{size, rank}
use Rattle.state.specs.declared.State.{State}
use Rattle.sites.specs.declared.Site.{Site}
use Rattle.sites.specs.Held.{same, held_in}
use Rattle.sites.specs.Steps.Sites.{Walkable, look, site_of}
use Rattle.sites.proofs.Known.{Known}
use Rattle.two_sets.specs.Differences.{only_first, only_second, unlike, is_only_first, is_only_second, is_unlike, key_of, firsts, seconds, differences}
use Rattle.two_sets.proofs.Differences.{each_once}
use Rattle.two_sets.proofs.Counting.{kinds}
use Rattle.differences.specs.Listing.{fields, closing, record_bytes, listing}
use Rattle.differences.specs.Steps.Passes.{D, entry_of}
use Rattle.differences.specs.Steps.Unpacked.{more, unpacked}
use Rattle.differences.proofs.Meaning.{tells, pass_firsts, pass_seconds, Told, both_told, all_sized, sort_entries, once_entries, records_entries, wide_entries}
use Rattle.comparisons.specs.declared.CompareRefusal.TheVariants.{Short}
use Rattle.comparisons.specs.declared.Counts.{Counts}
use Rattle.comparisons.specs.Compare.{listed, filled}
use Rattle.comparisons.specs.Steps.Past.{entries_of_both, Sortable, counts_of}

-- a record of the list is as long as a slot, and one of two values longer by the second
length_records : (ds : List D) → length (record_bytes in_use ds) ≡ size * length ds + more * count is_unlike ds
length_records [] = refl
length_records (only_first x ∷ ds) = omega (arith, length-append (encode (fields in_use (only_first x))) (record_bytes in_use ds), length-encode (fields in_use (only_first x)), length_records ds)
length_records (only_second y ∷ ds) = omega (arith, length-append (encode (fields in_use (only_second y))) (record_bytes in_use ds), length-encode (fields in_use (only_second y)), length_records ds)
length_records (unlike x y ∷ ds) = omega (arith, length-append (encode (fields in_use (unlike x y))) (record_bytes in_use ds), length-encode (fields in_use (unlike x y)), length_records ds)

-- how long the records of a list with these counts are
abbrev pub top_of : Counts → ℕ
top_of n = more * n.both + size * (n.first + n.second + n.both)

module _ (ds : List D) (n : Counts) (c : n ≡ counts_of ds) where
  c₁ : n.first ≡ count is_only_first ds
  c₁ = ap (λ (m : Counts). m.first) c

  c₂ : n.second ≡ count is_only_second ds
  c₂ = ap (λ (m : Counts). m.second) c

  c₃ : n.both ≡ count is_unlike ds
  c₃ = ap (λ (m : Counts). m.both) c

  records_top : length (record_bytes in_use ds) ≡ top_of n
  records_top = omega (arith, length_records ds, kinds key same ds, c₁, c₂, c₃)

  last : encode (closing n.first n.second n.both) ≡ encode (closing (count is_only_first ds) (count is_only_second ds) (count is_unlike ds))
  last = rw (c₁, c₂, c₃)

  pub list_length : length (listing in_use ds) ≡ top_of n + 16
  unfolding listing
  list_length =
      let v = closing (count is_only_first ds) (count is_only_second ds) (count is_unlike ds) in
      omega (arith, length-append (record_bytes in_use ds) (encode v), length-encode v, records_top)

  module _ (read : ℕ) (room : List ℕ) where
    -- too short a room
    pub room_short : length room < top_of n + 16 → (Err (Short (top_of n + 16) read) ≡ (filled read (listing in_use ds) room).answer) × (room ≡ (filled read (listing in_use ds) room).room)
    room_short h = rw (lt-leb (length (listing in_use ds)) (length room) (omega (arith, list_length)), list_length) (refl, refl)

    -- the records in the first part of the room, and the closing record behind them
    module _ (part : List ℕ) (p : part ≡ record_bytes in_use ds) (room₁ : List ℕ) (q : room₁ ≡ part ++ drop (top_of n) room) where
      whole : written room₁ (top_of n) (encode (closing n.first n.second n.both)) ≡ listing in_use ds ++ drop (top_of n + 16) room
      unfolding written listing
      whole =
          let l : length part ≡ top_of n = ap length p ∙ records_top in
          let w : length (encode (closing n.first n.second n.both)) ≡ 16 = length-encode (closing n.first n.second n.both) in
          let a : take (top_of n) room₁ ≡ record_bytes in_use ds = rw q (take_at part (drop (top_of n) room) (top_of n) l ∙ p) in
          let b : drop (top_of n) room₁ ≡ drop (top_of n) room = rw q (drop_at part (drop (top_of n) room) (top_of n) l) in
          let d : drop (top_of n + 16) room₁ ≡ drop (top_of n + 16) room = sym (drop-drop 16 (top_of n) room₁) ∙ ap (drop 16) b ∙ drop-drop 16 (top_of n) room in
          rw (w, a, d, last, append_assoc)

      pub room-filled : top_of n + 16 ≤ length room → (room₂ : List ℕ) → room₂ ≡ written room₁ (top_of n) (encode (closing n.first n.second n.both))
          → (Ok (listed (top_of n + 16) read) ≡ (filled read (listing in_use ds) room).answer) × (room₂ ≡ (filled read (listing in_use ds) room).room)
      room-filled h room₂ r = rw (le-leb (length (listing in_use ds)) (length room) (omega (arith, list_length)), list_length) (refl, r ∙ whole)

module _ (s : State) (area : List ℕ) (t : State) (other : List ℕ) (k : Known s area) (m : Known t other) where
  abbrev xs : List Record
  xs = held_in in_use s area

  abbrev ys : List Record
  ys = held_in in_use t other

  abbrev raw : List D
  raw = firsts key same xs ys ++ seconds key same xs ys

  abbrev in_second : ℕ → Option Record
  in_second = look (site_of t) other

  told : All (Told in_second) raw
  told = both_told in_second xs ys k.small m.small (tells in_second ys xs m.looks k.small)

  abbrev both_entries : List Entry
  both_entries = entries_of_both (site_of s) area (site_of t) other

  -- the entries are those of the differences
  entries : both_entries ≡ map entry_of raw
  unfolding held_in
  entries =
      let in_first : ℕ → Option Record = look (site_of s) area in
      let a = pass_firsts in_second xs ys (tells in_second ys xs m.looks k.small) in
      let b = pass_seconds in_first xs ys (tells in_first xs ys k.looks m.small) in
      rw (a, b) (sym (map-append entry_of (firsts key same xs ys) (seconds key same xs ys)))

  -- in order and unpacked they are the records of the list
  sorted_records : unpacked in_second (sort rank both_entries) ≡ record_bytes in_use (differences key same xs ys)
  unfolding differences
  sorted_records =
      rw (entries, sort_entries in_second raw told)
      (records_entries in_second (sort (key_of key) raw) (perm_all (Told in_second) (Permᴰ.symm (sort-perm (key_of key) raw)) told))

  -- the first part of the room takes them
  sortable : (n : Counts) → n ≡ counts_of (differences key same xs ys) → (room : List ℕ) → top_of n ≤ length room
      → Sortable (take (top_of n) room) (more * n.both) both_entries
  unfolding differences
  sortable n c room h =
      let ds : List D = sort (key_of key) raw in
      let p = sort-perm (key_of key) raw in
      let len : length raw ≡ n.first + n.second + n.both = omega (arith, perm-length p, kinds key same ds, c₁ ds n c, c₂ ds n c, c₃ ds n c) in
      let many : length both_entries ≡ length raw = ap length entries ∙ length-map raw entry_of in
      record {
        long = omega (arith, length-take-le (top_of n) room h, many, len);
        free = rw entries (omega (arith, wide_entries raw, perm-count is_unlike p, c₃ ds n c));
        once = rw entries (once_entries in_second raw told (each_once key same xs ys k.set.once m.set.once));
        sized = rw entries (all_sized in_second raw told);
      }

  -- the same of what the code has of the two files
  module _ (here there : Site) (e : here ≡ site_of s) (f : there ≡ site_of t) where
    abbrev written_entries : List Entry
    written_entries = entries_of_both here area there other

    pub walks_both : Walkable area here × Walkable other there
    walks_both = (rw e k.walks, rw f m.walks)

    same_entries : written_entries ≡ both_entries
    same_entries = rw (e, f)

    pub sorted_written : unpacked (look there other) (sort rank written_entries) ≡ record_bytes in_use (differences key same xs ys)
    sorted_written = rw (same_entries, f) sorted_records

    pub sortable_written : (n : Counts) → n ≡ counts_of (differences key same xs ys) → (room : List ℕ) → top_of n ≤ length room → Sortable (take (top_of n) room) (more * n.both) written_entries
    sortable_written n c room h = rw same_entries (sortable n c room h)
