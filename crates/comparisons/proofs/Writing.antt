-- The entries of both files in a row: written one after the other, sorted where they stand, and unpacked.
use mathlib.Core.Path.{◌≡◌, refl, sym, ap, ◌∙◌}
use mathlib.Core.Option.{Option}
use mathlib.Core.List.Permᴰ
use mathlib.Core.List.{List, [], ◌++◌, map, append-nil}
use Prim.Native.Nat.{ℕ, ◌+◌, ◌-◌, ◌*◌, ◌/◌, ◌≤◌}
use native.Mathlib.Omega.{arith}
use borrow.Rule.Slice.PartMut.{put_mid}
use lib.Dec.{eqb}
use lib.ListN.{length, take, drop, length-append, length-drop, length-map, drop_of_length-le}
use lib.Seq.{take_all, take_at, drop_at, length-take-le}
use Rattle.numbers.specs.Little.{written}
use Rattle.numbers.proofs.Laws.{written-length, written-written}
use Rattle.placing.specs.Image.{Distinct}
use Rattle.placing.specs.Lay.{sort}
use Rattle.placing.proofs.Lists.{none_of_length}
use Rattle.placing.proofs.Perms.{perm_all, perm-length, perm-count, sort-perm}
use Rattle.pages.specs.Page.{Record}
use Rattle.entries.specs.declared.Entry.{Entry}
use Rattle.entries.specs.Steps.Entries.{size, entries_in, row_bytes, rank}
use Rattle.entries.proofs.Entries.{SizedEntry}
use Rattle.entries.proofs.Rows.{row_length, row_append, entries_row}
use Rattle.sites.specs.declared.Site.{Site}
use Rattle.sites.specs.declared.Which.{Which}
use Rattle.sites.specs.declared.Which.TheVariants.{First, Second}
use Rattle.sites.specs.Steps.Sites.{look, on_pages}
use Rattle.differences.specs.declared.Tally.{Tally}
use Rattle.differences.specs.Steps.Passes.{of_all, entry_of, Passes}
use Rattle.differences.specs.Steps.Unpacked.{more, unpacked, wide}
use Rattle.differences.proofs.Fitting.{fitted_all}
use Rattle.differences.proofs.Passing.{passes_many, file_few}
use Rattle.comparisons.specs.Steps.Past.{entries_of_both, Sortable}

-- a row without room is that of no entries
pub none_written : (look : ℕ → Option Record) (row : List ℕ) (base : ℕ) (es : List Entry) → Sortable row base es → length row ≡ 0 → row ≡ unpacked look (sort rank es)
none_written look row base es w e =
    let z : es ≡ [] = none_of_length es (omega (arith, w.long, e)) in
    none_of_length row e ∙ rw z

-- a pass writes its entries where they have room
module _ {which : Which} {look : ℕ → Option Record} {rs : List Record} {row : List ℕ} {at : ℕ} {t : Tally} {row₁ : List ℕ} (w : Passes which look rs row at t row₁) where
  abbrev es₁ : List Entry
  es₁ = map entry_of (of_all which look rs)

  pub pass_many : t.absent + t.unlike ≡ length es₁
  pass_many = omega (arith, passes_many w, length-map (of_all which look rs) entry_of)

  pub pass_written : at + size * length es₁ ≤ length row → row₁ ≡ written row at (row_bytes es₁)
  pass_written h = w.rows ∙ fitted_all es₁ row at h

module _ {row : List ℕ} {base : ℕ} (ds es : List Entry) (w : Sortable row base (ds ++ es)) where
  abbrev all : List Entry
  all = ds ++ es

  sum : length all ≡ length ds + length es
  sum = length-append ds es

  pub first_fits : base + size * length ds ≤ length row
  first_fits = omega (arith, w.long, sum)

  module _ (row₁ : List ℕ) (at : ℕ) (e : at ≡ base + size * length ds) (f : row₁ ≡ written row base (row_bytes ds)) where
    same₁ : length row₁ ≡ length row
    same₁ = ap length f ∙ written-length row base (row_bytes ds) (omega (arith, row_length ds, first_fits))

    pub second_fits : at + size * length es ≤ length row₁
    second_fits = omega (arith, e, same₁, w.long, sum)

    module _ (m : List ℕ) (g : m ≡ written row₁ at (row_bytes es)) where
      front : length (take base row) ≡ base
      front = length-take-le base row (omega (arith, w.long))

      -- the two writes are one, to the end of the row
      whole : m ≡ take base row ++ row_bytes all
      unfolding written
      whole =
          let n : length (row_bytes ds) ≡ size * length ds = row_length ds in
          let to : at ≡ base + length (row_bytes ds) = omega (arith, e) in
          let two : written (written row base (row_bytes ds)) (base + length (row_bytes ds)) (row_bytes es) ≡ written row base (row_bytes ds ++ row_bytes es) = written-written row base (row_bytes ds) (row_bytes es) (omega (arith, w.long)) in
          let one_row : row_bytes ds ++ row_bytes es ≡ row_bytes all = sym (row_append ds es) in
          let end : drop (base + length (row_bytes all)) row ≡ [] = drop_of_length-le row {i = base + length (row_bytes all)} (omega (arith, w.long, row_length all)) in
          let join : m ≡ written row base (row_bytes all) = g ∙ rw (f, to) two ∙ ap (written row base) one_row in
          join ∙ ap (λ (t : List ℕ). take base row ++ t) (ap (λ (t : List ℕ). row_bytes all ++ t) end ∙ append-nil (row_bytes all))

      full : (fs : List Entry) → length fs ≡ length all → length (take base row ++ row_bytes fs) ≡ length row
      full fs k = omega (arith, length-append (take base row) (row_bytes fs), front, row_length fs, w.long)

      -- the part that is lent to be sorted
      part : take (length m - base) (drop base m) ≡ row_bytes all
      part =
          let d : drop base m ≡ row_bytes all = rw whole (drop_at (take base row) (row_bytes all) base front) in
          rw d (take_all (length m - base) (row_bytes all) (omega (arith, row_length all, ap length whole, full all refl, w.long)))

      part_entries : entries_in (take (length m - base) (drop base m)) ≡ all
      part_entries = ap entries_in part ∙ entries_row all w.sized

      pub part_lies : base ≤ length m
      part_lies = omega (arith, ap length whole, full all refl, w.long)

      pub part_whole : length (take (length m - base) (drop base m)) ≡ size * (length (take (length m - base) (drop base m)) / size)
      part_whole = rw part (omega (arith, row_length all))

      pub part_once : Distinct rank (entries_in (take (length m - base) (drop base m)))
      part_once = rw part_entries w.once

      module _ (k : List ℕ) (s : k ≡ row_bytes (sort rank (entries_in (take (length m - base) (drop base m))))) where
        -- the row with that part back
        back : put_mid base (length m - base) m k ≡ take base row ++ row_bytes (sort rank all)
        back =
            let t : take base m ≡ take base row = rw whole (take_at (take base row) (row_bytes all) base front) in
            let d : drop (length m - base) (drop base m) ≡ [] = drop_of_length-le (drop base m) {i = length m - base} (omega (arith, length-drop base m)) in
            let r : k ≡ row_bytes (sort rank all) = s ∙ ap (λ (x : List Entry). row_bytes (sort rank x)) part_entries in
            rw (t, d, r, append-nil)

        pub back_length : length (put_mid base (length m - base) m k) ≡ length row
        back_length = rw back (full (sort rank all) (perm-length (sort-perm rank all)))

        pub back_entries : entries_in (drop base (put_mid base (length m - base) m k)) ≡ sort rank all
        back_entries =
            rw (back, drop_at (take base row) (row_bytes (sort rank all)) base front)
            (entries_row (sort rank all) (perm_all SizedEntry (Permᴰ.symm (sort-perm rank all)) w.sized))

        -- what unpacking asks
        pub back_ready : (base ≤ length (put_mid base (length m - base) m k))
            × (length (put_mid base (length m - base) m k) ≡ base + size * ((length (put_mid base (length m - base) m k) - base) / size))
            × (base ≡ more * wide (entries_in (drop base (put_mid base (length m - base) m k))))
        back_ready = (
          omega (arith, back_length, w.long),
          omega (arith, back_length, w.long),
          rw back_entries (omega (arith, w.free, perm-count (λ x. eqb x.from 771) (sort-perm rank all))),
        )

-- the two passes of a comparison
module _ (here : Site) (area : List ℕ) (there : Site) (other : List ℕ) where
  abbrev firsts : List Entry
  firsts = map entry_of (of_all First (look there other) (on_pages here area))

  abbrev seconds : List Entry
  seconds = map entry_of (of_all Second (look here area) (on_pages there other))

  module _ {row : List ℕ} {base : ℕ} (w : Sortable row base (entries_of_both here area there other)) {t : Tally} {row₁ : List ℕ} (p : Passes First (look there other) (on_pages here area) row base t row₁) where
    pub first_few : here.cap ≤ 4096 → t.absent + t.unlike ≤ 49152
    first_few h = omega (arith, file_few area here.cap p, h)

    -- where the second begins
    ends₁ : base + size * (t.absent + t.unlike) ≡ base + size * length firsts
    ends₁ = ap (λ (n : ℕ). base + size * n) (pass_many p)

    wrote₁ : row₁ ≡ written row base (row_bytes firsts)
    wrote₁ = pass_written p (first_fits firsts seconds w)

    module _ {u : Tally} {row₂ : List ℕ} (q : Passes Second (look here area) (on_pages there other) row₁ (base + size * (t.absent + t.unlike)) u row₂) where
      wrote₂ : row₂ ≡ written row₁ (base + size * (t.absent + t.unlike)) (row_bytes seconds)
      wrote₂ = pass_written q (second_fits firsts seconds w row₁ _ ends₁ wrote₁)

      pub both_lie : base ≤ length row₂
      both_lie = part_lies firsts seconds w row₁ _ ends₁ wrote₁ row₂ wrote₂

      -- what sorting asks of the part that is lent
      pub both_sort : (length (take (length row₂ - base) (drop base row₂)) ≡ size * (length (take (length row₂ - base) (drop base row₂)) / size)) × Distinct rank (entries_in (take (length row₂ - base) (drop base row₂)))
      both_sort = (part_whole firsts seconds w row₁ _ ends₁ wrote₁ row₂ wrote₂, part_once firsts seconds w row₁ _ ends₁ wrote₁ row₂ wrote₂)

      module _ (k : List ℕ) (s : k ≡ row_bytes (sort rank (entries_in (take (length row₂ - base) (drop base row₂))))) where
        pub both_ready : (base ≤ length (put_mid base (length row₂ - base) row₂ k))
            × (length (put_mid base (length row₂ - base) row₂ k) ≡ base + size * ((length (put_mid base (length row₂ - base) row₂ k) - base) / size))
            × (base ≡ more * wide (entries_in (drop base (put_mid base (length row₂ - base) row₂ k))))
        both_ready = back_ready firsts seconds w row₁ _ ends₁ wrote₁ row₂ wrote₂ k s

        pub both_sorted : entries_in (drop base (put_mid base (length row₂ - base) row₂ k)) ≡ sort rank (entries_of_both here area there other)
        both_sorted = back_entries firsts seconds w row₁ _ ends₁ wrote₁ row₂ wrote₂ k s
