-- The turns of packing: a page's records downward from its last, and the pages downward from the
-- last.
use mathlib.Core.Path.{◌≡◌, refl, sym, ap, ◌∙◌}
use mathlib.Core.List.{List, [], ◌∷◌, ◌++◌, append_assoc, append-nil}
use Prim.Native.Nat.{ℕ, zero, suc, ◌+◌, ◌-◌, ◌*◌, ◌≤◌, ◌<◌}
use native.Mathlib.Nat.{zero-add, sub_self, sub-zero}
use native.Mathlib.Omega.{arith}
use lib.ListN.{length, take, drop, get_or, length-append, length-take, length-drop, take-append-drop, drop_of_length-le}
use lib.Seq.{take-take, drop_at, take-append-le, drop-append-le, length-take-le}
use Rattle.numbers.specs.Little.{written}
use Rattle.numbers.proofs.Laws.{written-written}
use Rattle.layouts.specs.Layout.{in_use}
use Rattle.homes.specs.declared.new_homes.NewHomes.{NewHomes}
use Rattle.pages.specs.declared.Page.{Page}
use Rattle.pages.specs.Page.{Record, record_with, records_in}
use Rattle.pages.specs.Steps.Slots.{paired, records_of}
use Rattle.pages.specs.Area.{part_at, held_from}
use Rattle.pages.specs.Steps.Known.{KnownAt}
use Rattle.pages.proofs.Seeking.{paired-length, paired_last}
use Rattle.entries.specs.declared.Entry.{Entry}
use Rattle.entries.specs.Steps.Entries.{size, entry_bytes, row_bytes}
use Rattle.entries.proofs.Rows.{row_length, row_append}
use Rattle.rebuild.specs.Steps.Rebuild.{slots, tagged, tagged_from, packed}
use Rattle.rebuild.proofs.Tags.{tagged-append, tagged-length}

-- the bytes of the entries of the first n records of a page's rows
abbrev pub rows : (ℕ → ℕ) → (a n : ℕ) → (ks vs us : List ℕ) → List ℕ
rows h a n ks vs us = row_bytes (tagged h a (paired n ks vs us))

rows-length : (h : ℕ → ℕ) (a n : ℕ) (ks vs us : List ℕ) → length (rows h a n ks vs us) ≡ size * n
rows-length h a n ks vs us =
    omega (arith, row_length (tagged h a (paired n ks vs us)), tagged-length h a (paired n ks vs us), paired-length n ks vs us)

rows_last : (h : ℕ → ℕ) (a n : ℕ) (ks vs us : List ℕ)
    → rows h a (suc n) ks vs us ≡ rows h a n ks vs us ++ entry_bytes (record { home = h (get_or ks n 0); from = a; held = record_with (get_or ks n 0) (get_or vs n 0) (get_or us n 0) })
rows_last h a n ks vs us =
    let x : Record = record_with (get_or ks n 0) (get_or vs n 0) (get_or us n 0) in
    ap (λ (s : List Record). row_bytes (tagged h a s)) (paired_last n ks vs us)
    ∙ rw (tagged-append h a (paired n ks vs us) (x ∷ []), row_append (tagged h a (paired n ks vs us)) (tagged h a (x ∷ [])), append-nil)

-- a turn writes one entry more
pub page_turn : (l m k : List ℕ) (h : ℕ → ℕ) (a b i home : ℕ) (ks vs us : List ℕ) → b ≤ length l → m ≡ written l b (rows h a i ks vs us)
    → home ≡ h (get_or ks i 0)
    → k ≡ written m (b + size * i) (entry_bytes (record { home = home; from = a; held = record_with (get_or ks i 0) (get_or vs i 0) (get_or us i 0) }))
    → k ≡ written l b (rows h a (i + 1) ks vs us)
page_turn l m k h a b i home ks vs us n p q e =
    let s : i + 1 ≡ suc i = omega arith in
    let x : Entry = record { home = h (get_or ks i 0); from = a; held = record_with (get_or ks i 0) (get_or vs i 0) (get_or us i 0) } in
    let len : length (rows h a i ks vs us) ≡ size * i = rows-length h a i ks vs us in
    rw (e, p, q, ← len, s, rows_last h a i ks vs us) (written-written l b (rows h a i ks vs us) (entry_bytes x) n)

-- after the last turn all are written, from where they begin
pub page_done : (l m : List ℕ) (h : ℕ → ℕ) (a b i n at : ℕ) (ks vs us : List ℕ) → b ≡ at → i ≡ n → m ≡ written l b (rows h a i ks vs us) → m ≡ written l at (rows h a n ks vs us)
page_done l m h a b i n at ks vs us p q e = rw (← p, ← q) e

-- n pages from address a on, of which page i holds `part i`
abbrev pub parts_from : {R : Type 0} → (ℕ → List R) → (n a : ℕ) → List (List R)
parts_from part zero a = []
parts_from part (suc n) a = part a ∷ parts_from part n (suc a)

-- what stands on the pages of an area
abbrev pub on_page : List ℕ → ℕ → List Record
on_page l a = records_in in_use (part_at l a)

pub parts_held : (l : List ℕ) (n a : ℕ) → parts_from (on_page l) n a ≡ held_from in_use l n a
parts_held l zero a = refl
parts_held l (suc n) a = ap (λ (ps : List (List Record)). on_page l a ∷ ps) (parts_held l n (suc a))

-- twelve entries a page at most, which take less than its bytes
parts_few : (h : ℕ → ℕ) (part : ℕ → List Record) → ((i : ℕ) → length (part i) ≤ slots) → (n a : ℕ) → length (tagged_from h a (parts_from part n a)) ≤ slots * n
parts_few h part few zero a = omega arith
parts_few h part few (suc n) a =
    omega (arith, length-append (tagged h a (part a)) (tagged_from h (suc a) (parts_from part n (suc a))), tagged-length h a (part a), few a, parts_few h part few n (suc a))

-- the entries of the pages from a on
abbrev pub upward : (ℕ → List Record) → (ℕ → ℕ) → (cap a : ℕ) → List Entry
upward part h cap a = tagged_from h a (parts_from part (cap - a) a)

-- the pages from a on are packed in m below `top`, and all else stands as in l
pub record Above (part : ℕ → List Record) (h : ℕ → ℕ) (cap : ℕ) (l : List ℕ) (top a at : ℕ) (m : List ℕ) : Type 0 where
  pub within : a ≤ cap
  pub begins : at + size * length (upward part h cap a) ≡ top
  pub bytes : m ≡ take at l ++ (row_bytes (upward part h cap a) ++ drop top l)

pub above_start : (part : ℕ → List Record) (h : ℕ → ℕ) (cap : ℕ) (l : List ℕ) (top : ℕ) → Above part h cap l top cap top l
above_start part h cap l top =
    let e : upward part h cap cap ≡ [] = rw (sub_self cap) in
    record {
      within = omega arith;
      begins = rw e (omega arith);
      bytes = rw e (sym (take-append-drop top l));
    }

-- a part that lies in the first of two lists
part_front : (s t : List ℕ) (b : ℕ) → 256 * (b + 1) ≤ length s → part_at (s ++ t) b ≡ part_at s b
unfolding part_at
part_front s t b h =
    rw (drop-append-le (256 * b) s t (omega arith)) (take-append-le 256 (drop (256 * b) s) t (omega (arith, length-drop (256 * b) s)))

module _ (part : ℕ → List Record) (h : ℕ → ℕ) (cap : ℕ) (l : List ℕ) (top a at : ℕ) (m : List ℕ) (n : top ≤ length l) (s : Above part h cap l top a at m) where
  pub above_length : length m ≡ length l
  above_length =
      rw s.bytes
      (omega (arith, length-append (take at l) (row_bytes (upward part h cap a) ++ drop top l), length-append (row_bytes (upward part h cap a)) (drop top l), length-drop top l, length-take at l, row_length (upward part h cap a), s.begins))

  -- where all pages lie below the top, twelve entries take less than a page
  module _ (few : (i : ℕ) → length (part i) ≤ slots) (high : top ≡ 256 * cap) where
    pub above_room : 256 * a ≤ at
    above_room = omega (arith, s.begins, s.within, parts_few h part few (cap - a) a)

    -- so a page below is read as it stood
    pub below_same : (b : ℕ) → b < a → part_at m b ≡ part_at l b
    below_same b k =
        let t : length (take at l) ≡ at = length-take-le at l (omega (arith, s.begins)) in
        ap (λ (x : List ℕ). part_at x b) s.bytes
        ∙ part_front (take at l) (row_bytes (upward part h cap a) ++ drop top l) b (omega (arith, above_room))
        ∙ sym (part_front (take at l) (drop at l) b (omega (arith, above_room)))
        ∙ rw take-append-drop

    -- and what is known of it is known still
    pub known_below : (new : NewHomes) → ((b : ℕ) → b < cap → KnownAt in_use new l b) → (b : ℕ) → b < a → KnownAt in_use new m b
    known_below new w zero k = rw (below_same 0 k) (w 0 (omega (arith, s.within)))
    known_below new w (suc b) k = rw (below_same (suc b) k, below_same b (omega arith)) (w (suc b) (omega (arith, s.within)))

-- rows written below those that stand at the end
rows_below : (l v w : List ℕ) (at to : ℕ) → at ≤ length l → to + length v ≡ at → written (take at l ++ w) to v ≡ take to l ++ (v ++ w)
unfolding written
rows_below l v w at to h e =
    let t : length (take at l) ≡ at = length-take-le at l h in
    rw (e, take-append-le to (take at l) w (omega arith), take-take to at l (omega arith), drop_at (take at l) w at t)

-- a page in memory has as many records as it says
pub records_count : (p : Page) → length (records_of p) ≡ p.count
unfolding records_of
records_count p = paired-length p.count p.keys p.values p.runs

-- one page more
upward_more : (part : ℕ → List Record) (h : ℕ → ℕ) (cap a : ℕ) → 0 < a → a ≤ cap → upward part h cap (a - 1) ≡ tagged h (a - 1) (part (a - 1)) ++ upward part h cap a
upward_more part h cap a z k =
    let e : cap - (a - 1) ≡ suc (cap - a) = omega arith in
    let f : suc (a - 1) ≡ a = omega arith in
    rw (e, f)

-- where there is room for all from the first on, there is for those of one page more
upward_room : (part : ℕ → List Record) (h : ℕ → ℕ) (n a : ℕ) → length (tagged_from h a (parts_from part n a)) ≤ length (tagged_from h 0 (parts_from part (a + n) 0))
upward_room part h n a = go a 0 (omega arith)
  where
    go : (k i : ℕ) → i + k ≡ a → length (tagged_from h a (parts_from part n a)) ≤ length (tagged_from h i (parts_from part (k + n) i))
    go zero i e = let z : i ≡ a = omega arith in rw (z, zero-add n) (omega arith)
    go (suc k) i e =
        let d : suc k + n ≡ suc (k + n) = omega arith in
        rw d (omega (arith, length-append (tagged h i (part i)) (tagged_from h (suc i) (parts_from part (k + n) (suc i))), go k (suc i) (omega arith)))

-- a turn packs the next page below, which has room
module _ (part : ℕ → List Record) (h : ℕ → ℕ) (cap : ℕ) (l : List ℕ) (top a at : ℕ) (m : List ℕ) (n : top ≤ length l) (s : Above part h cap l top a at m) (z : 0 < a)
    (p : Page) (is : records_of p ≡ part (a - 1)) where
  many : p.count ≡ length (part (a - 1))
  many = sym (records_count p) ∙ ap length is

  sum : length (upward part h cap (a - 1)) ≡ length (part (a - 1)) + length (upward part h cap a)
  sum = rw (upward_more part h cap a z s.within) (omega (arith, length-append (tagged h (a - 1) (part (a - 1))) (upward part h cap a), tagged-length h (a - 1) (part (a - 1))))

  pub turn_room : size * length (tagged_from h 0 (parts_from part cap 0)) ≤ top → size * p.count ≤ at
  turn_room all =
      let q : a - 1 + (cap - (a - 1)) ≡ cap = omega (arith, s.within) in
      let most : length (upward part h cap (a - 1)) ≤ length (tagged_from h 0 (parts_from part cap 0)) = rw q at (upward_room part h (cap - (a - 1)) (a - 1)) in
      omega (arith, all, most, sum, s.begins, many)

  module _ (to : ℕ) (k : List ℕ) (fits : size * p.count ≤ at) (f : to ≡ at - size * p.count)
      (g : k ≡ written m (at - size * p.count) (row_bytes (tagged h (a - 1) (records_of p)))) where
    pub above_turn : Above part h cap l top (a - 1) to k
    above_turn =
        record {
          within = omega (arith, s.within);
          begins = omega (arith, s.begins, sum, many);
          bytes =
              g
              ∙ rw (← f, is, s.bytes, upward_more part h cap a z s.within, row_append (tagged h (a - 1) (part (a - 1))) (upward part h cap a), append_assoc)
              (rows_below l (row_bytes (tagged h (a - 1) (part (a - 1)))) (row_bytes (upward part h cap a) ++ drop top l) at to (omega (arith, s.begins))
              (omega (arith, many, row_length (tagged h (a - 1) (part (a - 1))), tagged-length h (a - 1) (part (a - 1)))));
        }

-- after the last turn all pages are packed
pub above_end : (part : ℕ → List Record) (h : ℕ → ℕ) (cap : ℕ) (l : List ℕ) (top a at : ℕ) (m : List ℕ) → Above part h cap l top a at m → a ≤ 0
    → let es = tagged_from h 0 (parts_from part cap 0) in (at ≡ top - size * length es) × (m ≡ take at l ++ (row_bytes es ++ drop top l))
above_end part h cap l top a at m s z =
    let y : a ≡ 0 = omega arith in
    let e : upward part h cap a ≡ tagged_from h 0 (parts_from part cap 0) = rw (y, sub-zero) in
    (rw (← e) (omega (arith, s.begins)), rw (← e) s.bytes)

-- the pages of an area among them
pub packed_end : (h : ℕ → ℕ) (cap : ℕ) (source l : List ℕ) (top a at : ℕ) (m : List ℕ) → Above (on_page source) h cap l top a at m → a ≤ 0
    → (at ≡ top - size * length (packed h cap source)) × (m ≡ take at l ++ (row_bytes (packed h cap source) ++ drop top l))
unfolding packed
packed_end h cap source l top a at m s z = rw (parts_held source cap 0) at (above_end (on_page source) h cap l top a at m s z)

-- nothing stands behind the end
pub none_behind : (v l : List ℕ) (n : ℕ) → length l ≡ n → v ++ drop n l ≡ v
none_behind v l n e = rw (drop_of_length-le l {i = n} (omega arith)) (append-nil v)
