-- What is read of a page's bytes: the records that they hold, and whether they are those of the
-- records.
use mathlib.Core.Path.{◌≡◌, refl, sym, ap, ◌∙◌}
use mathlib.Core.Bool.{Bool, true, false, cond, ◌&&◌}
use mathlib.Core.List.{List, [], ◌∷◌, ◌++◌, map}
use Prim.Native.Nat.{ℕ, zero, suc, ◌+◌, ◌-◌, ◌≤◌, ◌<◌}
use native.Mathlib.Nat.{add-zero, zero-add, sub-zero}
use native.Mathlib.Numerals.{add-one}
use native.Mathlib.Omega.{arith}
use borrow.Author.Tests.{ltb-true, ltb-false}
use lib.Dec.{ltb}
use lib.ListN.{length, drop, get_or, set, replicate, length-map, length-replicate, replicate-append-replicate, get_or-eq_default}
use lib.Seq.{sets, sets-eq}
use Rattle.numbers.specs.Fields.{Field, width, matches}
use Rattle.numbers.proofs.Records.{matches-append}
use Rattle.layouts.specs.Layout.{Layout, slots_of, width_of, slot_at, has_run}
use Rattle.layouts.proofs.Lying.{slots_few, slot_first, slot_next, slot_fits, width_low}
use Rattle.pages.specs.declared.Page.{Page}
use Rattle.pages.specs.Page.{Record, key, value, run, vacant, head, slot, record_slot, empty_slot, slots, record_in, records_from, count_in, records_in, well_formed, padded, in_memory}
use Rattle.pages.specs.Steps.Slots.{records_of}
use Rattle.pages.proofs.Memory.{memory}

-- n equal numbers from place m on
drop-replicate : (n m x : ℕ) → drop m (replicate n x) ≡ replicate (n - m) x
drop-replicate n zero x = rw sub-zero
drop-replicate zero (suc m) x =
    let e : 0 ≡ 0 - suc m = omega arith in
    ap (λ (k : ℕ). replicate k x) e
drop-replicate (suc n) (suc m) x =
    let e : suc n - suc m ≡ n - m = omega arith in
    rw e (drop-replicate n m x)

-- numbers stored from the front of twelve zeros on make a row
pub row_starts : (xs : List ℕ) → length xs ≤ 12 → sets (replicate 12 0) 0 xs ≡ padded xs
row_starts xs h =
    let e : 0 + length xs ≡ length xs = omega arith in
    sets-eq xs (replicate 12 0) 0 (omega arith) ∙ rw (e, drop-replicate 12 (length xs) 0)

-- a page in memory with twelve records at most meets what the functions of a page require
pub ready : (p : Page) (rs : List Record) → p ≡ in_memory rs → length rs ≤ 12 → (p.count ≤ 12) × (p ≡ in_memory (records_of p))
unfolding in_memory
ready p rs e h = rw e (h, ap in_memory (sym (memory rs)))

-- a slot has the width of its layout
pub slot-width : (f : Layout) (kind : ℕ) (x : Record) → width (slot f kind x) ≡ width_of f
slot-width zero kind x = omega arith
slot-width (suc f) kind x = omega arith

module _ (f : Layout) where
  -- n slots have n records
  pub length_records : (n i : ℕ) (l : List ℕ) → length (records_from f n i l) ≡ n
  length_records zero i l = refl
  length_records (suc n) i l = ap suc (length_records n (suc i) l)

  -- a page's bytes hold as many records as they say, at most as many as there are slots
  pub length_held : (l : List ℕ) → length (records_in f l) ≡ count_in f l
  unfolding records_in
  length_held l = length_records (count_in f l) 0 l

  -- the record of a slot is what stands in it
  record_at : (n i : ℕ) (l : List ℕ) (j : ℕ) (d : Record) → j < n → get_or (records_from f n i l) j d ≡ record_in f l (slot_at f (i + j))
  record_at zero i l j d h = absurd (omega arith)
  record_at (suc n) i l zero d h = rw add-zero
  record_at (suc n) i l (suc j) d h =
      let e : suc i + j ≡ i + suc j = omega arith in
      rw (← e) (record_at n (suc i) l j d (omega arith))

  pub held_at : (l : List ℕ) (j : ℕ) (d : Record) → j < count_in f l → get_or (records_in f l) j d ≡ record_in f l (slot_at f j)
  unfolding records_in
  held_at l j d h = record_at (count_in f l) 0 l j d h ∙ rw zero-add

  -- and lies on the page
  pub slot_lies : (l : List ℕ) (j : ℕ) → length l ≡ 256 → j < count_in f l → (j ≤ 12) × (slot_at f j + 20 ≤ length l) × (slot_at f j + width_of f ≤ length l)
  slot_lies l j n h = (omega (arith, (slots_few f).1), omega (arith, slot_fits f j (omega arith), width_low f), omega (arith, slot_fits f j (omega arith)))

  -- past the records there is none
  pub held_past : (l : List ℕ) (j : ℕ) (d : Record) → count_in f l ≤ j → get_or (records_in f l) j d ≡ d
  held_past l j d h = get_or-eq_default (records_in f l) d {n = j} (omega (arith, length_held l))

  pub held_few : (l : List ℕ) → length (records_in f l) ≤ slots_of f
  held_few l = omega (arith, length_held l)

  pub held_twelve : (l : List ℕ) → length (records_in f l) ≤ 12
  held_twelve l = omega (arith, held_few l, (slots_few f).1)

  module _ (l : List ℕ) (count : ℕ) (g : Record → ℕ) where
    -- what is left to store of a row, from slot i on
    abbrev pub RowLeft : List ℕ → ℕ → Type 0
    RowLeft row i = sets row i (map g (records_from f (count - i) i l)) ≡ padded (map g (records_in f l))

    pub row_left : count ≡ count_in f l → RowLeft (replicate 12 0) 0
    unfolding records_in
    row_left c = rw (c, sub-zero) (row_starts (map g (records_in f l)) (rw length-map (held_twelve l)))

    module _ (row : List ℕ) (i : ℕ) (left : RowLeft row i) where
      pub row_turn : (x : ℕ) → i < count → x ≡ g (record_in f l (slot_at f i)) → RowLeft (set row i x) (i + 1)
      row_turn x h q =
          let e : count - i ≡ suc (count - (i + 1)) = omega arith in
          rw (q, add-one) (rw (e, add-one) at left)

      pub row_done : count ≤ i → row ≡ padded (map g (records_in f l))
      row_done h =
          let e : count - i ≡ 0 = omega arith in
          rw e at left

  -- after the last turn the rows are those of the page in memory
  pub parsed : (l ks vs us : List ℕ) (count : ℕ) → count ≡ count_in f l → ks ≡ padded (map key (records_in f l)) → vs ≡ padded (map value (records_in f l)) → us ≡ padded (map run (records_in f l))
      → ◌≡◌ {A = Page} (record { count = count; keys = ks; values = vs; runs = us }) (in_memory (records_in f l))
  unfolding in_memory
  parsed l ks vs us count c k v u = rw (k, v, u, length_held, ← c)

  module _ (l : List ℕ) (count i : ℕ) where
    -- whether slot i is well formed
    abbrev pub slot_matches : Bool
    slot_matches = matches l (slot_at f i) (cond (ltb i count) (record_slot f (record_in f l (slot_at f i))) (empty_slot f))

    -- whether the slots from slot i on are
    abbrev pub slots_left : Bool
    slots_left = matches l (slot_at f i) (slots f (slots_of f - i) (records_from f (count - i) i l))

  -- at the start all slots are left
  pub slots_start : (l : List ℕ) (count : ℕ) → slots_left l count 0 ≡ matches l 16 (slots f (slots_of f) (records_from f count 0 l))
  slots_start l count = rw (sub-zero count, sub-zero (slots_of f), slot_first f)

  -- a slot and what stands behind it
  slot_rest : (l : List ℕ) (i kind : ℕ) (x : Record) (fs : List Field)
      → matches l (slot_at f i) (slot f kind x ++ fs) ≡ (matches l (slot_at f i) (slot f kind x) && matches l (slot_at f (i + 1)) fs)
  slot_rest l i kind x fs =
      let on : slot_at f i + width (slot f kind x) ≡ slot_at f (i + 1) = rw (slot-width f kind x, add-one) (slot_next f i) in
      rw (← on) (matches-append (slot f kind x) fs l (slot_at f i))

  -- the slots from slot i on are well formed where slot i is, and those after it are
  slots_step : (l : List ℕ) (count i : ℕ) → i < slots_of f → slots_left l count i ≡ (slot_matches l count i && slots_left l count (i + 1))
  slots_step l count i h = go (ltb i count) refl
    where
      n : slots_of f - i ≡ suc (slots_of f - (i + 1))
      n = omega arith

      go : (u : Bool) → ltb i count ≡ u → slots_left l count i ≡ (slot_matches l count i && slots_left l count (i + 1))
      go true t =
          let e : count - i ≡ suc (count - (i + 1)) = omega (arith, ltb-true i count t) in
          rw (t, n, e) (slot_rest l i 1 (record_in f l (slot_at f i)) (slots f (slots_of f - (i + 1)) (records_from f (count - (i + 1)) (suc i) l)) ∙ rw add-one)
      go false t =
          let e : count - i ≡ 0 = omega (arith, ltb-false i count t) in
          let z : count - (i + 1) ≡ 0 = omega arith in
          rw (t, n, e, z) (slot_rest l i 0 vacant (slots f (slots_of f - (i + 1)) []))

  -- a slot that is not well formed makes the answer no
  pub slots_stop : (l : List ℕ) (count i : ℕ) (b : Bool) → i < slots_of f → b ≡ slot_matches l count i → b ≡ false → false ≡ slots_left l count i
  slots_stop l count i b h e t = sym (slots_step l count i h ∙ rw (← e, t))

  -- after a slot that is well formed the others are left
  pub slots_turn : (l : List ℕ) (count i : ℕ) (b : Bool) → i < slots_of f → b ≡ slot_matches l count i → b ≡ true → slots_left l count (i + 1) ≡ slots_left l count i
  slots_turn l count i b h e t = sym (slots_step l count i h ∙ rw (← e, t))

  -- after the last slot the answer is yes
  pub slots_end : (l : List ℕ) (count i : ℕ) → slots_of f ≤ i → true ≡ slots_left l count i
  slots_end l count i h =
      let e : slots_of f - i ≡ 0 = omega arith in
      rw e

  -- bytes are well formed where the head is exact and the slots are well formed
  formed_parts : (address : ℕ) (l : List ℕ)
      → well_formed f address l ≡ (matches l 0 (head f address (count_in f l)) && matches l 16 (slots f (slots_of f) (records_from f (count_in f l) 0 l)))
  unfolding well_formed records_in
  formed_parts address l =
      rw (length_records (count_in f l) 0 l) (matches-append (head f address (count_in f l)) (slots f (slots_of f) (records_from f (count_in f l) 0 l)) l 0)

  module _ (address : ℕ) (l : List ℕ) (count : ℕ) (exact : Bool) (e : count ≡ count_in f l) (m : exact ≡ matches l 0 (head f address count)) where
    -- a head that is not exact makes the answer no
    pub no_head : exact ≡ false → false ≡ well_formed f address l
    no_head t = sym (formed_parts address l ∙ rw (← e, ← m, t))

    -- with an exact head the slots are left
    pub slots_decide : (out : Bool) → exact ≡ true → out ≡ matches l 16 (slots f (slots_of f) (records_from f count 0 l)) → out ≡ well_formed f address l
    slots_decide out t o = o ∙ sym (formed_parts address l ∙ rw (← e, ← m, t))

-- records of twelve slots have no run
no_run : (n i : ℕ) (l : List ℕ) → map run (records_from 0 n i l) ≡ replicate n 0
no_run zero i l = refl
no_run (suc n) i l = ap (λ (s : List ℕ). 0 ∷ s) (no_run n (suc i) l)

pub no_runs : (f : Layout) (l : List ℕ) → has_run f ≡ false → ◌≡◌ {A = List ℕ} (replicate 12 0) (padded (map run (records_in f l)))
unfolding records_in
no_runs zero l h =
    let n = count_in 0 l in
    let e : n + (12 - n) ≡ 12 = omega arith in
    rw (no_run n 0 l, length-replicate, replicate-append-replicate, e)
no_runs (suc f) l h = absurd (cc h)
