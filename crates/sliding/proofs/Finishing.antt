-- A growth's three passes make the file anew.
use mathlib.Core.Path.{◌≡◌, refl, sym, ap, ◌∙◌}
use mathlib.Core.Bool.{true, not}
use mathlib.Core.Logic.{◌⊎◌}
use mathlib.Core.List.{List, [], ◌∷◌, ◌++◌, map}
use Prim.Native.Nat.{ℕ, zero, suc, ◌+◌, ◌-◌, ◌*◌, ◌^◌, ◌≤◌, ◌<◌, min}
use native.Mathlib.Omega.{arith}
use native.Mathlib.Decide.{dec_lt}
use lib.Dec.{eqb}
use lib.ListN.{length, take, drop, get_or, length-map, length-take, get_or-eq_default}
use lib.Seq.{drop-cons, drop-length}
use borrow.Author.Tests.{ltb-true, eqb-true}
use Rattle.numbers.specs.Little.{Bytes}
use Rattle.layouts.specs.Layout.{in_use}
use Rattle.homes.specs.declared.Shape.{Shape}
use Rattle.homes.specs.Homes.{Ready, first_pages, shape_of, home_in}
use Rattle.homes.specs.Steps.Giving.{giving_of}
use Rattle.placing.specs.Image.{All, cat, Distinct}
use Rattle.placing.specs.Lay.{sort, up_to, lay}
use Rattle.placing.specs.Rows.{counts, strayed}
use Rattle.placing.specs.Steps.Keep.{keep}
use Rattle.placing.proofs.Lists.{all_map, all_take, all_get_d, count-le}
use Rattle.placing.proofs.Keeping.{all_keep, keep_distinct, kept}
use Rattle.placing.proofs.Splitting.{split_sort}
use Rattle.placing.proofs.Rows.{counts_at, counts-length}
use Rattle.pages.specs.Page.{Record, key, home_for, records_in}
use Rattle.pages.specs.Small.{Small}
use Rattle.pages.specs.Area.{part_at, held_from, area_from}
use Rattle.pages.proofs.Areas.{held_length, area_length, part_area}
use Rattle.pages.proofs.RoundTrip.{records_bytes}
use Rattle.entries.specs.declared.Entry.{Entry}
use Rattle.entries.specs.Steps.Entries.{entries_in, row_bytes, rank, home}
use Rattle.entries.proofs.Entries.{SizedEntry}
use Rattle.entries.proofs.Rows.{row_length, entries_row}
use Rattle.rebuild.specs.Relaid.{relaid}
use Rattle.rebuild.specs.Steps.Rebuild.{slots, packed, record_in, hops_from}
use Rattle.rebuild.proofs.Tags.{entries_few, home_small}
use Rattle.rebuild.proofs.Fitting.{held_fit}
use Rattle.rebuild.proofs.Laying.{home_first}
use Rattle.rebuild.proofs.Commuting.{all_drop, all_sort, pages_length, pages_relaid, pages_distinct}
use Rattle.rebuild.proofs.Moved.{pages_moved}
use Rattle.leaving.specs.Steps.Leaving.{homed, leavers}
use Rattle.leaving.proofs.Growing.{stays_or_goes}
use Rattle.leaving.proofs.Grown.{grown}
use Rattle.sliding.specs.Steps.Reading.{Whole}
use Rattle.sliding.specs.Steps.Closing.{stays, staying, leaving, closed, bytes_of, Leaving, WasImage}
use Rattle.sliding.specs.Steps.Topping.{topped, topped_hops}
use Rattle.sliding.proofs.Leavers.{leavers_leave, packed_once, staying_sorted, packed_lies, staying_counted}
use Rattle.sliding.proofs.Behind.{LaidBehind, laid_behind}

-- pages that a layout can say
abbrev Sayable : List Record → Type 0
Sayable p = (length p ≤ slots) × All (Small in_use) p

-- are read back from their bytes
module _ (qs : List (List Record)) (ok : All Sayable qs) where
  read_page : (i : ℕ) → i < length qs → records_in in_use (part_at (area_from in_use 0 qs) i) ≡ get_or qs i []
  read_page i l =
      let s : Sayable (get_or qs i []) = all_get_d Sayable i qs [] ok (omega arith, tt) in
      rw (part_area in_use i qs l) (records_bytes in_use i (get_or qs i []) s.0 s.1)

  read_from : (n i : ℕ) → i + n ≡ length qs → held_from in_use (area_from in_use 0 qs) n i ≡ drop i qs
  read_from zero i e = let q : i ≡ length qs = omega arith in rw q (sym (drop-length qs))
  read_from (suc n) i e = rw (read_page i (omega arith), read_from n (suc i) (omega arith)) (sym (drop-cons qs i [] (omega arith)))

  pub read_back : (n : ℕ) → length qs ≡ n → held_from in_use (area_from in_use 0 qs) n 0 ≡ qs
  read_back n e = read_from n 0 (omega arith)

-- pages laid from records that a layout takes are such
laid_sayable : (n a : ℕ) (s : List Entry) → All (λ e. Small in_use e.held) s → All Sayable (map (map record_in) (lay home slots n a s))
laid_sayable zero a s h = tt
laid_sayable (suc n) a s h =
    let k : ℕ = min slots (up_to home a s) in (
      (rw length-map (omega (arith, length-take k s)), records (take k s) (all_take (λ e. Small in_use e.held) k s h)),
      laid_sayable n (suc a) (drop k s) (all_drop (λ e. Small in_use e.held) k s h),
    )
  where
    records : (es : List Entry) → All (λ e. Small in_use e.held) es → All (Small in_use) (map record_in es)
    records [] z = tt
    records (e ∷ es) z = (z.0, records es z.1)

lay-length : (n a : ℕ) (s : List Entry) → length (map (map record_in) (lay home slots n a s)) ≡ n
lay-length zero a s = refl
lay-length (suc n) a s = ap suc (lay-length n (suc a) (drop (min slots (up_to home a s)) s))

-- a page gets no more than it has slots for
hops_few : (n a : ℕ) (s : List Entry) → hops_from a (lay home slots n a s) ≤ slots * n
hops_few zero a s = omega arith
hops_few (suc n) a s =
    let k : ℕ = min slots (up_to home a s) in
    omega (arith, count-le (λ e. not (eqb e.from a)) (take k s), length-take k s, hops_few n (suc a) (drop k s))

-- a file that was an image for the homes `was` and grows by page P to the homes h, with the counts of
-- those and the row of the records that leave
pub record Slides (was h : ℕ → ℕ) (P cap : ℕ) (area homes row : List ℕ) : Type 0 where
  pub below : (k : ℕ) → was k < P
  pub goes : (k : ℕ) → (h k ≡ was k) ⊎ (h k ≡ P)
  pub img : WasImage was cap area
  pub bytes : Bytes area
  pub long : length area ≡ 256 * cap
  pub few : cap ≤ 4096
  pub top : P < cap
  pub low : (k : ℕ) → h k < 2 ^ 16
  pub counted : homes ≡ counts (home_for h) (cat (held_from in_use area cap 0) []) cap 0
  pub is : row ≡ row_bytes (leavers h P cap area)

-- as it is where the homes are those of a shape
pub slides : (shape : Shape) (cap : ℕ) (area homes row : List ℕ) → Ready shape → first_pages shape.params < shape.p → shape.p ≤ cap
    → cap ≤ 4096 → length area ≡ 256 * cap → Bytes area → WasImage (home_in (shape_of shape.params (shape.p - 1))) cap area
    → homes ≡ counts (home_for (home_in shape)) (cat (held_from in_use area cap 0) []) cap 0
    → row ≡ row_bytes (leavers (home_in shape) (shape.p - 1) cap area)
    → Slides (home_in (shape_of shape.params (shape.p - 1))) (home_in shape) (shape.p - 1) cap area homes row
slides shape cap area homes row ready more fits few long bytes img counted is =
    let g = grown shape (giving_of shape) refl ready more in
    record {
      below = g.below;
      goes = stays_or_goes g;
      img = img;
      bytes = bytes;
      long = long;
      few = few;
      top = omega (arith, more, fits);
      low = λ k. home_small shape k _ ready refl;
      counted = counted;
      is = is;
    }

module _ {was h : ℕ → ℕ} {P cap : ℕ} {area homes row : List ℕ} (w : Slides was h P cap area homes row) where
  abbrev ps : List (List Record)
  ps = held_from in_use area cap 0

  fit : All SizedEntry (packed h cap area)
  unfolding packed
  fit = held_fit h area cap 0 w.low w.bytes (omega arith) (omega arith)

  distinct : Distinct rank (packed h cap area)
  unfolding packed
  distinct = pages_distinct h ps w.img.set

  pub homes_many : length homes ≡ cap
  homes_many = ap length w.counted ∙ counts-length (home_for h) (cat ps []) cap 0

  pub homes_low : (k : ℕ) → get_or homes k 0 ≤ 49152
  unfolding packed
  homes_low k = go (dec_lt k cap)
    where
      go : Dec (k < cap) → get_or homes k 0 ≤ 49152
      go (yes l) =
          omega (
            arith,
            ap (λ (r : List ℕ). get_or r k 0) w.counted,
            counts_at (home_for h) (cat ps []) cap 0 k l,
            count-le (λ x. eqb (home_for h x) (0 + k)) (cat ps []),
            pages_length h ps,
            entries_few h area cap 0,
          )
      go (no l) = let m : length homes ≤ k = omega (arith, homes_many) in omega (arith, get_or-eq_default homes 0 m)

  leavers_fit : All SizedEntry (leavers h P cap area)
  unfolding leavers
  leavers_fit = all_keep (homed P) SizedEntry (packed h cap area) fit

  pub row_whole : Whole 0 row
  row_whole = omega (arith, ap length w.is, row_length (leavers h P cap area))

  row_holds : entries_in row ≡ leavers h P cap area
  row_holds = ap entries_in w.is ∙ entries_row (leavers h P cap area) leavers_fit

  pub closes : Leaving h P cap area homes row
  closes = record {
    formed = w.img.formed;
    once = packed_once was h P w.below w.goes cap area w.img.set;
    sorted = staying_sorted was h P w.below w.goes cap area w.img.sorted;
    lies = packed_lies was h P w.below w.goes cap area w.img.packed;
    leave = row_holds ∙ leavers_leave was h P w.below w.goes cap area;
    whole = row_whole;
    homes = staying_counted was h P w.below w.goes cap area homes w.counted (omega arith);
  }

  pub row_once : Distinct rank (entries_in row)
  unfolding leavers
  row_once = rw row_holds (keep_distinct (homed P) rank (packed h cap area) distinct)

  -- in order
  module _ (new : List ℕ) (so : new ≡ row_bytes (sort rank (entries_in row))) where
    abbrev m : List Entry
    m = sort rank (leavers h P cap area)

    new_is : new ≡ row_bytes m
    new_is = so ∙ rw row_holds

    pub new_whole : Whole 0 new
    new_whole = omega (arith, ap length new_is, row_length m)

    new_holds : entries_in new ≡ m
    new_holds = ap entries_in new_is ∙ entries_row m (all_sort SizedEntry rank (leavers h P cap area) leavers_fit)

    -- with those that stay
    abbrev s : List Entry
    s = staying h P cap area

    all_in : sort rank (packed h cap area) ≡ s ++ m
    unfolding staying leaving
    all_in =
        split_sort rank home home_first P (packed h cap area) distinct (staying_sorted was h P w.below w.goes cap area w.img.sorted)
        ∙ ap (λ (u : List Entry). keep (stays P) (packed h cap area) ++ sort rank u) (sym (leavers_leave was h P w.below w.goes cap area))

    pages₁ : List (List Record)
    pages₁ = map (map record_in) (lay home slots cap 0 s)

    sayable : All Sayable pages₁
    unfolding staying pages₁
    sayable =
        laid_sayable cap 0 s (all_keep (stays P) (λ e. Small in_use e.held) (packed h cap area) (all_map SizedEntry (λ e. Small in_use e.held) (λ e f. f.held) (packed h cap area) fit))

    behind : LaidBehind P cap 0 s m
    unfolding staying leavers
    behind =
        laid_behind P cap 0 s m
        (all_map (λ e. stays P e ≡ true) (λ e. home e < P) (λ e t. ltb-true (home e) P t) s (kept (stays P) (packed h cap area)))
        (all_sort (λ e. home e ≡ P) rank (leavers h P cap area) (all_map (λ e. homed P e ≡ true) (λ e. home e ≡ P) (λ e t. eqb-true (home e) P t) (leavers h P cap area) (kept (homed P) (packed h cap area))))

    -- the area with those that stay
    module _ (area₁ : List ℕ) (closed₁ : area₁ ≡ bytes_of (closed h P cap area)) where
      held₁ : held_from in_use area₁ cap 0 ≡ pages₁
      unfolding pages₁
      held₁ = rw closed₁ (read_back pages₁ sayable cap (lay-length cap 0 s))

      pub long₁ : length area₁ ≡ 256 * cap
      long₁ = ap length closed₁ ∙ area_length in_use 0 (map (map record_in) (lay home slots cap 0 s)) ∙ rw (lay-length cap 0 s)

      pub formed₁ : area₁ ≡ area_from in_use 0 (held_from in_use area₁ cap 0)
      unfolding pages₁
      formed₁ = closed₁ ∙ rw held₁

      -- and then with all
      module _ (sunk gone : ℕ) (sunk_is : sunk ≡ hops_from 0 (closed h P cap area)) (gone_is : gone ≡ topped_hops P 0 (held_from in_use area₁ cap 0) (entries_in new)) where
        total : sunk + gone ≡ hops_from 0 (lay home slots cap 0 (sort rank (packed h cap area)))
        unfolding pages₁
        total =
            let z : P - 0 ≡ P = omega arith in
            rw (sunk_is, gone_is, held₁, new_holds, all_in) (sym (rw z at behind.hopped))

        pub total_fits : sunk + gone < 2 ^ 32
        total_fits = omega (arith, total, hops_few cap 0 (sort rank (packed h cap area)))

        pub slid : (end : List ℕ) → end ≡ area_from in_use 0 (topped P (held_from in_use area₁ cap 0) (entries_in new))
            → (sunk + gone ≡ strayed key ps (relaid slots h cap ps)) × (end ≡ area_from in_use 0 (relaid slots h cap ps))
        unfolding packed pages₁
        slid end e =
            let z : P - 0 ≡ P = omega arith in (
              total ∙ pages_moved h cap ps (held_length in_use area cap 0) w.img.set.once,
              e ∙ rw (held₁, new_holds, ← pages_relaid h ps cap, all_in, behind.pages, z),
            )
