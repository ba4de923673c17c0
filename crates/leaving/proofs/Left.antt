-- A file that grows, before the first turn over its homes and after the last.
use mathlib.Core.Path.{◌≡◌, refl, sym, ap, ◌∙◌}
use mathlib.Core.Bool.{false}
use mathlib.Core.Logic.{⊎_elim}
use mathlib.Core.List.{List, [], ◌∷◌, map}
use Prim.Native.Nat.{ℕ, ◌*◌, ◌/◌, ◌≤◌, ◌<◌}
use native.Mathlib.Nat.{zero-add, sub-zero}
use native.Mathlib.Decide.{dec_lt}
use native.Mathlib.Omega.{arith}
use borrow.Author.Tests.{ne_eqb}
use lib.Dec.{eqb}
use lib.ListN.{length, get_or, set, length-set}
use lib.Seq.{get_or-set_same, get_or-set_other, ext_get_or}
use Rattle.layouts.specs.Layout.{in_use}
use Rattle.placing.specs.Image.{All, cat}
use Rattle.placing.specs.Lay.{count, rank_in, Sorted}
use Rattle.placing.specs.Rows.{at_home, counts}
use Rattle.placing.specs.Steps.Keep.{keep}
use Rattle.placing.specs.Steps.Packed.{Packed}
use Rattle.placing.proofs.Lists.{all_map}
use Rattle.placing.proofs.Rows.{counts-length, counts_at}
use Rattle.placing.proofs.Keeping.{keep-count, count_none}
use Rattle.homes.specs.declared.giving.Giving.{Giving}
use Rattle.homes.specs.Steps.Giving.{gives_at, takes_key}
use Rattle.pages.specs.Page.{Record, key, home_for}
use Rattle.pages.specs.Area.{held_from}
use Rattle.entries.specs.declared.Entry.{Entry}
use Rattle.entries.specs.Steps.Entries.{size}
use Rattle.rebuild.specs.Steps.Rebuild.{slots, packed, record_in}
use Rattle.rebuild.proofs.Tags.{entries_few}
use Rattle.rebuild.proofs.Commuting.{Right, pages_right, pages_records}
use Rattle.leaving.specs.Steps.Leaving.{homed, leavers, entered}
use Rattle.leaving.proofs.Segments.{Passed}
use Rattle.leaving.proofs.Room.{entered_none}
use Rattle.leaving.proofs.Tagged.{tagged_on, was_in, rank_was, tagged_onward, packed_tagged, sorted_records, count_records, count-homed}
use Rattle.leaving.proofs.Growing.{Grows, stays_or_goes}
use Rattle.leaving.proofs.Leaving.{Leaving, waiting}

-- the records of n pages
abbrev pub holds : (n : ℕ) → List ℕ → List Record
holds n area = cat (held_from in_use area n 0) []

-- an image for the old homes, with its counts, that grows by page P
pub record Begun (was h : ℕ → ℕ) (t : Giving) (P cap : ℕ) (area row : List ℕ) : Type 0 where
  pub grows : Grows was h (gives_at t) (takes_key t) P
  pub there : t.added ≡ P
  pub high : P < cap
  pub packed : Packed (home_for was) slots 0 (held_from in_use area cap 0) []
  pub sorted : Sorted (rank_in key was) (holds cap area)
  pub told : row ≡ counts (home_for was) (holds cap area) cap 0

module _ {was h : ℕ → ℕ} {t : Giving} {P cap : ℕ} {area row₀ : List ℕ} (b : Begun was h t P cap area row₀) where
  all_waiting : waiting h cap area 0 0 ≡ packed h cap area
  unfolding packed
  all_waiting = rw (sub-zero cap) (tagged_onward h area cap 0)

  all_records_of : map record_in (packed h cap area) ≡ holds cap area
  unfolding packed
  all_records_of = pages_records h 0 (held_from in_use area cap 0)

  all_right : All (Right h) (packed h cap area)
  unfolding packed
  all_right = pages_right h 0 (held_from in_use area cap 0)

  all_small : length (packed h cap area) ≤ slots * cap
  unfolding packed
  all_small = entries_few h area cap 0

  every : (s : List Entry) → All (λ e. 0 ≤ was_in was e) s
  every [] = tt
  every (e ∷ s) = (omega arith, every s)

  old_count : (i : ℕ) → at_home (was_in was) i (packed h cap area) ≡ at_home (home_for was) i (holds cap area)
  old_count i = count_records (λ x. eqb (home_for was x) i) (packed h cap area) ∙ ap (at_home (home_for was) i) all_records_of

  new_count : (i : ℕ) → count (homed i) (packed h cap area) ≡ at_home (home_for h) i (holds cap area)
  new_count i = count-homed h i (packed h cap area) all_right ∙ ap (at_home (home_for h) i) all_records_of

  passed_first : Passed (rank_was was) (was_in was) (tagged_on h area) cap 0 0
  passed_first = record {
    within = omega arith;
    packed = rw (sub-zero cap) (packed_tagged h area was cap 0 b.packed);
    many = omega arith;
    low = tt;
    high = every (waiting h cap area 0 0);
    sorted = rw all_waiting (sorted_records (rank_in key was) (packed h cap area) (rw all_records_of b.sorted));
  }

  pub row_length : length row₀ ≡ cap
  row_length = ap length b.told ∙ counts-length (home_for was) (holds cap area) cap 0

  -- before the first turn all are waiting
  pub leaving_start : (room : List ℕ) → Leaving was h P cap area (packed h cap area) room 0 0 0 row₀ room
  leaving_start room =
      record {
        below = omega arith;
        small = all_small;
        passed = passed_first;
        ends = rw all_waiting (zero-add (size * length (keep (homed P) (packed h cap area))));
        rest = rw all_waiting;
        long = refl;
        many = row_length;
        old = λ j k l. ap (λ (r : List ℕ). get_or r j 0) b.told ∙ counts_at (home_for was) (holds cap area) cap 0 j l ∙ rw (zero-add j, all_waiting) (sym (old_count j));
        new = λ j k. absurd (omega arith);
        still = λ j k l. rw all_waiting;
      }

  module _ {room₀ : List ℕ} {a over at : ℕ} {row room : List ℕ} (w : Leaving was h P cap area (packed h cap area) room₀ a over at row room) (past : P ≤ a) where
    no_home : (s : List Entry) → All (λ e. a ≤ was_in was e) s → s ≡ []
    no_home [] k = refl
    no_home (e ∷ s) k = absurd (omega (arith, k.0, b.grows.below (key e.held)))

    none_waiting : waiting h cap area a over ≡ []
    none_waiting = no_home (waiting h cap area a over) w.passed.high

    -- after the last turn all have left
    pub left_bytes : at ≡ size * length (leavers h P cap area)
    unfolding leavers
    left_bytes = omega (arith, w.ends, ap (λ (es : List Entry). length (keep (homed P) es)) none_waiting)

    pub left_room : room ≡ entered room₀ 0 (leavers h P cap area)
    unfolding leavers
    left_room = sym (entered_none room at) ∙ rw none_waiting at w.rest

    none_above : (i : ℕ) → P < i → count (homed i) (packed h cap area) ≡ 0
    none_above i l =
        count_none (homed i) (packed h cap area)
        (all_map (Right h) (λ e. homed i e ≡ false)
        (λ e r. ne_eqb e.home i (λ q. ⊎_elim (λ x. omega (arith, b.grows.below (key e.held))) (λ x. omega arith) (stays_or_goes b.grows (key e.held)))) (packed h cap area) all_right)

    pub left_row : set row P (at / size) ≡ counts (home_for h) (holds cap area) cap 0
    unfolding leavers
    left_row =
        ext_get_or 0 (set row P (at / size)) (counts (home_for h) (holds cap area) cap 0) (length-set row P (at / size) ∙ w.many ∙ sym (counts-length (home_for h) (holds cap area) cap 0))
        (λ i l. go i (omega (arith, length-set row P (at / size), w.many)) (dec_lt i P) (dec_lt P i) ∙ new_count i ∙ sym (counts_at (home_for h) (holds cap area) cap 0 i (omega (arith, length-set row P (at / size), w.many)) ∙ rw (zero-add i)))
      where
        go : (i : ℕ) → i < cap → Dec (i < P) → Dec (P < i) → get_or (set row P (at / size)) i 0 ≡ count (homed i) (packed h cap area)
        go i l (yes k) n = get_or-set_other row P i (at / size) 0 (λ q. omega arith) ∙ w.new i (omega arith)
        go i l (no k) (yes n) = get_or-set_other row P i (at / size) 0 (λ q. omega arith) ∙ w.old i (omega (arith, w.below)) l ∙ rw none_waiting (sym (none_above i n))
        go i l (no k) (no n) =
            let q : i ≡ P = omega arith in
            rw q (get_or-set_same row P (at / size) 0 (omega (arith, w.many, b.high)) ∙ omega (arith, left_bytes, keep-count (homed P) (packed h cap area)))
