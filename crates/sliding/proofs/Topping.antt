-- The turns of putting records behind what stands on the pages: one more on a page, or the next page.
use mathlib.Core.Path.{◌≡◌, refl, sym, ap, ◌∙◌}
use mathlib.Core.Bool.{Bool, true, false, not}
use mathlib.Core.Logic.{◌⊎◌, inl, inr}
use mathlib.Core.List.{List, [], ◌∷◌, ◌++◌, append_assoc, append-nil}
use Prim.Native.Nat.{ℕ, zero, suc, ◌+◌, ◌-◌, ◌*◌, ◌≤◌, ◌<◌}
use native.Mathlib.Numerals.{add-one}
use native.Mathlib.Nat.{zero-add}
use native.Mathlib.Omega.{arith}
use native.Mathlib.Decide.{dec_lt}
use lib.Dec.{eqb}
use lib.ListN.{length, take, drop, get_or, set, length-append, length-set, get_or-eq_default}
use lib.Seq.{take-nil, take-length, drop-length, take_all, get_or-set_same, get_or-set_other}
use borrow.Author.Tests.{eqb-true, eqb-false}
use Rattle.numbers.specs.Little.{Bytes}
use Rattle.layouts.specs.Layout.{in_use}
use Rattle.placing.specs.Image.{All}
use Rattle.placing.specs.Lay.{one}
use Rattle.placing.proofs.Lists.{all_append}
use Rattle.pages.specs.Page.{Record, page_bytes, records_in, well_formed}
use Rattle.pages.specs.Small.{Small}
use Rattle.pages.specs.Steps.Slots.{opened}
use Rattle.pages.specs.Area.{part_at, held_from, area_from, with_page}
use Rattle.pages.proofs.Areas.{held_length, part_area, with_area, area_length}
use Rattle.pages.proofs.Bounds.{part_small}
use Rattle.pages.proofs.Read.{held_few}
use Rattle.pages.proofs.RoundTrip.{records_bytes, page_formed}
use Rattle.entries.specs.declared.Entry.{Entry}
use Rattle.entries.specs.Steps.Entries.{size, entry_at, entries_in}
use Rattle.entries.proofs.Entries.{entry_fits}
use Rattle.entries.proofs.Reading.{left_first, left_none}
use Rattle.rebuild.specs.Steps.Rebuild.{slots, record_in}
use Rattle.sliding.specs.Steps.Reading.{left, Whole}
use Rattle.sliding.specs.Steps.Topping.{topped, topped_hops}
use Rattle.sliding.proofs.Pulling.{one_few}
use Rattle.sliding.proofs.Untouched.{held_at}

-- a page with a slot takes the next
module _ (e : Entry) (m : List Entry) where
  topped_one : (a : ℕ) (ps : List (List Record)) → a < length ps → length (get_or ps a []) < slots
      → topped a (set ps a (get_or ps a [] ++ (record_in e ∷ []))) m ≡ topped a ps (e ∷ m)
  topped_one a [] l k = absurd (omega arith)
  topped_one (suc a) (p ∷ ps) l k = ap (λ (qs : List (List Record)). p ∷ qs) (topped_one a ps (omega arith) k)
  topped_one zero (p ∷ ps) l k =
      let n : slots - length (p ++ (record_in e ∷ [])) ≡ slots - suc (length p) = omega (arith, length-append p (record_in e ∷ [])) in
      let q : slots - length p ≡ suc (slots - suc (length p)) = omega arith in
      rw (n, q, append_assoc)

  hops_one : (a b : ℕ) (ps : List (List Record)) → a < length ps → length (get_or ps a []) < slots
      → one (not (eqb e.from (b + a))) + topped_hops a b (set ps a (get_or ps a [] ++ (record_in e ∷ []))) m ≡ topped_hops a b ps (e ∷ m)
  hops_one a b [] l k = absurd (omega arith)
  hops_one (suc a) b (p ∷ ps) l k = let q : b + suc a ≡ suc b + a = omega arith in rw q (hops_one a (suc b) ps (omega arith) k)
  hops_one zero b (p ∷ ps) l k =
      let n : slots - length (p ++ (record_in e ∷ [])) ≡ slots - suc (length p) = omega (arith, length-append p (record_in e ∷ [])) in
      let q : slots - length p ≡ suc (slots - suc (length p)) = omega arith in
      let z : b + 0 ≡ b = omega arith in
      rw (n, q, z) (omega arith)

-- a full page takes none
topped_full : (a : ℕ) (ps : List (List Record)) (m : List Entry) → slots ≤ length (get_or ps a []) → topped a ps m ≡ topped (suc a) ps m
topped_full a [] m k = refl
topped_full (suc a) (p ∷ ps) m k = ap (λ (qs : List (List Record)). p ∷ qs) (topped_full a ps m k)
topped_full zero (p ∷ ps) m k = let z : slots - length p ≡ 0 = omega arith in rw (z, append-nil)

hops_full : (a b : ℕ) (ps : List (List Record)) (m : List Entry) → slots ≤ length (get_or ps a []) → topped_hops a b ps m ≡ topped_hops (suc a) b ps m
hops_full a b [] m k = refl
hops_full (suc a) b (p ∷ ps) m k = hops_full a (suc b) ps m k
hops_full zero b (p ∷ ps) m k = let z : slots - length p ≡ 0 = omega arith in rw z (omega arith)

-- past the last page, or without an entry, nothing changes
topped_past : (a : ℕ) (ps : List (List Record)) (m : List Entry) → length ps ≤ a → topped a ps m ≡ ps
topped_past a [] m k = refl
topped_past zero (p ∷ ps) m k = absurd (omega arith)
topped_past (suc a) (p ∷ ps) m k = ap (λ (qs : List (List Record)). p ∷ qs) (topped_past a ps m (omega arith))

hops_past : (a b : ℕ) (ps : List (List Record)) (m : List Entry) → length ps ≤ a → topped_hops a b ps m ≡ 0
hops_past a b [] m k = refl
hops_past zero b (p ∷ ps) m k = absurd (omega arith)
hops_past (suc a) b (p ∷ ps) m k = hops_past a (suc b) ps m (omega arith)

drop_none : (n : ℕ) → ◌≡◌ {A = List Entry} (drop n []) []
drop_none zero = refl
drop_none (suc n) = refl

topped_none : (a : ℕ) (ps : List (List Record)) → topped a ps [] ≡ ps
topped_none a [] = refl
topped_none (suc a) (p ∷ ps) = ap (λ (qs : List (List Record)). p ∷ qs) (topped_none a ps)
topped_none zero (p ∷ ps) = rw (take-nil (slots - length p), drop_none (slots - length p), append-nil p, topped_none zero ps)

hops_none : (a b : ℕ) (ps : List (List Record)) → topped_hops a b ps [] ≡ 0
hops_none a b [] = refl
hops_none (suc a) b (p ∷ ps) = hops_none a (suc b) ps
hops_none zero b (p ∷ ps) = rw (take-nil (slots - length p), drop_none (slots - length p)) (omega (arith, hops_none zero (suc b) ps))

-- what holds between turns: the area is the bytes of some pages, of which those from a on are still to
-- take what is left of the row
pub record Topped (ps₀ : List (List Record)) (cap added : ℕ) (row area : List ℕ) (at moved a : ℕ) : Type 0 where
  pub ps : List (List Record)
  pub many : length ps ≡ cap
  pub is : area ≡ area_from in_use 0 ps
  pub few : (i : ℕ) → length (get_or ps i []) ≤ slots
  pub small : (i : ℕ) → All (Small in_use) (get_or ps i [])
  pub rest : topped a ps (left row at) ≡ topped added ps₀ (entries_in row)
  pub hopped : moved + topped_hops a 0 ps (left row at) ≡ topped_hops added 0 ps₀ (entries_in row)
  pub whole : Whole at row
  pub inside : at ≤ length row
  pub low : moved ≤ at
  pub within : a ≤ cap

pub topped_start : (cap added : ℕ) (row area : List ℕ) → length area ≡ 256 * cap → Bytes area → added ≤ cap → Whole 0 row → area ≡ area_from in_use 0 (held_from in_use area cap 0)
    → Topped (held_from in_use area cap 0) cap added row area 0 0 added
topped_start cap added row area l b k w f = record {
  ps = held_from in_use area cap 0;
  many = held_length in_use area cap 0;
  is = f;
  few = λ i. page_of (λ p. length p ≤ slots) i (omega arith) (λ r h. held_few in_use (part_at area r));
  small = λ i. page_of (All (Small in_use)) i tt (λ r h. part_small in_use area r (omega arith) b);
  rest = refl;
  hopped = omega arith;
  whole = w;
  inside = omega arith;
  low = omega arith;
  within = k;
}
  where
    page_of : (Q : List Record → Type 0) (i : ℕ) → Q [] → ((r : ℕ) → r < cap → Q (records_in in_use (part_at area r))) → Q (get_or (held_from in_use area cap 0) i [])
    page_of Q i z q = go (dec_lt i cap)
      where
        go : Dec (i < cap) → Q (get_or (held_from in_use area cap 0) i [])
        go (yes m) = rw (held_at area cap 0 i m, zero-add i) (q i m)
        go (no m) =
            let k : length (held_from in_use area cap 0) ≤ i = omega (arith, held_length in_use area cap 0) in
            rw (get_or-eq_default (held_from in_use area cap 0) [] k) z

module _ {ps₀ : List (List Record)} {cap added : ℕ} {row area : List ℕ} {at moved a : ℕ} (g : Topped ps₀ cap added row area at moved a) where
  -- the page in hand
  abbrev p : List Record
  p = get_or g.ps a []

  pub long : length area ≡ 256 * cap
  long = ap length g.is ∙ area_length in_use 0 g.ps ∙ rw g.many

  module _ (page_more : a < cap) (more : at < length row) (c : cap ≤ 4096) where
    pub entry_more : at + size ≤ length row
    entry_more = omega (arith, g.whole)

    part_is : part_at area a ≡ page_bytes in_use a p
    part_is = ap (λ (l : List ℕ). part_at l a) g.is ∙ part_area in_use a g.ps (omega (arith, g.many, page_more))

    pub holds : records_in in_use (part_at area a) ≡ p
    holds = rw part_is (records_bytes in_use a p (g.few a) (g.small a))

    pub page_inside : 256 * (a + 1) ≤ length area
    page_inside = omega (arith, long, page_more)

    pub formed_here : well_formed in_use a (part_at area a) ≡ true
    formed_here = rw part_is (page_formed in_use a p (g.few a) (g.small a) (omega (arith, page_more)))

    module _ (count : ℕ) (has : count ≡ length (records_in in_use (part_at area a))) where
      count_is : count ≡ length p
      count_is = has ∙ ap (λ (s : List Record). length s) holds

      -- one more on the page
      pub topped_turn : count < slots → Bytes row → (e : Entry) → e ≡ entry_at row at → (f : ℕ) → f ≡ one (not (eqb e.from a))
          → (new : List ℕ) → new ≡ with_page in_use area a (take slots (opened count e.held (records_in in_use (part_at area a)))) → Topped ps₀ cap added row new (at + size) (moved + f) a
      unfolding opened
      topped_turn k b e d f m new n =
          let first : left row at ≡ e ∷ left row (at + size) = left_first row at entry_more ∙ rw d in
          let low : length p < slots = omega (arith, count_is) in
          let in_ps : a < length g.ps = omega (arith, g.many, page_more) in
          let put : new ≡ area_from in_use 0 (set g.ps a q) = n ∙ rw (holds, count_is, page_now, g.is) (with_area in_use a g.ps q in_ps) in
          record {
            ps = set g.ps a q;
            many = length-set g.ps a q ∙ g.many;
            is = put;
            few = λ i. changed (λ s. length s ≤ slots) i (omega (arith, length-append p (e.held ∷ []))) (g.few i);
            small = λ i. changed (All (Small in_use)) i (all_append (Small in_use) p (e.held ∷ []) (g.small a) (rw d (entry_fits row at b entry_more).held, tt)) (g.small i);
            rest = topped_one e (left row (at + size)) a g.ps in_ps low ∙ rw first at g.rest;
            hopped = let z : 0 + a ≡ a = omega arith in omega (arith, rw z at (hops_one e (left row (at + size)) a 0 g.ps in_ps low), rw first at g.hopped, m);
            whole = omega (arith, g.whole, entry_more);
            inside = entry_more;
            low = omega (arith, g.low, m, one_few (not (eqb e.from a)));
            within = g.within;
          }
        where
          q : List Record
          q = p ++ (e.held ∷ [])

          page_now : take slots (take (length p) p ++ (e.held ∷ drop (length p) p)) ≡ q
          page_now = rw (take-length p, drop-length p) (take_all slots q (omega (arith, length-append p (e.held ∷ []), count_is)))

          changed : (Q : List Record → Type 0) (i : ℕ) → Q q → Q (get_or g.ps i []) → Q (get_or (set g.ps a q) i [])
          changed Q i x y = go (eqb a i) refl
            where
              go : (u : Bool) → eqb a i ≡ u → Q (get_or (set g.ps a q) i [])
              go true r = rw (← eqb-true a i r, get_or-set_same g.ps a q [] (omega (arith, g.many, page_more))) x
              go false r = rw (get_or-set_other g.ps a i q [] (λ e. eqb-false a i r (sym e))) y

      -- the next page
      pub topped_next : slots ≤ count → Topped ps₀ cap added row area at moved (a + 1)
      topped_next k = record {
        ps = g.ps;
        many = g.many;
        is = g.is;
        few = g.few;
        small = g.small;
        rest = rw (add-one, ← topped_full a g.ps (left row at) (omega (arith, count_is))) g.rest;
        hopped = rw (add-one, ← hops_full a 0 g.ps (left row at) (omega (arith, count_is))) g.hopped;
        whole = g.whole;
        inside = g.inside;
        low = g.low;
        within = omega (arith, page_more);
      }

  pub topped_end : (cap ≤ a) ⊎ (length row ≤ at) → (moved ≡ topped_hops added 0 ps₀ (entries_in row)) × (area ≡ area_from in_use 0 (topped added ps₀ (entries_in row)))
  topped_end (inl l) =
      let k : length g.ps ≤ a = omega (arith, g.many) in
      (omega (arith, rw (hops_past a 0 g.ps (left row at) k) at g.hopped), g.is ∙ rw (← g.rest, topped_past a g.ps (left row at) k))
  topped_end (inr l) =
      let z = left_none row at l in
      (omega (arith, rw (z, hops_none a 0 g.ps) at g.hopped), g.is ∙ rw (← g.rest, z, topped_none a g.ps))
