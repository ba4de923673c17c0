-- Sorted entries laid on the pages from below: a page ends at or below the first entry that is not
-- yet read.
use mathlib.Core.Path.{◌≡◌, refl, sym, ap, ◌∙◌}
use mathlib.Core.Bool.{Bool, true, false, cond, not}
use mathlib.Core.List.{List, [], ◌∷◌, ◌++◌, map, append_assoc, append-nil}
use Prim.Native.Nat.{ℕ, zero, suc, ◌+◌, ◌-◌, ◌*◌, ◌/◌, ◌^◌, ◌≤◌, ◌<◌, min}
use native.Mathlib.Numerals.{add-one}
use native.Mathlib.Omega.{arith}
use borrow.Author.Tests.{leb-false}
use lib.Dec.{leb, eqb}
use lib.ListN.{length, take, drop, length-map, length-take, length-drop}
use lib.Seq.{take_all, drop-drop}
use Rattle.numbers.specs.Little.{written}
use Rattle.numbers.proofs.Laws.{written-length, written_front, written_after}
use Rattle.layouts.specs.Layout.{in_use}
use Rattle.placing.specs.Image.{All}
use Rattle.placing.specs.Lay.{one, up_to, lay, taken, Sorted}
use Rattle.placing.proofs.Lists.{all_map, up_to_none, none_of_length, count-le}
use Rattle.placing.proofs.Order.{sorted_drop}
use Rattle.placing.proofs.Laid.{over, laid}
use Rattle.placing.proofs.Taken.{packed_taken}
use Rattle.pages.specs.Page.{Record, page_bytes, in_memory}
use Rattle.pages.specs.Steps.Slots.{records_of}
use Rattle.pages.specs.Area.{area_from, with_page}
use Rattle.pages.proofs.Memory.{memory}
use Rattle.pages.proofs.Write.{page_length}
use Rattle.pages.proofs.Read.{ready}
use Rattle.entries.specs.declared.Entry.{Entry}
use Rattle.entries.specs.Steps.Entries.{size, entries_in, rank, home}
use Rattle.rebuild.specs.declared.Took.{Took}
use Rattle.rebuild.specs.Steps.Rebuild.{slots, record_in, fitting, hops, hops_from, took}
use Rattle.entries.proofs.Reading.{Whole, left_length, left_behind}
use Rattle.rebuild.proofs.Take.{fitting_few, fitting-length}

-- in a rank the home counts most
pub home_first : (x y : Entry) → rank x ≤ rank y → home x ≤ home y
home_first x y h = omega arith

-- homes rise, so a page takes all that may lie on it, as far as it has slots
fitting_sorted : (b a : ℕ) (es : List Entry) → Sorted rank es → fitting b a es ≡ min b (up_to home a es)
fitting_sorted zero a es h = omega arith
fitting_sorted (suc b) a [] h = omega arith
fitting_sorted (suc b) a (e ∷ es) h = go (leb (home e) a) refl (fitting_sorted b a es h.1)
  where
    go : (t : Bool) → leb (home e) a ≡ t → fitting b a es ≡ min b (up_to home a es)
        → cond t (suc (fitting b a es)) 0 ≡ min (suc b) (one t + up_to home a es)
    go true l ih = omega arith
    go false l ih =
        let far : a < home e = leb-false (home e) a l in
        let hi : All (λ w. a < home w) es = all_map (λ w. rank e < rank w) (λ w. a < home w) (λ w m. omega (arith, home_first e w (omega arith))) es h.0 in
        omega (arith, up_to_none home a es hi)

-- where all can be taken, nothing is left over
none_over : (n : ℕ) (es : List Entry) → Sorted rank es → taken home slots es n ≡ length es → over home slots n 0 es ≡ []
none_over n es h e =
    let g = laid rank home slots home_first n 0 es h in
    let m = rw (g.whole, g.many) at (packed_taken home slots (lay home slots n 0 es) (over home slots n 0 es) g.packed) in
    none_of_length (over home slots n 0 es) (omega (arith, m, e))

-- so there are no more than twelve for each page
over_few : (n a : ℕ) (es : List Entry) → over home slots n a es ≡ [] → length es ≤ slots * n
over_few zero a es e = omega (arith, ap length e)
over_few (suc n) a es e =
    let k : ℕ = min slots (up_to home a es) in
    omega (arith, length-drop k es, over_few n (suc a) (drop k es) e)

-- what stands from beyond the end of a write on is what stood there
written_beyond : (l : List ℕ) (at : ℕ) (v : List ℕ) (k : ℕ) → at ≤ length l → at + length v ≤ k → drop k (written l at v) ≡ drop k l
written_beyond l at v k h le =
    let j : ℕ = k - (at + length v) in
    let e : at + length v + j ≡ k = omega arith in
    rw (← e, ← drop-drop j (at + length v) (written l at v), written_after l at v h, drop-drop)

-- what holds between pages
pub record Unpacking (first : List ℕ) (cap base : ℕ) (area : List ℕ) (moved at a : ℕ) : Type 0 where
  pub pages : take (256 * a) area ++ area_from in_use a (map (map record_in) (lay home slots (cap - a) a (entries_in (drop at area))))
      ≡ area_from in_use 0 (map (map record_in) (lay home slots cap 0 (entries_in (drop base first))))
  pub hopped : moved + hops_from a (lay home slots (cap - a) a (entries_in (drop at area))) ≡ hops_from 0 (lay home slots cap 0 (entries_in (drop base first)))
  pub sorted : Sorted rank (entries_in (drop at area))
  pub room : over home slots (cap - a) a (entries_in (drop at area)) ≡ []
  pub long : length area ≡ 256 * cap
  pub whole : Whole at area
  pub within : at ≤ length area
  pub below : a ≤ cap
  pub few : moved ≤ slots * a

pub unpacking_start : (area : List ℕ) (cap base : ℕ) → length area ≡ 256 * cap → base ≤ 256 * cap → 256 * cap ≡ base + size * ((256 * cap - base) / size)
    → Sorted rank (entries_in (drop base area)) → taken home slots (entries_in (drop base area)) cap ≡ length (entries_in (drop base area))
    → Unpacking area cap base area 0 base 0
unpacking_start area cap base l h w s t =
    let z : cap - 0 ≡ cap = omega arith in
    record {
      pages = rw z;
      hopped = rw z (omega arith);
      sorted = s;
      room = rw z (none_over cap (entries_in (drop base area)) s t);
      long = l;
      whole = omega arith;
      within = omega arith;
      below = omega arith;
      few = omega arith;
    }

-- a page that was taken holds twelve at most, and can be stored
took_ready : (a at : ℕ) (es : List Entry) (t : Took) → t ≡ took a at es → (t.page.count ≤ 12) × (t.page ≡ in_memory (records_of t.page))
took_ready a at es t e =
    ready t.page (map record_in (take (fitting slots a es) es)) (ap (λ (u : Took). u.page) e)
    (rw (length-map, length-take) (omega (arith, fitting_few slots a es)))

took-page : (a at : ℕ) (es : List Entry) (t : Took) → t ≡ took a at es → records_of t.page ≡ map record_in (take (fitting slots a es) es)
took-page a at es t e = ap (λ (u : Took). records_of u.page) e ∙ memory (map record_in (take (fitting slots a es) es))

hops_taken : (a : ℕ) (es : List Entry) → hops a (take (fitting slots a es) es) ≤ slots
hops_taken a es = omega (arith, count-le (λ e. not (eqb e.from a)) (take (fitting slots a es) es), length-take (fitting slots a es) es, fitting_few slots a es)

-- the area with page a written: what stands before its end, and the entries from beyond its end on
pub with_front : (area : List ℕ) (a : ℕ) (p : List Record) → 256 * (a + 1) ≤ length area → take (256 * (a + 1)) (with_page in_use area a p) ≡ take (256 * a) area ++ page_bytes in_use a p
with_front area a p h =
    let n : 256 * (a + 1) ≡ 256 * a + length (page_bytes in_use a p) = omega (arith, page_length in_use a p) in
    rw n (written_front area (256 * a) (page_bytes in_use a p) (omega arith))

pub with_beyond : (area : List ℕ) (a : ℕ) (p : List Record) (k : ℕ) → 256 * (a + 1) ≤ length area → 256 * (a + 1) ≤ k → drop k (with_page in_use area a p) ≡ drop k area
with_beyond area a p k h m = written_beyond area (256 * a) (page_bytes in_use a p) k (omega arith) (omega (arith, page_length in_use a p))

module _ {first : List ℕ} {cap base : ℕ} {area : List ℕ} {moved at a : ℕ} (h : Unpacking first cap base area moved at a) where
  -- the entries that are left, and how many of them page a takes
  abbrev left : List Entry
  left = entries_in (drop at area)

  abbrev here : ℕ
  here = fitting slots a left

  module _ (more : a < cap) where
    onward : cap - a ≡ suc (cap - suc a)
    onward = omega arith

    -- page a is as it was laid out, and so are those after it
    here_laid : lay home slots (cap - a) a left ≡ take here left ∷ lay home slots (cap - suc a) (suc a) (drop here left)
    here_laid = rw (onward, fitting_sorted slots a left h.sorted)

    room_after : over home slots (cap - suc a) (suc a) (drop here left) ≡ []
    room_after = rw (fitting_sorted slots a left h.sorted) (rw onward at h.room)

    -- page a ends where the next entry stands, or below
    clear : 256 * (a + 1) ≤ at + size * here
    clear = omega (
      arith,
      h.long,
      h.whole,
      h.within,
      left_length area at,
      length-drop here left,
      over_few (cap - suc a) (suc a) (drop here left) room_after,
    )

    onto : at + size * here ≤ length area
    onto = omega (arith, h.whole, left_length area at, fitting-length slots a left)

    inside : 256 * (a + 1) ≤ length area
    inside = omega (arith, h.long)

    module _ (t : Took) (e : t ≡ took a at left) where
      -- page a can be stored
      pub storable : cap ≤ 4096 → (a < 4096) × (256 * (a + 1) ≤ length area) × (t.page.count ≤ 12) × (t.page ≡ in_memory (records_of t.page))
      storable c =
          let r = took_ready a at left t e in
          (omega arith, inside, r.0, r.1)

      pub moved_fits : cap ≤ 4096 → moved + t.moved < 2 ^ 32
      moved_fits c = omega (arith, h.few, ap (λ (u : Took). u.moved) e, hops_taken a left)

      pub unpacking_turn : (new : List ℕ) → new ≡ with_page in_use area a (records_of t.page) → Unpacking first cap base new (moved + t.moved) t.next (a + 1)
      unpacking_turn new w = record {
        pages = rw (front, rest, add-one, append_assoc) (rw here_laid at h.pages);
        hopped = rw (rest, add-one, hop) (omega (arith, rw here_laid at h.hopped));
        sorted = rw rest (sorted_drop rank here left h.sorted);
        room = rw (rest, add-one) room_after;
        long = same ∙ h.long;
        whole = omega (arith, same, next, h.whole, onto);
        within = omega (arith, same, next, onto);
        below = omega arith;
        few = omega (arith, h.few, hop, hops_taken a left);
      }
        where
          p : List Record
          p = map record_in (take here left)

          put : new ≡ with_page in_use area a p
          put = w ∙ ap (with_page in_use area a) (took-page a at left t e)

          next : t.next ≡ at + size * here
          next = ap (λ (u : Took). u.next) e

          hop : t.moved ≡ hops a (take here left)
          hop = ap (λ (u : Took). u.moved) e

          front : take (256 * (a + 1)) new ≡ take (256 * a) area ++ page_bytes in_use a p
          front = ap (take (256 * (a + 1))) put ∙ with_front area a p inside

          rest : entries_in (drop t.next new) ≡ drop here left
          rest = rw (next, put, with_beyond area a p (at + size * here) inside clear) (sym (left_behind area at here onto))

          same : length new ≡ length area
          same = ap length put ∙ written-length area (256 * a) (page_bytes in_use a p) (omega (arith, page_length in_use a p, inside))

  -- after the last page
  module _ (end : cap ≤ a) where
    pub unpacked : area ≡ area_from in_use 0 (map (map record_in) (lay home slots cap 0 (entries_in (drop base first))))
    unpacked =
        let z : cap - a ≡ 0 = omega arith in
        sym (take_all (256 * a) area (omega (arith, h.long))) ∙ sym (append-nil (take (256 * a) area)) ∙ rw z at h.pages

    pub unpacked_moved : moved ≡ hops_from 0 (lay home slots cap 0 (entries_in (drop base first)))
    unpacked_moved =
        let z : cap - a ≡ 0 = omega arith in
        omega (arith, rw z at h.hopped)
