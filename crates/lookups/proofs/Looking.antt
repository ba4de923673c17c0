-- The turns of a search: over a page's records, over the pages, and by halves.
use mathlib.Core.Path.{◌≡◌, refl, sym, ap, ◌∙◌}
use mathlib.Core.Bool.{Bool, true, false, cond, not}
use Rattle.std.specs.Prelude.{Option as Optional, Some, None}
use mathlib.Core.Option.{Option, none, some}
use mathlib.Core.List.{List, [], ◌∷◌}
use Prim.Native.Nat.{ℕ, zero, suc, ◌+◌, ◌-◌, ◌*◌, ◌^◌, ◌≤◌, ◌<◌}
use native.Mathlib.Numerals.{add-one}
use native.Mathlib.Nat.{sub-zero, add-zero, zero-add}
use native.Mathlib.Omega.{arith}
use native.Mathlib.Decide.{dec_le}
use borrow.Author.Tests.{ne_eqb, lt-ltb, le-ltb}
use lib.Dec.{eqb, ltb}
use lib.ListN.{length, drop, get_or}
use lib.Seq.{drop-cons}
use Rattle.numbers.specs.Little.{Bytes}
use Rattle.layouts.specs.Layout.{Layout, slots_of, slot_at}
use Rattle.layouts.proofs.Lying.{slots_few}
use Rattle.placing.specs.Image.{All, cat, page}
use Rattle.placing.specs.Lay.{ranked, rank_of, rank_in}
use Rattle.placing.specs.Walks.{or_else, seek, ends_on, find_in}
use Rattle.placing.proofs.Lists.{all_append}
use Rattle.placing.proofs.Rank.{seek-key}
use Rattle.pages.specs.declared.view.Pages.{Pages}
use Rattle.pages.specs.Page.{Record, key, rank, record_in, records_from, records_in, count_in}
use Rattle.pages.specs.Area.{part_at, held_from}
use Rattle.pages.proofs.Read.{length_held, held_at}
use Rattle.pages.proofs.Bounds.{keys_small}
use Rattle.pages.proofs.Areas.{held_length}
use Rattle.lookups.specs.Steps.Told.{told, held_by}
use Rattle.lookups.specs.Steps.Skips.{last_before, passes_on, Imaged, find_from, passes_at, Unpassed}
use Rattle.lookups.proofs.Passing.{ends_unpassed, image_passes, image_skips}

pub by_told : (o : Option Record) → held_by (told o) ≡ o
by_told none = refl
by_told (some x) = refl

-- a page's records from slot i on
module _ (f : Layout) (l : List ℕ) (k count : ℕ) (c : count ≡ count_in f l) where
  -- the key isn't among the first i
  abbrev pub Sifted : ℕ → Type 0
  Sifted i = seek key k (records_from f (count - i) i l) ≡ seek key k (records_in f l)

  pub sifted_none : Sifted 0
  unfolding records_in
  sifted_none = rw (sub-zero, c)

  pub sifted_on : (i : ℕ) → Sifted i → i < count → (x : Record) → x ≡ record_in f l (slot_at f i) → (key x ≡ k → ⊥) → Sifted (i + 1)
  sifted_on i w h x e g =
      let n : count - i ≡ suc (count - suc i) = omega arith in
      let t : cond (eqb (key x) k) (some x) (seek key k (records_from f (count - suc i) (suc i) l)) ≡ seek key k (records_in f l) = rw e (rw n at w) in
      rw add-one (rw (ne_eqb (key x) k g) at t)

-- the last of a page's records decides
last_at : (rank : Record → ℕ) (r : ℕ) (n : ℕ) (s : List Record) (d : Record) → length s ≡ suc n → last_before rank r s ≡ ltb (rank (get_or s n d)) r
last_at rank r n [] d e = absurd (omega arith)
last_at rank r zero (x ∷ []) d e = refl
last_at rank r (suc n) (x ∷ []) d e = absurd (omega arith)
last_at rank r zero (x ∷ (y ∷ s)) d e = absurd (omega arith)
last_at rank r (suc n) (x ∷ (y ∷ s)) d e = last_at rank r n (y ∷ s) d (omega arith)

module _ (f : Layout) (h : ℕ → ℕ) (l : List ℕ) (r count : ℕ) (c : count ≡ count_in f l) where
  pub passes_short : count < slots_of f → false ≡ passes_on (rank h) (slots_of f) r (records_in f l)
  passes_short m = rw (length_held f l, ← c, lt-ltb count (slots_of f) m)

  pub passes_last : slots_of f ≤ count → 1 ≤ slots_of f → (x : Record) → x ≡ record_in f l (slot_at f (slots_of f - 1)) → (home : ℕ) → home ≡ h (key x)
      → (u : Bool) → u ≡ ltb (ranked home (key x)) r → u ≡ passes_on (rank h) (slots_of f) r (records_in f l)
  passes_last m p x e home is u v =
      let full : count_in f l ≡ slots_of f = omega arith in
      let at : ltb (rank h x) r ≡ ltb (rank h (get_or (records_in f l) (slots_of f - 1) x)) r = ap (λ (y : Record). ltb (rank h y) r) (e ∙ sym (held_at f l (slots_of f - 1) x (omega arith))) in
      rw (length_held f l, le-ltb (count_in f l) (slots_of f) (omega arith)) (rw is at v ∙ at ∙ sym (last_at (rank h) r (slots_of f - 1) (records_in f l) x (omega (arith, length_held f l))))

module _ (f : Layout) (area : List ℕ) where
  -- whether the page that was looked at is passed
  pub passes_here : (h : ℕ → ℕ) (a : ℕ) (l : List ℕ) → l ≡ part_at area a → (home k : ℕ) (u : Bool) → u ≡ passes_on (rank h) (slots_of f) (ranked home k) (records_in f l) → home ≡ h k
      → u ≡ passes_on (rank_in key h) (slots_of f) (rank_of h k) (records_in f (part_at area a))
  passes_here h a l p home k u v e = v ∙ rw (p, e)

  held_from_lem : (m n a : ℕ) → drop m (held_from f area (m + n) a) ≡ held_from f area n (a + m)
  held_from_lem zero n a = rw (add-zero a, zero-add n)
  held_from_lem (suc m) n a =
      let e : suc a + m ≡ a + suc m = omega arith in
      let d : suc m + n ≡ suc (m + n) = omega arith in
      rw (← e, d) (held_from_lem m n (suc a))

  -- the pages from a on are those that are left of all
  left_from : (cap a : ℕ) → a ≤ cap → drop a (held_from f area cap 0) ≡ held_from f area (cap - a) a
  left_from cap a m =
      let n : a + (cap - a) ≡ cap = omega arith in
      rw (n, zero-add a) at (held_from_lem a (cap - a) 0)

  -- and the first of them is page a
  page_at : (cap a : ℕ) → a < cap → page (held_from f area cap 0) a ≡ records_in f (part_at area a)
  page_at cap a m =
      let n : cap - a ≡ suc (cap - suc a) = omega arith in
      let t : drop a (held_from f area cap 0) ≡ records_in f (part_at area a) ∷ held_from f area (cap - suc a) (suc a) = rw n at (left_from cap a (omega arith)) in
      let d = drop-cons (held_from f area cap 0) a [] (omega (arith, held_length f area cap 0)) in
      cc

  -- keys of any bytes are of 64 bits
  keys_held : Bytes area → (n a : ℕ) → 256 * (a + n) ≤ length area → All (λ x. key x < 2 ^ 64) (cat (held_from f area n a) [])
  keys_held b zero a h = tt
  keys_held b (suc n) a h =
      all_append (λ x. key x < 2 ^ 64) (records_in f (part_at area a)) (cat (held_from f area n (suc a)) []) (keys_small f area a (omega arith) b) (keys_held b n (suc a) (omega arith))

  -- the search has come to page a
  abbrev pub Come : (h : ℕ → ℕ) (cap k a : ℕ) → Type 0
  Come h cap k a = find_from f area h cap k a ≡ find_in key h (slots_of f) k (held_from f area cap 0)

module _ (f : Layout) (pages : Pages) (h : ℕ → ℕ) (k : ℕ) where
  abbrev area : List ℕ
  area = pages.bytes.now

  abbrev cap : ℕ
  cap = pages.cap

  keys : All (λ x. key x < 2 ^ 64) (cat (held_from f area cap 0) [])
  keys = keys_held f area pages.small cap 0 (omega (arith, pages.whole))

  -- up to a page that is passed, from the home on, all are passed
  pub passes_below : (j mid : ℕ) → Imaged f area h cap → h k ≤ j → j ≤ mid → mid < cap → passes_at f area h cap k mid ≡ true → passes_at f area h cap k j ≡ true
  passes_below j mid i g m n e =
      rw (page_at f area cap j (omega arith)) at (image_passes key h (slots_of f) i keys (slots_few f).0 k j mid g m (rw (page_at f area cap mid n) e))

  pub come_home : (a : ℕ) → a ≡ h k → a ≤ cap → Come f area h cap k a
  come_home a e m = rw (← e, left_from f area cap a m)

  -- and goes on to the first page that it doesn't pass
  pub come_unpassed : (a r : ℕ) → Come f area h cap k a → h k ≤ a → Imaged f area h cap → Unpassed f area h cap k a r → Come f area h cap k r
  come_unpassed a r w g i u = go (dec_le r a)
    where
      go : Dec (r ≤ a) → Come f area h cap k r
      go (yes m) =
          let e : a ≡ r = omega (arith, u.after) in
          rw e at w
      go (no m) =
          let n : suc (r - 1) ≡ r = omega arith in
          let e = u.before (r - 1) (omega arith) (omega arith) in
          let t = image_skips key h (slots_of f) i keys (slots_few f).0 k a (r - 1) g (omega arith) (rw (page_at f area cap (r - 1) (omega (arith, u.within))) e) in
          let q : find_from f area h cap k a ≡ find_from f area h cap k r = rw (n, left_from f area cap a (omega (arith, u.within)), left_from f area cap r u.within) at t in
          sym q ∙ w

  -- what was found on that page, or not
  module _ (a : ℕ) (w : Come f area h cap k a) (m : a < cap) (small : k < 2 ^ 64) (l : List ℕ) (p : l ≡ part_at area a) (here : Optional Record)
      (t : here ≡ told (seek key k (records_in f l))) where
    abbrev rs : List Record
    rs = records_in f (part_at area a)

    by_key : seek (rank_in key h) (rank_of h k) rs ≡ held_by here
    by_key = seek-key key h k rs small (keys_small f area a (omega (arith, pages.whole)) pages.small) ∙ rw (t, p) (sym (by_told (seek key k rs)))

    turn : or_else (held_by here) (cond (ends_on (rank_in key h) (slots_of f) (rank_of h k) rs) none (find_from f area h cap k (a + 1)))
        ≡ find_in key h (slots_of f) k (held_from f area cap 0)
    turn =
        let n : cap - a ≡ suc (cap - (a + 1)) = omega arith in
        rw (← by_key, add-one a) (rw (n, add-one a) at w)

    pub come_held : (x : Record) → here ≡ Some x → Some x ≡ told (find_in key h (slots_of f) k (held_from f area cap 0))
    come_held x e = let z = rw e at turn in rw (← z)

    module _ (e : here ≡ None) (home : ℕ) (at_home : home ≡ h k) (u : Bool) (v : u ≡ passes_on (rank h) (slots_of f) (ranked home k) (records_in f l)) where
      rest : cond (not u) none (find_from f area h cap k (a + 1)) ≡ find_in key h (slots_of f) k (held_from f area cap 0)
      rest =
          let x = ends_unpassed (rank_in key h) (slots_of f) (rank_of h k) rs (slots_few f).0 (by_key ∙ ap held_by e) in
          rw (passes_here f area h a l p home k u v at_home, ← x) (rw e at turn)

      pub come_ends : u ≡ false → None ≡ told (find_in key h (slots_of f) k (held_from f area cap 0))
      come_ends q = let z = rw q at rest in rw (← z)

      pub come_on : u ≡ true → Come f area h cap k (a + 1)
      come_on q = rw q at rest
