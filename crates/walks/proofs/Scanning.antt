-- The slots of a page, one by one, on the way to a key: what is left of them decides, and where the
-- scan leaves them.
use mathlib.Core.Path.{◌≡◌, refl, sym, ap, ◌∙◌}
use mathlib.Core.Bool.{Bool, true, false, ◌||◌, false≢true}
use mathlib.Core.Option.{none, some}
use mathlib.Core.List.{List, [], ◌∷◌}
use Prim.Native.Nat.{ℕ, suc, ◌+◌, ◌^◌, ◌≤◌, ◌<◌}
use native.Mathlib.Numerals.{add-one}
use native.Mathlib.Omega.{arith}
use borrow.Author.Tests.{ltb-true, ltb-false, eqb-true, eqb-false, lt-leb, le-leb, eq-eqb, ne_eqb}
use lib.Dec.{eqb, ltb}
use lib.ListN.{length, drop, get_or, drop_of_length-le}
use lib.Seq.{drop-cons}
use Rattle.placing.specs.Image.{All}
use Rattle.placing.specs.Lay.{rank_of, rank_in, ranked, Sorted}
use Rattle.placing.proofs.Lists.{all_get_d}
use Rattle.placing.proofs.Order.{sorted_drop, lower}
use Rattle.pages.specs.declared.Judged.{Judged}
use Rattle.pages.specs.Page.{Record, key, value, vacant, judged_page}
use Rattle.pages.specs.Places.{ahead}
use Rattle.pages.proofs.Judging.{judged_count, judged_key, judged_home}
use Rattle.walks.specs.Walks.{held_at}

module _ (h : ℕ → ℕ) (k : ℕ) where
  -- these stand after the sought (home, key)
  abbrev pub After : List Record → Type 0
  After s = All (λ y. rank_of h k < rank_in key h y) s

  -- none of them holds the key
  after_held : (i : ℕ) (s : List Record) → After s → held_at k i s ≡ none
  after_held i [] f = refl
  after_held i (x ∷ s) f = rw (ne_eqb (key x) k (λ e. omega (arith, f.0, ap (rank_of h) e))) (after_held (suc i) s f.1)

  -- and none of them stands before it
  after_ahead : (s : List Record) → After s → ahead (rank_in key h) (rank_of h k) s ≡ 0
  after_ahead [] f = refl
  after_ahead (x ∷ s) f = rw (le-leb (rank_of h k) (rank_in key h x) (omega (arith, f.0)))

  -- no record is left after the last
  pub after_last : (rs : List Record) (i : ℕ) → length rs ≤ i → After (drop i rs)
  after_last rs i l = rw (drop_of_length-le rs {i = i} l) tt

  -- from slot i on, what is left of a page's records tells where the key is held, and where its
  -- place is
  pub record ToScan (rs : List Record) (i : ℕ) : Type 0 where
    pub upto : i ≤ length rs
    pub held : held_at k i (drop i rs) ≡ held_at k 0 rs
    pub place : i + ahead (rank_in key h) (rank_of h k) (drop i rs) ≡ ahead (rank_in key h) (rank_of h k) rs

  module _ {rs : List Record} {i : ℕ} (w : ToScan rs i) where
    -- the record of the slot
    abbrev x : Record
    x = get_or rs i vacant

    -- where it stands before the sought, it is passed
    left_on : i < length rs → rank_in key h x < rank_of h k → ToScan rs (i + 1)
    left_on l b =
        let rest = drop-cons rs i vacant l in
        let other = ne_eqb (key x) k (λ e. omega (arith, ap (rank_of h) e)) in
        let low = lt-leb (rank_of h k) (rank_in key h x) b in
        let on : i + suc (ahead (rank_in key h) (rank_of h k) (drop (suc i) rs)) ≡ ahead (rank_in key h) (rank_of h k) rs = rw (rest, low) at w.place in
        record { upto = omega arith; held = rw add-one (rw (rest, other) at w.held); place = rw (add-one i) (omega (arith, on)) }

    -- with the key it ends the scan
    left_hit : i < length rs → key x ≡ k → held_at k 0 rs ≡ some (i, value x)
    left_hit l e = sym w.held ∙ rw (drop-cons rs i vacant l, eq-eqb (key x) k e)

    -- where all that are left stand after the sought, no slot holds the key, and this is its place
    pub left_away : After (drop i rs) → held_at k 0 rs ≡ none
    left_away f = sym w.held ∙ after_held i (drop i rs) f

    pub left_place : After (drop i rs) → i ≡ ahead (rank_in key h) (rank_of h k) rs
    left_place f = omega (arith, w.place, after_ahead (drop i rs) f)

-- a page that was judged, whose records rise
pub record Rows (h : ℕ → ℕ) (rs : List Record) (j : Judged) : Type 0 where
  pub is : j ≡ judged_page h rs
  pub small : All (λ x. key x < 2 ^ 64) rs
  pub rising : Sorted (rank_in key h) rs

-- the test of slot i on the way to the key k, which lives at a home: t tells whether its record
-- stands after the sought
pub record Tested (h : ℕ → ℕ) (rs : List Record) (j : Judged) (k home i : ℕ) (t : Bool) : Type 0 where
  pub rows : Rows h rs j
  pub left : ToScan h k rs i
  pub small : k < 2 ^ 64
  pub lives : home ≡ h k
  pub told : t ≡ ltb (ranked home k) (ranked (get_or j.homes i 0) (get_or j.keys i 0))

module _ {h : ℕ → ℕ} {rs : List Record} {j : Judged} {k home i : ℕ} {t : Bool} (w : Tested h rs j k home i t) where
  -- the page has as many records as it counts, and the slot is no further
  counts : j.count ≡ length rs
  counts = judged_count h j rs w.rows.is

  slot_upto : i ≤ j.count
  slot_upto = omega (arith, counts, w.left.upto)

  -- a record in the slot is told by its rank
  told_rank : i < j.count → t ≡ ltb (rank_of h k) (rank_in key h (get_or rs i vacant))
  told_rank l = rw (← w.lives, ← judged_home h j rs w.rows.is i l, ← judged_key h j rs w.rows.is i l) w.told

  -- where it is unused or stands after the sought, so do all that are left
  pub slot_after : (eqb i j.count || t) ≡ true → After h k (drop i rs)
  slot_after q = go (eqb i j.count) t refl refl q
    where
      go : (u v : Bool) → eqb i j.count ≡ u → t ≡ v → (u || v) ≡ true → After h k (drop i rs)
      go true v a b c = after_last h k rs i (omega (arith, counts, eqb-true i j.count a))
      go false true a b c =
          let l : i < length rs = omega (arith, counts, slot_upto, eqb-false i j.count a) in
          let rest = drop-cons rs i vacant l in
          let up = rw rest at (sorted_drop (rank_in key h) i rs w.rows.rising) in
          let above = ltb-true (rank_of h k) (rank_in key h (get_or rs i vacant)) (sym (told_rank (omega (arith, counts))) ∙ b) in
          rw rest (lower (rank_in key h) (rank_of h k) (get_or rs i vacant) (drop (suc i) rs) up above)
      go false false a b c = absurd (false≢true c)

  -- where it is neither, a record stands there
  pub slot_used : (eqb i j.count || t) ≡ false → i < j.count
  slot_used q = go (eqb i j.count) refl q
    where
      go : (u : Bool) → eqb i j.count ≡ u → (u || t) ≡ false → i < j.count
      go true a c = absurd (false≢true (sym c))
      go false a c = omega (arith, slot_upto, eqb-false i j.count a)

  -- with the key it ends the scan
  pub slot_hit : (eqb i j.count || t) ≡ false → get_or j.keys i 0 ≡ k → (v : ℕ) → v ≡ value (get_or rs i vacant) → held_at k 0 rs ≡ some (i, v)
  slot_hit q e v is =
      let l : i < j.count = slot_used q in
      rw is (left_hit h k w.left (omega (arith, counts)) (sym (judged_key h j rs w.rows.is i l) ∙ e))

  -- with another it stands before the sought, and is passed
  pub slot_on : (eqb i j.count || t) ≡ false → (get_or j.keys i 0 ≡ k → ⊥) → ToScan h k rs (i + 1)
  slot_on q n =
      let l : i < j.count = slot_used q in
      let r : Record = get_or rs i vacant in
      let low = ltb-false (rank_of h k) (rank_in key h r) (sym (told_rank l) ∙ go (eqb i j.count) t q) in
      let fits = all_get_d (λ x. key x < 2 ^ 64) i rs vacant w.rows.small (omega arith) in
      let other : (key r ≡ k → ⊥) = λ e. n (judged_key h j rs w.rows.is i l ∙ e) in
      left_on h k w.left (omega (arith, counts)) (omega (arith, low, other, w.small, fits))
    where
      go : (u v : Bool) → (u || v) ≡ false → v ≡ false
      go true v c = absurd (false≢true (sym c))
      go false v c = c
