-- The records counted by home: one by one on a page, page by page in an area; and what the counts
-- leave over.
use mathlib.Core.Path.{◌≡◌, refl, sym, ap, ◌∙◌}
use mathlib.Core.Bool.{Bool, true, false}
use mathlib.Core.List.{List, [], ◌∷◌, ◌++◌, map, map-append}
use Prim.Native.Nat.{ℕ, suc, ◌+◌, ◌*◌, ◌-◌, ◌≤◌, ◌<◌}
use native.Mathlib.Nat.{zero-add}
use native.Mathlib.Decide.{dec_lt}
use native.Mathlib.Numerals.{add-one}
use native.Mathlib.Omega.{arith}
use lib.Dec.{ltb, eqb}
use lib.ListN.{length, get_or, take, replicate, length-take, length-set, length-replicate, get_or-replicate, length-append, length-map, get_or-eq_default}
use lib.Seq.{set_out, get_or-set_same, get_or-set_other, set-set, take-append_seam, take-suc, ext_get_or}
use borrow.Author.Tests.{ltb-true, ltb-false, eqb-true, eqb-false}
use Rattle.layouts.specs.Layout.{Layout}
use Rattle.placing.specs.Image.{cat}
use Rattle.placing.specs.Lay.{one}
use Rattle.placing.specs.Rows.{at_home, counts}
use Rattle.placing.proofs.Rows.{counts-length, counts_at}
use Rattle.placing.proofs.Lists.{count-le}
use Rattle.pages.specs.declared.Judged.{Judged}
use Rattle.pages.specs.Page.{Record, home_for, records_in, judged_page}
use Rattle.pages.specs.Area.{part_at, held_from}
use Rattle.pages.proofs.Read.{held_twelve}
use Rattle.pages.proofs.Write.{zeros}
use Rattle.survey.specs.Steps.Looks.{added, tallied}

-- one more at a place is one more there alone
one_more : (row : List ℕ) (j k : ℕ) → k < length row → get_or (added row j 1) k 0 ≡ get_or row k 0 + one (eqb j k)
one_more row j k l = go (eqb j k) refl
  where
    go : (u : Bool) → eqb j k ≡ u → get_or (added row j 1) k 0 ≡ get_or row k 0 + one u
    go true e = rw (eqb-true j k e) (get_or-set_same row k (get_or row k 0 + 1) 0 l)
    go false e = get_or-set_other row j k (get_or row j 0 + 1) 0 (λ q. eqb-false j k e (sym q)) ∙ omega arith

-- a tally leaves the row as long as it is
pub tally_length : (hs row : List ℕ) → length (tallied hs row) ≡ length row
tally_length [] row = refl
tally_length (j ∷ hs) row = tally_length hs (added row j 1) ∙ length-set row j (get_or row j 0 + 1)

-- an empty row has no place for them
pub tally_none : (hs row : List ℕ) → length row ≡ 0 → row ≡ tallied hs row
tally_none [] row e = refl
tally_none (j ∷ hs) [] e = tally_none hs [] e
tally_none (j ∷ hs) (n ∷ row) e = absurd (omega arith)

-- some homes, and then others
pub tally_append : (hs gs row : List ℕ) → tallied (hs ++ gs) row ≡ tallied gs (tallied hs row)
tally_append [] gs row = refl
tally_append (j ∷ hs) gs row = tally_append hs gs (added row j 1)

-- each place has the homes that are this place more
tally_at : (hs row : List ℕ) (k : ℕ) → k < length row → get_or (tallied hs row) k 0 ≡ get_or row k 0 + at_home (λ j. j) k hs
tally_at [] row k l = omega arith
tally_at (j ∷ hs) row k l = tally_at hs (added row j 1) k (rw length-set l) ∙ omega (arith, one_more row j k l)

-- and no place has more than all of them more
pub tally_le : (hs row : List ℕ) (k : ℕ) → get_or (tallied hs row) k 0 ≤ get_or row k 0 + length hs
tally_le hs row k = go (ltb k (length row)) refl
  where
    go : (u : Bool) → ltb k (length row) ≡ u → get_or (tallied hs row) k 0 ≤ get_or row k 0 + length hs
    go true e = omega (arith, tally_at hs row k (ltb-true k (length row) e), count-le (λ j. eqb j k) hs)
    go false e = rw (get_or-eq_default (tallied hs row) 0 {n = k} (omega (arith, tally_length hs row, ltb-false k (length row) e))) (omega arith)

-- some more and then one more are one more than some
add_more : (row : List ℕ) (j n : ℕ) → added (added row j n) j 1 ≡ added row j (n + 1)
add_more row j n = go (dec_lt j (length row))
  where
    go : Dec (j < length row) → added (added row j n) j 1 ≡ added row j (n + 1)
    go (yes l) =
        let sum : get_or row j 0 + n + 1 ≡ get_or row j 0 + (n + 1) = omega arith in
        rw (get_or-set_same row j (get_or row j 0 + n) 0 l, sum) (set-set row j (get_or row j 0 + n) (get_or row j 0 + (n + 1)))
    go (no g) =
        let past : length row ≤ j = omega arith in
        rw (set_out row j (get_or row j 0 + n) past, set_out row j (get_or row j 0 + 1) past, set_out row j (get_or row j 0 + (n + 1)) past) refl

-- what stands at a place with n more is no more than these
add_le : (row : List ℕ) (j n : ℕ) → get_or row j 0 + n ≤ get_or (added row j n) j 0 + n
add_le row j n = go (dec_lt j (length row))
  where
    go : Dec (j < length row) → get_or row j 0 + n ≤ get_or (added row j n) j 0 + n
    go (yes l) = omega (arith, get_or-set_same row j (get_or row j 0 + n) 0 l)
    go (no g) = omega (arith, get_or-eq_default row 0 {n = j} (omega arith))

-- the first i homes are counted, but for n at `seen` that are still to be added
pub record Tallied (hs row₀ row : List ℕ) (seen n i : ℕ) : Type 0 where
  pub few : n ≤ i
  pub done : added row seen n ≡ tallied (take i hs) row₀

module _ {hs row₀ row : List ℕ} {seen n i : ℕ} (t : Tallied hs row₀ row seen n i) where
  -- what stands there with them is no more than what stood there and all that were looked at
  pub run_le : get_or row seen 0 + n ≤ get_or row₀ seen 0 + (i + i)
  run_le =
      let all : get_or (added row seen n) seen 0 ≤ get_or row₀ seen 0 + length (take i hs) = rw t.done (tally_le (take i hs) row₀ seen) in
      omega (arith, add_le row seen n, length-take i hs, t.few)

  module _ (l : i < length hs) where
    -- home i is one more than what was counted
    next : added (added row seen n) (get_or hs i 0) 1 ≡ tallied (take (i + 1) hs) row₀
    next = rw (add-one i, take-suc hs i 0 l, tally_append (take i hs) (get_or hs i 0 ∷ []) row₀, ← t.done)

    -- it goes on with the run
    pub run_goes_on : get_or hs i 0 ≡ seen → Tallied hs row₀ row seen (n + 1) (i + 1)
    run_goes_on e = record { few = omega (arith, t.few); done = sym (add_more row seen n) ∙ rw e at next }

    -- or begins another, where this one went to the row
    pub run_changes : {row' : List ℕ} → row' ≡ added row seen n → Tallied hs row₀ row' (get_or hs i 0) 1 (i + 1)
    run_changes e = record { few = omega arith; done = rw e next }

module _ {R : Type 0} (home : R → ℕ) where
  -- to count records by their homes is to count their homes
  at_homes : (s : List R) (k : ℕ) → at_home (λ j. j) k (map home s) ≡ at_home home k s
  at_homes [] k = refl
  at_homes (x ∷ s) k = rw (at_homes s k)

  -- from zeros the tally of all homes is the row of counts
  pub tally_counts : (s : List R) (n : ℕ) → tallied (map home s) (replicate n 0) ≡ counts home s n 0
  tally_counts s n =
      ext_get_or 0 (tallied (map home s) (replicate n 0)) (counts home s n 0) (m ∙ sym (counts-length home s n 0)) (λ k l. at k (omega (arith, m)))
    where
      m : length (tallied (map home s) (replicate n 0)) ≡ n
      m = tally_length (map home s) (replicate n 0) ∙ length-replicate n 0

      at : (k : ℕ) → k < n → get_or (tallied (map home s) (replicate n 0)) k 0 ≡ get_or (counts home s n 0) k 0
      at k l =
          let z : 0 + k ≡ k = omega arith in
          tally_at (map home s) (replicate n 0) k (rw length-replicate l)
          ∙ (rw (get_or-replicate {A = ℕ} n k 0 0 l, zero-add, at_homes s k))
          ∙ sym (rw z at (counts_at home s n 0 k l))

-- the pages below a are counted, and those from a on are left to tally
pub record ToCount (f : Layout) (h : ℕ → ℕ) (area : List ℕ) (cap n : ℕ) (row : List ℕ) (a : ℕ) : Type 0 where
  pub long : length row ≡ n
  pub small : (k : ℕ) → get_or row k 0 ≤ 12 * a
  pub rest : tallied (map (home_for h) (cat (held_from f area (cap - a) a) [])) row ≡ tallied (map (home_for h) (cat (held_from f area cap 0) [])) (replicate n 0)

-- a row of zeros is where they start
pub count_starts : (f : Layout) (h : ℕ → ℕ) (area : List ℕ) (cap n : ℕ) → ToCount f h area cap n (replicate n 0) 0
count_starts f h area cap n =
    let z : cap - 0 ≡ cap = omega arith in
    record { long = length-replicate n 0; small = λ k. omega (arith, zeros n k); rest = rw z refl }

module _ {f : Layout} {h : ℕ → ℕ} {area : List ℕ} {cap n : ℕ} {row : List ℕ} {a : ℕ} (c : ToCount f h area cap n row a) where
  -- the homes of page a counted
  pub count_goes_on : {row' : List ℕ} (hs : List ℕ) → hs ≡ map (home_for h) (records_in f (part_at area a)) → a < cap → row' ≡ tallied hs row → ToCount f h area cap n row' (a + 1)
  count_goes_on {row'} hs is l e =
      let rs : List Record = records_in f (part_at area a) in
      let m : cap - a ≡ suc (cap - suc a) = omega arith in
      let more : List Record = cat (held_from f area (cap - suc a) (suc a)) [] in
      record {
        long = ap length e ∙ tally_length hs row ∙ c.long;
        small = λ k. rw e (omega (arith, tally_le hs row k, c.small k, ap length is, length-map rs (home_for h), held_twelve f (part_at area a)));
        rest = rw (e, add-one a) (sym (tally_append hs (map (home_for h) more) row)) ∙ rw (m, map-append (home_for h) rs more, ← is) at c.rest;
      }

  -- all counted
  pub count_ends : cap ≤ a → row ≡ counts (home_for h) (cat (held_from f area cap 0) []) n 0
  count_ends l =
      let z : cap - a ≡ 0 = omega arith in
      rw z at c.rest ∙ tally_counts (home_for h) (cat (held_from f area cap 0) []) n

-- a page that was judged, with its records
module _ (h : ℕ → ℕ) (j : Judged) (rs : List Record) (e : j ≡ judged_page h rs) where
  -- it has no more homes than places, and twelve places
  pub judged_places : length rs ≤ 12 → (j.count ≤ 12) × (length j.homes ≡ 12)
  unfolding judged_page
  judged_places l = (rw e l, rw (e, length-append, length-map, length-replicate) (omega arith))

  -- its homes are those of its records
  pub judged_homes : take j.count j.homes ≡ map (home_for h) rs
  unfolding judged_page
  judged_homes = rw (e, ← length-map rs (home_for h)) (take-append_seam (map (home_for h) rs) _)
