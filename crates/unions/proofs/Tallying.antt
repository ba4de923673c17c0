-- Pages counted by the homes of their records, one after the other.
use mathlib.Core.Path.{◌≡◌, refl, sym, ◌∙◌}
use mathlib.Core.Option.{Option, none}
use mathlib.Core.List.{List, [], ◌++◌, map, map-append}
use Prim.Native.Nat.{ℕ, zero, suc, ◌+◌, ◌-◌, ◌*◌, ◌≤◌, ◌<◌}
use native.Mathlib.Numerals.{add-one}
use native.Mathlib.Omega.{arith}
use lib.ListN.{length, get_or, set, replicate, length-map}
use Rattle.std.specs.Prelude.{Option as Optional, None}
use Rattle.layouts.specs.Layout.{in_use}
use Rattle.homes.specs.declared.Shape.{Shape}
use Rattle.homes.specs.Homes.{Ready, home_in}
use Rattle.homes.proofs.Homes.{home_below}
use Rattle.placing.specs.Image.{cat}
use Rattle.placing.specs.Rows.{counts}
use Rattle.placing.proofs.Rows.{counts-perm}
use Rattle.pages.specs.declared.Page.{Page}
use Rattle.pages.specs.Page.{Record, key, home_for}
use Rattle.pages.specs.Steps.Slots.{paired}
use Rattle.pages.specs.Area.{held_from}
use Rattle.pages.proofs.Seeking.{paired-length, paired_turn}
use Rattle.survey.specs.Steps.Looks.{tallied}
use Rattle.survey.proofs.Counting.{tally_length, tally_append, tally_le, tally_counts}
use Rattle.rebuild.proofs.Packing.{parts_from, on_page}
use Rattle.sites.specs.declared.Site.{Site}
use Rattle.sites.specs.Held.{same}
use Rattle.sites.specs.Steps.Sites.{on_pages}
use Rattle.two_sets.specs.Steps.Lowest.{lowest_in, lacking}
use Rattle.two_sets.proofs.Lowest.{lowest_append, lacking-append}
use Rattle.two_sets.proofs.Rooms.{comm}
use Rattle.unions.specs.Steps.Both.{clash_by, lacking_on, both_of}

-- a home is a place of a row that has one for each page
pub home_inside : (s : Shape) → Ready s → (row : List ℕ) → s.p ≤ length row → (home k : ℕ) → home ≡ home_in s k → home < length row
home_inside s w row low home k e = omega (arith, e, low, home_below s.params s.p k w)

-- the first i records of a page are counted
module _ (h : ℕ → ℕ) (p : Page) (row₀ row : List ℕ) (i : ℕ) (a : row ≡ tallied (map (home_for h) (paired i p.keys p.values p.runs)) row₀) where
  abbrev rs : List Record
  rs = paired i p.keys p.values p.runs

  pub added_le : (k : ℕ) → get_or row k 0 ≤ get_or row₀ k 0 + i
  added_le k = rw a (omega (arith, tally_le (map (home_for h) rs) row₀ k, length-map rs (home_for h), paired-length i p.keys p.values p.runs))

  -- one more
  pub added_on : (to : ℕ) → to ≡ h (get_or p.keys i 0) → set row to (get_or row to 0 + 1) ≡ tallied (map (home_for h) (paired (i + 1) p.keys p.values p.runs)) row₀
  added_on to e = rw (paired_turn i p.keys p.values p.runs, map-append (home_for h) rs _, tally_append (map (home_for h) rs) _ row₀, ← a, e)

-- the pages below a are counted, of which page i holds `part i`
pub record Counting (part : ℕ → List Record) (home : Record → ℕ) (cap : ℕ) (row₀ row : List ℕ) (a : ℕ) : Type 0 where
  pub long : length row ≡ length row₀
  pub small : (k : ℕ) → get_or row k 0 ≤ get_or row₀ k 0 + 12 * a
  pub rest : tallied (map home (cat (parts_from part (cap - a) a) [])) row ≡ tallied (map home (cat (parts_from part cap 0) [])) row₀

pub counting_starts : (part : ℕ → List Record) (home : Record → ℕ) (cap : ℕ) (row : List ℕ) → Counting part home cap row row 0
counting_starts part home cap row =
    let z : cap - 0 ≡ cap = omega arith in
    record { long = refl; small = λ k. omega arith; rest = rw z }

module _ {part : ℕ → List Record} {home : Record → ℕ} {cap : ℕ} {row₀ row : List ℕ} {a : ℕ} (c : Counting part home cap row₀ row a) where
  -- one page more
  pub counting_on : a < cap → length (part a) ≤ 12 → (row' : List ℕ) → row' ≡ tallied (map home (part a)) row → Counting part home cap row₀ row' (a + 1)
  counting_on l few row' e =
      let m : cap - a ≡ suc (cap - suc a) = omega arith in
      let more : List Record = cat (parts_from part (cap - suc a) (suc a)) [] in
      record {
        long = rw e (tally_length (map home (part a)) row ∙ c.long);
        small = λ k. rw e (omega (arith, tally_le (map home (part a)) row k, c.small k, length-map (part a) home));
        rest = rw (e, add-one a) (sym (tally_append (map home (part a)) (map home more) row)) ∙ rw (m, map-append home (part a) more) at c.rest;
      }

  -- all counted
  pub counting_ends : cap ≤ a → row ≡ tallied (map home (cat (parts_from part cap 0) [])) row₀
  counting_ends l = let z : cap - a ≡ 0 = omega arith in rw z at c.rest

-- what is lacking of each page is what is lacking of all
pub lacking_parts : (look : ℕ → Option Record) (l : List ℕ) (n a : ℕ) → cat (parts_from (λ i. lacking key look (on_page l i)) n a) [] ≡ lacking key look (cat (held_from in_use l n a) [])
lacking_parts look l zero a = refl
lacking_parts look l (suc n) a = rw (lacking_parts look l n (suc a)) (sym (lacking-append key look (on_page l a) (cat (held_from in_use l n (suc a)) [])))

-- what the pages from a on still do to the lowest clash of those below
pub record Weighing (look : ℕ → Option Record) (l : List ℕ) (cap : ℕ) (clash : Optional ℕ) (a : ℕ) : Type 0 where
  pub rest : lowest_in key same look (cat (held_from in_use l (cap - a) a) []) (clash_by clash) ≡ lowest_in key same look (cat (held_from in_use l cap 0) []) none

pub weighing_starts : (look : ℕ → Option Record) (l : List ℕ) (cap : ℕ) → Weighing look l cap None 0
weighing_starts look l cap = let z : cap - 0 ≡ cap = omega arith in record { rest = rw z }

module _ {look : ℕ → Option Record} {l : List ℕ} {cap : ℕ} {clash : Optional ℕ} {a : ℕ} (w : Weighing look l cap clash a) where
  pub weighing_on : a < cap → (c : Optional ℕ) → clash_by c ≡ lowest_in key same look (on_page l a) (clash_by clash) → Weighing look l cap c (a + 1)
  weighing_on m c e =
      let n : cap - a ≡ suc (cap - suc a) = omega arith in
      record { rest = rw (add-one a, e) (sym (lowest_append key same look (on_page l a) (cat (held_from in_use l (cap - suc a) (suc a)) []) (clash_by clash))) ∙ rw n at w.rest }

  pub weighing_ends : cap ≤ a → clash_by clash ≡ lowest_in key same look (cat (held_from in_use l cap 0) []) none
  weighing_ends m = let z : cap - a ≡ 0 = omega arith in rw z at w.rest

-- those that the first of two files alone holds are counted from zeros, and then all of the second
module _ (here : Site) (area : List ℕ) (there : Site) (other : List ℕ) where
  pub both_counted : (home : Record → ℕ) (n : ℕ) → tallied (map home (on_pages there other)) (tallied (map home (lacking_on here area there other)) (replicate n 0)) ≡ counts home (both_of here area there other) n 0
  both_counted home n =
      let lack : List Record = lacking_on here area there other in
      let all : List Record = on_pages there other in
      sym (tally_append (map home lack) (map home all) (replicate n 0))
      ∙ rw (← map-append home lack all) (tally_counts home (lack ++ all) n ∙ counts-perm home (comm lack all) n 0)
