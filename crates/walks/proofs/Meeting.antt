-- The walk to a key: what is known of a page that was judged, its slots one by one, and each way
-- out.
use mathlib.Core.Path.{◌≡◌, refl, sym, ap, subst, ◌∙◌}
use mathlib.Core.Bool.{Bool, true, false, cond, ◌||◌}
use mathlib.Core.Option.{Option, none, some}
use mathlib.Core.List.{List, ◌∷◌, map}
use Prim.Native.Nat.{ℕ, zero, suc, ◌+◌, ◌*◌, ◌-◌, ◌^◌, ◌≤◌, ◌<◌}
use native.Mathlib.Numerals.{add-one}
use native.Mathlib.Omega.{arith}
use borrow.Author.Tests.{ltb-true, ltb-false, lt-ltb, le-ltb}
use lib.Dec.{ltb}
use lib.ListN.{length, drop, get_or}
use Rattle.std.proofs.Common.{Option as Optional, Some, None, Ok, Err}
use Rattle.layouts.specs.Layout.{in_use}
use Rattle.placing.specs.Lay.{rank_of, rank_in, ranked, Sorted}
use Rattle.placing.specs.Walks.{seek, last_after, ends_on}
use Rattle.pages.specs.declared.Judged.{Judged}
use Rattle.pages.specs.Page.{Record, key, home_for, padded, read_page, judged, judged_page}
use Rattle.pages.specs.Places.{ahead}
use Rattle.pages.specs.Area.{part_at, pages_from}
use Rattle.pages.proofs.Read.{held_few}
use Rattle.pages.proofs.Judging.{judged_broken, judged_good, judged_held, judged_count}
use Rattle.pages.proofs.RoundTrip.{read_good}
use Rattle.pages.proofs.Rules.{rises_sorted}
use Rattle.pages.proofs.Places.{ahead-le, ahead_all}
use Rattle.pages.proofs.Bounds.{keys_small}
use Rattle.state.specs.declared.Refusal.{Refusal}
use Rattle.state.specs.declared.Refusal.TheVariants.{Broken}
use Rattle.walks.specs.declared.Met.{Met}
use Rattle.walks.specs.declared.Met.TheVariants.{Found, Ends, AtEnd}
use Rattle.walks.specs.Walks.{Walks, held_at, on_held, meets, walk}
use Rattle.walks.specs.Steps.Plans.{slots, held, last_home, ended}
use Rattle.walks.proofs.Holds.{away_rank}
use Rattle.walks.proofs.Scanning.{After, after_last, ToScan, left_away, left_place, Rows, Tested}

-- page a of the area, as it was judged
pub record Seen (h : ℕ → ℕ) (area : List ℕ) (cap a : ℕ) (o : Optional Judged) : Type 0 where
  pub lies : a < cap
  pub is : o ≡ judged h (read_page in_use h a (part_at area a))

module _ {h : ℕ → ℕ} {area : List ℕ} {cap a : ℕ} {o : Optional Judged} (seen : Seen h area cap a o) where
  -- it stands first of the pages from it on
  pub pages_next : pages_from in_use h area (cap - a) a ≡ read_page in_use h a (part_at area a) ∷ pages_from in_use h area (cap - (a + 1)) (a + 1)
  pages_next =
      let e : cap - a ≡ suc (cap - (a + 1)) = omega (arith, seen.lies) in
      rw (e, add-one)

  pub page_broken : o ≡ None → read_page in_use h a (part_at area a) ≡ none
  page_broken g = judged_broken h (read_page in_use h a (part_at area a)) o seen.is g

  module _ {j : Judged} (g : o ≡ Some j) where
    pub page_read : read_page in_use h a (part_at area a) ≡ some (held area a)
    page_read = judged_good in_use h a (part_at area a) o j seen.is g

    pub page_is : j ≡ judged_page h (held area a)
    page_is = judged_held in_use h a (part_at area a) o j seen.is g

    -- it counts its records, of which there are no more than slots
    pub page_counts : j.count ≡ length (held area a)
    page_counts = judged_count h j (held area a) page_is

    pub page_few : j.count ≤ 12
    page_few = omega (arith, page_counts, held_few in_use (part_at area a))

    -- the home in its last slot is that of the record there, if there is one
    pub page_last : get_or j.homes 11 0 ≡ get_or (padded (map (home_for h) (held area a))) 11 0
    unfolding judged_page
    page_last = rw page_is

    -- its rows, where the area holds it
    pub page_rows : 256 * (a + 1) ≤ length area → ((i : ℕ) → i < length area → get_or area i 0 < 256) → Rows h (held area a) j
    page_rows fits bytes = record {
      is = page_is;
      small = keys_small in_use area a fits bytes;
      rising = rises_sorted h (held area a) (read_good in_use h a (part_at area a) (held area a) page_read).rising;
    }

  -- a slot of it, tested on the way to a key
  pub page_tested : {j : Judged} → o ≡ Some j → 256 * (a + 1) ≤ length area → ((i : ℕ) → i < length area → get_or area i 0 < 256) → {k home i : ℕ} {t : Bool} → ToScan h k (held area a) i → k < 2 ^ 64 → home ≡ h k
      → t ≡ ltb (ranked home k) (ranked (get_or j.homes i 0) (get_or j.keys i 0)) → Tested h (held area a) j k home i t
  page_tested g fits bytes left small lives told = record { rows = page_rows g fits bytes; left = left; small = small; lives = lives; told = told }

-- where it is not found, a page ends the walk exactly where the key's place is in it
ends_test : (b : ℕ) (h : ℕ → ℕ) (k : ℕ) (rs : List Record) → length rs ≤ b → Sorted (rank_in key h) rs → seek (rank_in key h) (rank_of h k) rs ≡ none
    → ends_on (rank_in key h) b (rank_of h k) rs ≡ ltb (ahead (rank_in key h) (rank_of h k) rs) b
ends_test b h k rs few up e = go (ltb (length rs) b) refl
  where
    go : (u : Bool) → ltb (length rs) b ≡ u → (u || last_after (rank_in key h) (rank_of h k) rs) ≡ ltb (ahead (rank_in key h) (rank_of h k) rs) b
    go true t = sym (lt-ltb (ahead (rank_in key h) (rank_of h k) rs) b (omega (arith, ltb-true (length rs) b t, ahead-le (rank_in key h) (rank_of h k) rs)))
    go false t =
        let n : length rs ≡ b = omega (arith, ltb-false (length rs) b t) in
        rw n at (sym (ahead_all (rank_in key h) (rank_of h k) rs up e))

-- what is left of the walk from page a on, where n pages were read
abbrev pub walk_left : (ℕ → ℕ) → List ℕ → (cap k a n : ℕ) → Walks
walk_left h area cap k a n = meets slots h k a n (pages_from in_use h area (cap - a) a)

module _ (h : ℕ → ℕ) (area : List ℕ) (cap k a n : ℕ) where
  -- at the home the whole of it is left
  pub walk_starts : a ≡ h k → n ≡ 0 → walk_left h area cap k a n ≡ walk in_use h area cap k
  unfolding walk
  walk_starts e z = rw (e, z)

module _ {h : ℕ → ℕ} {area : List ℕ} {cap a : ℕ} {o : Optional Judged} (seen : Seen h area cap a o) (k n : ℕ) where
  -- a broken page ends it
  pub walk_sick : o ≡ None → Err (Broken a (n + 1)) ≡ walk_left h area cap k a n
  walk_sick g = rw (pages_next seen, page_broken seen g, add-one)

  module _ {j : Judged} (g : o ≡ Some j) where
    abbrev rs : List Record
    rs = held area a

    -- the walk at a good page
    at_page : walk_left h area cap k a n
        ≡ on_held (held_at k 0 rs) (λ i v. Ok (Found a i j.count v (n + 1)))
        (cond (ends_on (rank_in key h) slots (rank_of h k) rs) (Ok (Ends a (ahead (rank_in key h) (rank_of h k) rs) j.count (n + 1))) (walk_left h area cap k (a + 1) (n + 1)))
    at_page = rw (pages_next seen, page_read seen g, page_counts seen g, add-one n, add-one a)

    -- a slot that holds the key ends it
    pub walk_found : (i v : ℕ) → held_at k 0 rs ≡ some (i, v) → Ok (Found a i j.count v (n + 1)) ≡ walk_left h area cap k a n
    walk_found i v e = sym (at_page ∙ rw e)

    -- the slots before one are passed
    module _ (rows : Rows h rs j) (small : k < 2 ^ 64) {at : ℕ} (w : ToScan h k rs at) where
      -- where all from there on stand after the sought, that is the key's place, and decides
      at_place : After h k (drop at rs) → walk_left h area cap k a n ≡ cond (ltb at slots) (Ok (Ends a at j.count (n + 1))) (walk_left h area cap k (a + 1) (n + 1))
      at_place f =
          let p : at ≡ ahead (rank_in key h) (rank_of h k) rs = left_place h k w f in
          let sought : seek (rank_in key h) (rank_of h k) rs ≡ none = away_rank k h rs small rows.small (left_away h k w f) in
          at_page ∙ rw (left_away h k w f, ends_test slots h k rs (held_few in_use (part_at area a)) rows.rising sought, ← p)

      -- a page with the place ends the walk
      pub walk_ends : After h k (drop at rs) → at < slots → Ok (Ends a at j.count (n + 1)) ≡ walk_left h area cap k a n
      walk_ends f l = sym (at_place f ∙ rw (lt-ltb at slots l))

      -- past the last slot it goes on
      pub walk_on : slots ≤ at → walk_left h area cap k (a + 1) (n + 1) ≡ walk_left h area cap k a n
      walk_on l = sym (at_place (after_last h k rs at (omega (arith, held_few in_use (part_at area a)))) ∙ rw (le-ltb at slots l))

-- a walk as it ended, told with the home in the last slot
pub walk_told : (h : ℕ → ℕ) (area : List ℕ) (m : Met) (w : Walks) (last : ℕ) → Ok m ≡ w → last ≡ last_home h area m → Ok (record { met = m; last = last }) ≡ ended h area w
walk_told h area m w last e t = rw (← e, t)

-- or why it ended
pub walk_refused : (h : ℕ → ℕ) (area : List ℕ) (why : Refusal) (w : Walks) → Err why ≡ w → Err why ≡ ended h area w
walk_refused h area why w e = rw (← e)

-- a page that is good, and counted
pub record Counted (h : ℕ → ℕ) (area : List ℕ) (a c : ℕ) : Type 0 where
  pub read : read_page in_use h a (part_at area a) ≡ some (held area a)
  pub count : c ≡ length (held area a)

module _ (h : ℕ → ℕ) (area : List ℕ) (k : ℕ) where
  -- so is the page where a walk ends, and it tells the key's place there
  abbrev pub Known : Walks → Type 0
  Known (Ok (Found a i c v n)) = Counted h area a c
  Known (Err why) = Unit {0}
  Known (Ok (Ends a i c n)) = Counted h area a c × (i ≡ ahead (rank_in key h) (rank_of h k) (held area a))
  Known (Ok (AtEnd n)) = Unit {0}

  meets_known : (m a n : ℕ) → Known (meets slots h k a n (pages_from in_use h area m a))
  meets_known zero a n = tt
  meets_known (suc m) a n = go (read_page in_use h a (part_at area a)) refl (meets_known m (suc a) (suc n))
    where
      on : Walks
      on = meets slots h k (suc a) (suc n) (pages_from in_use h area m (suc a))

      good : (p : List Record) → Counted h area a (length p) → p ≡ held area a → (o : Option (ℕ × ℕ)) (u : Bool) → Known on
          → Known (on_held o (λ i v. Ok (Found a i (length p) v (suc n))) (cond u (Ok (Ends a (ahead (rank_in key h) (rank_of h k) p) (length p) (suc n))) on))
      good p w e (some s) u t = w
      good p w e none true t = (w, ap (ahead (rank_in key h) (rank_of h k)) e)
      good p w e none false t = t

      go : (o : Option (List Record)) → read_page in_use h a (part_at area a) ≡ o → Known on → Known (meets slots h k a n (o ∷ pages_from in_use h area m (suc a)))
      go none e t = tt
      go (some p) e t =
          let s : p ≡ held area a = (read_good in_use h a (part_at area a) p e).records in
          good p (record { read = rw s at e; count = ap length s }) s (held_at k 0 p) (ends_on (rank_in key h) slots (rank_of h k) p) t

  pub walk_known : (cap : ℕ) (e : Walks) → walk in_use h area cap k ≡ e → Known e
  unfolding walk
  walk_known cap e q = subst Known q (meets_known (cap - h k) (h k) 0)
