-- The rules about homes and order, record by record, and what is judged of a page.
use mathlib.Core.Path.{◌≡◌, refl, sym, ◌∙◌}
use mathlib.Core.Bool.{Bool, true, false, cond, ◌&&◌, ◌||◌}
use Rattle.std.specs.Prelude.{Option as Optional, Some, None}
use mathlib.Core.Option.{Option, none, some}
use mathlib.Core.List.{List, [], ◌∷◌, map}
use Prim.Native.Nat.{ℕ, suc, ◌+◌, ◌≤◌, ◌<◌}
use native.Mathlib.Numerals.{add-one}
use native.Mathlib.Omega.{arith}
use borrow.Author.Tests.{ne_eqb}
use lib.Dec.{eqb, ltb, leb}
use lib.ListN.{length, drop, get_or, set, replicate, length-map, drop_of_length-le}
use lib.Seq.{sets, drop-cons}
use Rattle.layouts.specs.Layout.{Layout}
use Rattle.pages.specs.declared.Judged.{Judged}
use Rattle.pages.specs.Page.{Record, key, vacant, home_for, rank, homes_to, rises, well_formed, records_in, read_page, padded, judged_page, judged}
use Rattle.placing.specs.Lay.{ranked}
use Rattle.pages.proofs.Rows.{row_at}
use Rattle.pages.proofs.Read.{row_starts}

-- four tests in another order
swap : (a b c d : Bool) → ((a && b) && (c && d)) ≡ ((a && c) && (b && d))
swap true true c d = refl
swap true false true d = refl
swap true false false d = refl
swap false b c d = refl

module _ (h : ℕ → ℕ) (address : ℕ) where
  -- whether records keep to the rules, the first of them after rank r unless it is the first of all
  abbrev pub goes_on : (first : Bool) → ℕ → List Record → Bool
  goes_on first r [] = true
  goes_on first r (x ∷ rs) = (leb (h (key x)) address && (first || ltb r (rank h x))) && goes_on false (rank h x) rs

  -- after a record the others keep to the rules where their homes, and the order from it on, are
  -- right
  keeps_on : (x : Record) (rs : List Record) → goes_on false (rank h x) rs ≡ (homes_to h address rs && rises h (x ∷ rs))
  keeps_on x [] = refl
  keeps_on x (y ∷ rs) =
      rw (keeps_on y rs) (swap (leb (h (key y)) address) (ltb (rank h x) (rank h y)) (homes_to h address rs) (rises h (y ∷ rs)))

  -- all records keep to the rules where homes and order are right
  keeps_all : (r : ℕ) (rs : List Record) → goes_on true r rs ≡ (homes_to h address rs && rises h rs)
  keeps_all r [] = refl
  keeps_all r (x ∷ rs) = rw (keeps_on x rs) (swap (leb (h (key x)) address) true (homes_to h address rs) (rises h (x ∷ rs)))

-- in the first n places stand the homes of the keys
abbrev pub Found : (ℕ → ℕ) → (n : ℕ) → (ks hs : List ℕ) → Type 0
Found h n ks hs = (i : ℕ) → i < n → get_or hs i 0 ≡ h (get_or ks i 0)

module _ (h : ℕ → ℕ) (address : ℕ) (rs : List Record) where
  -- whether the records keep to the rules
  abbrev kept : Bool
  kept = homes_to h address rs && rises h rs

  -- what is left to judge, and to store of homes, from record i on, after rank r
  abbrev pub ToJudge : (homes : List ℕ) (r i : ℕ) → Type 0
  ToJudge homes r i = (i ≤ length rs) × (goes_on h address (eqb i 0) r (drop i rs) ≡ kept)
      × (sets homes i (map (home_for h) (drop i rs)) ≡ padded (map (home_for h) rs))

  -- at the start all is left
  pub judging_starts : (r : ℕ) → length rs ≤ 12 → ToJudge (replicate 12 0) r 0
  judging_starts r few = (omega arith, keeps_all h address r rs, row_starts (map (home_for h) rs) (rw length-map (omega arith)))

  -- the page's own count and its row of keys
  module _ (n : ℕ) (ks : List ℕ) (c : n ≡ length rs) (k : ks ≡ padded (map key rs)) where
    -- record i has key i of the row
    next_key : (i : ℕ) → i < n → key (get_or rs i vacant) ≡ get_or ks i 0
    next_key i l = sym (rw k (row_at key rs _ i vacant (omega arith)))

    -- and is the first of those from i on
    next_record : (i : ℕ) → i < n → drop i rs ≡ get_or rs i vacant ∷ drop (suc i) rs
    next_record i l = drop-cons rs i vacant (omega arith)

    -- a turn judges record i, whose home is worked out; `next` is whether it stands after rank r
    module _ (homes : List ℕ) (r i home : ℕ) (next : Bool) (l : i < n) (e : home ≡ h (get_or ks i 0)) (t : next ≡ ltb r (ranked home (get_or ks i 0))) (left : ToJudge homes r i) where
      -- what is judged then
      judges : ((leb home address && (eqb i 0 || next)) && goes_on h address false (ranked home (get_or ks i 0)) (drop (suc i) rs)) ≡ kept
      judges = rw (next_record i l, next_key i l, ← e, ← t) at left.1

      -- what is stored then
      stores : sets (set homes i home) (suc i) (map (home_for h) (drop (suc i) rs)) ≡ padded (map (home_for h) rs)
      stores = rw (next_record i l, next_key i l, ← e) at left.2

      -- a record that breaks a rule makes the page a broken one
      pub judging_breaks : (leb home address && (eqb i 0 || next)) ≡ false → None ≡ judged h (cond kept (some rs) none)
      judging_breaks f =
          let no : kept ≡ false = sym judges ∙ rw f in
          rw no

      -- after one that keeps to them the others are left
      pub judging_goes_on : (leb home address && (eqb i 0 || next)) ≡ true → ToJudge (set homes i home) (ranked home (get_or ks i 0)) (i + 1)
      judging_goes_on f =
          let later : eqb (suc i) 0 ≡ false = ne_eqb (suc i) 0 (λ z. omega arith) in
          (omega arith, rw (add-one, later) (rw f at judges), rw add-one stores)

    -- at the end the page is good
    pub judging_ends : (homes : List ℕ) (r i : ℕ) → n ≤ i → ToJudge homes r i
        → ◌≡◌ {A = Optional Judged} (Some (record { count = n; keys = ks; homes = homes })) (judged h (cond kept (some rs) none))
    unfolding judged_page
    judging_ends homes r i l left =
        let z : drop i rs ≡ [] = drop_of_length-le rs {i = i} (omega arith) in
        let good : true ≡ kept = rw z at left.1 in
        let stored : homes ≡ padded (map (home_for h) rs) = rw z at left.2 in
        rw (← good, ← stored, c, k)

module _ (f : Layout) (h : ℕ → ℕ) (address : ℕ) (l : List ℕ) where
  -- a page whose bytes are not well formed is broken
  pub judged_unformed : well_formed f address l ≡ false → None ≡ judged h (read_page f h address l)
  unfolding read_page
  judged_unformed w = rw w

  -- one whose bytes are is judged by its records
  pub judged_formed : (out : Optional Judged) → well_formed f address l ≡ true
      → out ≡ judged h (cond (homes_to h address (records_in f l) && rises h (records_in f l)) (some (records_in f l)) none)
      → out ≡ judged h (read_page f h address l)
  unfolding read_page
  judged_formed out w o = rw w o

-- a page that is judged broken is none
pub judged_broken : (h : ℕ → ℕ) (o : Option (List Record)) (r : Optional Judged) → r ≡ judged h o → r ≡ None → o ≡ none
judged_broken h none r e b = refl
judged_broken h (some rs) r e b = absurd (cc (sym b ∙ e))

-- what is told of a page that has records
told : (h : ℕ → ℕ) (o : Option (List Record)) (j : Judged) (rs : List Record) → Some j ≡ judged h o → o ≡ some rs → j ≡ judged_page h rs
told h o j rs e s = cc (rw s at e)

-- one that is judged good has the records that its bytes hold
module _ (f : Layout) (h : ℕ → ℕ) (address : ℕ) (l : List ℕ) (r : Optional Judged) (j : Judged) (e : r ≡ judged h (read_page f h address l)) (g : r ≡ Some j) where
  pub judged_good : read_page f h address l ≡ some (records_in f l)
  unfolding read_page
  judged_good = go (well_formed f address l && (homes_to h address (records_in f l) && rises h (records_in f l))) e
    where
      go : (u : Bool) → r ≡ judged h (cond u (some (records_in f l)) none) → cond u (some (records_in f l)) none ≡ some (records_in f l)
      go true k = refl
      go false k = absurd (cc (sym g ∙ k))

  pub judged_held : j ≡ judged_page h (records_in f l)
  judged_held = told h (read_page f h address l) j (records_in f l) (sym g ∙ e) judged_good

-- and tells how many they are, and the key and the home of each
module _ (h : ℕ → ℕ) (j : Judged) (rs : List Record) (e : j ≡ judged_page h rs) where
  pub judged_count : j.count ≡ length rs
  unfolding judged_page
  judged_count = rw e

  pub judged_key : (i : ℕ) → i < j.count → get_or j.keys i 0 ≡ key (get_or rs i vacant)
  unfolding judged_page
  judged_key i l = rw e (row_at key rs _ i vacant (omega (arith, judged_count)))

  pub judged_home : (i : ℕ) → i < j.count → get_or j.homes i 0 ≡ h (key (get_or rs i vacant))
  unfolding judged_page
  judged_home i l = rw e (row_at (home_for h) rs _ i vacant (omega (arith, judged_count)))
