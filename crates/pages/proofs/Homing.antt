-- The homes of a page's records, those that are known and those that are worked out, one by one.
use mathlib.Core.Path.{◌≡◌, refl, sym, ap}
use mathlib.Core.Bool.{Bool, true, false, not, ◌&&◌, ◌||◌, false≢true, cond}
use mathlib.Core.List.{List, [], ◌∷◌, map}
use Prim.Native.Nat.{ℕ, zero, suc, ◌+◌, ◌-◌, ◌≤◌, ◌<◌}
use native.Mathlib.Numerals.{add-one}
use native.Mathlib.Omega.{arith}
use borrow.Author.Tests.{eqb-true}
use lib.Dec.{leb, eqb}
use lib.ListN.{drop, get_or, set, replicate, length-map, drop_of_length-le}
use lib.Seq.{sets, drop-cons}
use Rattle.layouts.specs.Layout.{Layout, slots_of}
use Rattle.homes.specs.declared.new_homes.NewHomes.{NewHomes}
use Rattle.homes.specs.Steps.NewHomes.{new_home, keeps_at}
use Rattle.pages.specs.declared.Page.{Page}
use Rattle.pages.specs.Page.{Record, vacant, home_for, count_in, records_in, padded, in_memory}
use Rattle.pages.specs.Steps.Slots.{paired, records_of}
use Rattle.pages.specs.Area.{part_at}
use Rattle.pages.specs.Steps.Known.{AllHere, OnceHere, Known, KnownAs, full_before, KnownHere, KnownAt}
use Rattle.pages.specs.declared.known.AtHome.{AtHome}
use Rattle.pages.specs.declared.known.AtHome.TheVariants.{All as AllKnown, AfterOne, Unknown}
use Rattle.pages.proofs.Memory.{page_records}
use Rattle.pages.proofs.Read.{row_starts, length_held}
use Rattle.pages.proofs.Seeking.{paired-length, paired-key}

-- a page is full where it says so
pub full_by_count : (f : Layout) (area : List ℕ) (a n : ℕ) → (a ≡ 0 → ⊥) → n ≡ count_in f (part_at area (a - 1)) → leb (slots_of f) n ≡ full_before f area a
full_by_count f area zero n z e = absurd (z refl)
full_by_count f area (suc b) n z e =
    let m : suc b - 1 ≡ b = omega arith in
    rw (e, m, length_held f (part_at area b))

-- what is known of a page of an area, for the page as it is read
pub known_page : (f : Layout) (new : NewHomes) (area : List ℕ) (a : ℕ) (p : Page) (k : AtHome) → p ≡ in_memory (records_in f (part_at area a))
    → k ≡ cond (keeps_at new a) (cond (full_before f area a) AfterOne AllKnown) Unknown
    → KnownAt f new area a → KnownAs (new_home new) a k (records_of p)
known_page f new area a p k e q w = rw (q, page_records p (records_in f (part_at area a)) e) (go (keeps_at new a) (full_before f area a) w)
  where
    go : (u v : Bool) → Known (new_home new) a (u && not v) u (records_in f (part_at area a)) → KnownAs (new_home new) a (cond u (cond v AfterOne AllKnown) Unknown) (records_in f (part_at area a))
    go true true w = w.1 refl
    go true false w = w.0 refl
    go false v w = tt

pub here_page : (f : Layout) (h : ℕ → ℕ) (area : List ℕ) (a : ℕ) (p : Page) (k : AtHome) → p ≡ in_memory (records_in f (part_at area a))
    → k ≡ cond (full_before f area a) AfterOne AllKnown
    → KnownHere f h area a → KnownAs h a k (records_of p)
here_page f h area a p k e q w = rw (q, page_records p (records_in f (part_at area a)) e) (go (full_before f area a) w)
  where
    go : (v : Bool) → Known h a (not v) true (records_in f (part_at area a)) → KnownAs h a (cond v AfterOne AllKnown) (records_in f (part_at area a))
    go true w = w.1 refl
    go false w = w.0 refl

pub homes_page : (h : ℕ → ℕ) (p : Page) (rs : List Record) → p ≡ in_memory rs → padded (map (home_for h) (records_of p)) ≡ padded (map (home_for h) rs)
homes_page h p rs e = ap (λ (s : List Record). padded (map (home_for h) s)) (page_records p rs e)

module _ (h : ℕ → ℕ) (a n : ℕ) (ks vs us : List ℕ) where
  -- the records of a page
  abbrev rs : List Record
  rs = paired n ks vs us

  -- of the records from i on: what is known, and that their homes are still to be stored
  pub record Homing (once : Bool) (homes : List ℕ) (here : Bool) (i : ℕ) : Type 0 where
    pub low : i ≤ n
    pub all : here ≡ true → AllHere h a (drop i rs)
    pub after : once ≡ true → OnceHere h a (drop i rs)
    pub rest : sets homes i (map (home_for h) (drop i rs)) ≡ padded (map (home_for h) rs)

  pub homing_starts : (k : AtHome) (here once : Bool) → n ≤ 12 → (here ≡ true → k ≡ AllKnown) → (once ≡ true → k ≡ AfterOne) → KnownAs h a k rs → Homing once (replicate 12 0) here 0
  homing_starts k here once few u v w =
      record {
        low = omega arith;
        all = λ e. rw (u e) at w;
        after = λ e. rw (v e) at w;
        rest = row_starts (map (home_for h) rs) (rw length-map (omega (arith, paired-length n ks vs us)));
      }

  module _ (once : Bool) (homes : List ℕ) (here : Bool) (i : ℕ) (l : i < n) (g : Homing once homes here i) where
    -- record i is the first of those from i on
    next : drop i rs ≡ get_or rs i vacant ∷ drop (suc i) rs
    next = drop-cons rs i vacant (omega (arith, paired-length n ks vs us))

    -- where all are at home, so is record i
    pub home_here : here ≡ true → a ≡ h (get_or ks i 0)
    home_here e = sym (rw (← paired-key n ks vs us i l) (rw next at (g.all e)).0)

    module _ (home : ℕ) (is : home ≡ h (get_or ks i 0)) where
      -- what is known after it
      known_on : (u : Bool) → here ≡ u → (v : Bool) → once ≡ v → (w : Bool) → eqb home a ≡ w → (u || (v && w)) ≡ true → AllHere h a (drop (suc i) rs)
      known_on true e v f w q t = (rw next at (g.all e)).1
      known_on false e true f true q t = (rw next at (g.after f)).0 (rw (paired-key n ks vs us i l, ← is) (eqb-true home a q))
      known_on false e true f false q t = absurd (false≢true t)
      known_on false e false f w q t = absurd (false≢true t)

      pub homing_goes_on : Homing once (set homes i home) (here || (once && eqb home a)) (i + 1)
      homing_goes_on =
          record {
            low = omega arith;
            all = rw add-one (known_on here refl once refl (eqb home a) refl);
            after = rw add-one (λ e. (rw next at (g.after e)).1);
            rest = rw add-one (rw (next, paired-key n ks vs us i l, ← is) at g.rest);
          }

  pub homing_ends : (once : Bool) (homes : List ℕ) (here : Bool) (i : ℕ) → n ≤ i → Homing once homes here i → homes ≡ padded (map (home_for h) rs)
  homing_ends once homes here i l g =
      let z : drop i rs ≡ [] = drop_of_length-le rs {i = i} (omega (arith, paired-length n ks vs us)) in
      rw z at g.rest
