-- Packed pages, home after home: how many of lower homes lie from a page on says where the records of its own home stand.
use mathlib.Core.Path.{◌≡◌, refl, sym, ap, ◌∙◌}
use mathlib.Core.Bool.{Bool, true, false}
use mathlib.Core.List.{List, [], ◌∷◌, ◌++◌}
use Prim.Native.Nat.{ℕ, zero, suc, ◌+◌, ◌-◌, ◌/◌, ◌%◌, ◌≤◌, ◌<◌, min}
use native.Mathlib.Decide.{dec_lt}
use native.Mathlib.Omega.{arith}
use borrow.Author.Tests.{leb-true, leb-false, eqb-true, eqb-false, ne_eqb}
use lib.Dec.{leb, eqb}
use lib.ListN.{length, take, drop, get_or, length-append, length-drop, take-append-drop, get_or-append}
use lib.Seq.{take-add, drop-drop, take-append-add, drop-append-add, get_or-append-add, length-take-le}
use Rattle.placing.specs.Image.{All, cat}
use Rattle.placing.specs.Lay.{one, up_to, Sorted}
use Rattle.placing.specs.Rows.{at_home}
use Rattle.placing.specs.Steps.Packed.{Packed}
use Rattle.placing.proofs.Lists.{all_map, all_append, all_right, count-le, up_to-append, up_to_all, up_to_none}
use Rattle.placing.proofs.Keeping.{count_none}
use Rattle.placing.proofs.Order.{sorted_drop}
use Rattle.placing.proofs.Packed.{takes}
use Rattle.rebuild.specs.Steps.Rebuild.{slots}
use Rattle.rebuild.proofs.Packing.{parts_from}

module _ {R : Type 0} (home : R → ℕ) where
  -- none is at home at a page below all homes
  none_here : (a : ℕ) (s : List R) → All (λ x. a < home x) s → at_home home a s ≡ 0
  none_here a s h = count_none (λ x. eqb (home x) a) s (all_map (λ x. a < home x) (λ x. eqb (home x) a ≡ false) (λ x k. ne_eqb (home x) a (λ e. omega arith)) s h)

  -- where no home is below a, those up to a are those at a
  up_here : (a : ℕ) (s : List R) → All (λ x. a ≤ home x) s → up_to home a s ≡ at_home home a s
  up_here a [] h = refl
  up_here a (x ∷ s) h = go (leb (home x) a) (eqb (home x) a) refl refl (up_here a s h.1)
    where
      go : (u v : Bool) → leb (home x) a ≡ u → eqb (home x) a ≡ v → up_to home a s ≡ at_home home a s → one u + up_to home a s ≡ one v + at_home home a s
      go true true d e ih = omega arith
      go false false d e ih = omega arith
      go true false d e ih = absurd (eqb-false (home x) a e (omega (arith, leb-true (home x) a d, h.0)))
      go false true d e ih = absurd (omega (arith, leb-false (home x) a d, eqb-true (home x) a e))

-- the records of n pages from address a on, of which page i holds `part i`
abbrev pub onward : {R : Type 0} → (ℕ → List R) → (n a : ℕ) → List R
onward part n a = cat (parts_from part n a) []

module _ {R : Type 0} (home : R → ℕ) (part : ℕ → List R) where
  -- of those with a home up to a₀, place j is a slot of the page that j counts to, since the pages before it are full
  place : (a₀ n a j : ℕ) (d : R) → a₀ ≤ a → Packed home slots a (parts_from part n a) [] → j < up_to home a₀ (onward part n a)
      → get_or (onward part n a) j d ≡ get_or (part (a + j / slots)) (j % slots) d
  place a₀ zero a j d l i h = absurd (omega arith)
  place a₀ (suc n) a j d l i h = go (dec_lt j slots) (dec_lt j (length (part a))) (dec_lt (length (part a)) slots) (place a₀ n (suc a) (j - slots) d (omega arith) i.3)
    where
      t : List R
      t = onward part n (suc a)

      split : up_to home a₀ (part a ++ t) ≡ up_to home a₀ (part a) + up_to home a₀ t
      split = up_to-append home a₀ (part a) t

      few : up_to home a₀ (part a) ≤ length (part a)
      few = count-le (λ x. leb (home x) a₀) (part a)

      none : length (part a) < slots → up_to home a₀ t ≡ 0
      none s = up_to_none home a₀ t (all_map (λ x. a < home x) (λ x. a₀ < home x) (λ x k. omega arith) t (i.2 s))

      go : Dec (j < slots) → Dec (j < length (part a)) → Dec (length (part a) < slots)
          → (j - slots < up_to home a₀ t → get_or t (j - slots) d ≡ get_or (part (suc a + (j - slots) / slots)) ((j - slots) % slots) d)
          → get_or (part a ++ t) j d ≡ get_or (part (a + j / slots)) (j % slots) d
      go (yes u) (yes v) w ih =
          let e : j % slots ≡ j = omega arith in
          let f : a + j / slots ≡ a = omega arith in
          rw (e, f) (get_or-append (part a) t d j v)
      go (yes u) (no v) w ih = absurd (omega (arith, split, few, none (omega arith)))
      go (no u) v (yes w) ih = absurd (omega (arith, split, few, none w))
      go (no u) v (no w) ih =
          let n : length (part a) + (j - slots) ≡ j = omega (arith, i.0) in
          let e : (j - slots) % slots ≡ j % slots = omega arith in
          let f : suc a + (j - slots) / slots ≡ a + j / slots = omega arith in
          ap (λ (m : ℕ). get_or (part a ++ t) m d) (sym n) ∙ get_or-append-add (part a) t (j - slots) d ∙ ih (omega (arith, split, few, i.0)) ∙ rw (e, f)

module _ {R : Type 0} (rank home : R → ℕ) (mono : (x y : R) → rank x ≤ rank y → home x ≤ home y) where
  -- in order, those at the lowest home come first
  first_here : (a : ℕ) (s : List R) → Sorted rank s → All (λ x. a ≤ home x) s
      → All (λ x. home x ≡ a) (take (at_home home a s) s) × All (λ x. a < home x) (drop (at_home home a s) s)
  first_here a [] o h = (tt, tt)
  first_here a (x ∷ s) o h = go (eqb (home x) a) refl (first_here a s o.1 h.1)
    where
      n : ℕ
      n = at_home home a s

      go : (u : Bool) → eqb (home x) a ≡ u → All (λ y. home y ≡ a) (take n s) × All (λ y. a < home y) (drop n s)
          → All (λ y. home y ≡ a) (take (one u + n) (x ∷ s)) × All (λ y. a < home y) (drop (one u + n) (x ∷ s))
      go true e ih =
          let q : 1 + n ≡ suc n = omega arith in
          rw q ((eqb-true (home x) a e, ih.0), ih.1)
      go false e ih =
          let low : a < home x = omega (arith, h.0, eqb-false (home x) a e) in
          let above : All (λ y. a < home y) s = all_map (λ y. rank x < rank y) (λ y. a < home y) (λ y k. omega (arith, mono x y (omega arith))) s o.0 in
          let q : 0 + n ≡ 0 = omega (arith, none_here home a s above) in
          rw q (tt, (low, above))

module _ {R : Type 0} (p t s : List R) (n k : ℕ) (e : s ≡ p ++ t) (f : length p + k ≡ n) where
  -- what lies beyond a page, and up to there
  drop_page : drop n s ≡ drop k t
  drop_page = rw (e, ← f) (drop-append-add p t k)

  take_page : take n s ≡ p ++ take k t
  take_page = rw (e, ← f) (take-append-add p t k)

-- up to page a, of the records that lie from it on the first have a lower home, the others not
pub record Passed {R : Type 0} (rank home : R → ℕ) (part : ℕ → List R) (cap a over : ℕ) : Type 0 where
  pub within : a ≤ cap
  pub packed : Packed home slots a (parts_from part (cap - a) a) []
  pub many : over ≤ length (onward part (cap - a) a)
  pub low : All (λ x. home x < a) (take over (onward part (cap - a) a))
  pub high : All (λ x. a ≤ home x) (drop over (onward part (cap - a) a))
  pub sorted : Sorted rank (drop over (onward part (cap - a) a))

module _ {R : Type 0} (rank home : R → ℕ) (mono : (x y : R) → rank x ≤ rank y → home x ≤ home y) {part : ℕ → List R} {cap a over : ℕ} (s : Passed rank home part cap a over) (l : a < cap) where
  abbrev rest : List R
  rest = onward part (cap - a) a

  abbrev rest' : List R
  rest' = onward part (cap - suc a) (suc a)

  -- how many are at home here
  abbrev here : ℕ
  here = at_home home a (drop over rest)

  more : cap - a ≡ suc (cap - suc a)
  more = omega arith

  next : rest ≡ part a ++ rest'
  next = rw more

  packed_here : Packed home slots a (parts_from part (suc (cap - suc a)) a) []
  packed_here = rw more at s.packed

  up : up_to home a rest ≡ over + here
  up =
      let both : up_to home a (take over rest ++ drop over rest) ≡ up_to home a (take over rest) + up_to home a (drop over rest) = up_to-append home a (take over rest) (drop over rest) in
      let first : up_to home a (take over rest) ≡ length (take over rest) = up_to_all home a (take over rest) (all_map (λ x. home x < a) (λ x. home x ≤ a) (λ x k. omega arith) (take over rest) s.low) in
      omega (arith, rw (take-append-drop over rest) at both, first, length-take-le over rest s.many, up_here home a (drop over rest) s.high)

  -- all of them lie from the page on, at their places
  pub few : over + here ≤ length rest
  few = omega (arith, count-le (λ x. eqb (home x) a) (drop over rest), length-drop over rest, s.many)

  pub at_place : (j : ℕ) (d : R) → j < over + here → get_or rest j d ≡ get_or (part (a + j / slots)) (j % slots) d
  at_place j d h = place home part a (cap - a) a j d (omega arith) s.packed (omega (arith, up))

  pub all_here : All (λ x. home x ≡ a) (take here (drop over rest))
  all_here = (first_here rank home mono a (drop over rest) s.sorted s.high).0

  behind : All (λ x. a < home x) (drop here (drop over rest))
  behind = (first_here rank home mono a (drop over rest) s.sorted s.high).1

  on_page : length (part a) + (over + here - slots) ≡ over + here
  on_page =
      let t : min slots (up_to home a (part a ++ rest')) ≡ length (part a) = takes home slots a (part a) rest' packed_here.0 packed_here.1 packed_here.2 in
      omega (arith, rw (← next) at t, up)

  past : drop here (drop over rest) ≡ drop (over + here - slots) rest'
  past = drop-drop here over rest ∙ drop_page (part a) rest' rest (over + here) (over + here - slots) next on_page

  -- and then the others
  pub split : drop over rest ≡ take here (drop over rest) ++ drop (over + here - slots) rest'
  split = rw (← past) (sym (take-append-drop here (drop over rest)))

  front : take (over + here) rest ≡ part a ++ take (over + here - slots) rest'
  front = take_page (part a) rest' rest (over + here) (over + here - slots) next on_page

  pub passed_next : Passed rank home part cap (suc a) (over + here - slots)
  passed_next = record {
    within = omega arith;
    packed = packed_here.3;
    many = omega (arith, ap length next, length-append (part a) rest', few, on_page);
    low = all_right (λ x. home x < suc a) (part a) (take (over + here - slots) rest') (rw (← front, take-add over here rest) (all_append (λ x. home x < suc a) (take over rest) (take here (drop over rest))
        (all_map (λ x. home x < a) (λ x. home x < suc a) (λ x k. omega arith) (take over rest) s.low)
        (all_map (λ x. home x ≡ a) (λ x. home x < suc a) (λ x k. omega arith) (take here (drop over rest)) all_here)));
    high = rw (← past) (all_map (λ x. a < home x) (λ x. suc a ≤ home x) (λ x k. omega arith) (drop here (drop over rest)) behind);
    sorted = rw (← past) (sorted_drop rank here (drop over rest) s.sorted);
  }
