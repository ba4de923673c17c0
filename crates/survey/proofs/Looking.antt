-- One page of a survey, and the survey page by page: what is left to look at decides with what was
-- seen.
use mathlib.Core.Path.{◌≡◌, refl, sym, ◌∙◌}
use mathlib.Core.Bool.{Bool, true, false, ◌&&◌, ◌||◌, and_assoc, and-true}
use mathlib.Core.Option.{Option, none, some}
use mathlib.Core.List.{List, [], ◌∷◌, ◌++◌, map}
use Prim.Native.Nat.{ℕ, suc, ◌+◌, ◌-◌, ◌*◌, ◌≤◌, ◌<◌}
use native.Mathlib.Numerals.{add-one}
use native.Mathlib.Omega.{arith}
use lib.Dec.{leb, eqb}
use lib.ListN.{length, get_or, length-append}
use borrow.Author.Tests.{eqb-true, eqb-false, ne_eqb, le-leb, lt-leb}
use Rattle.layouts.proofs.Lying.{slots_few}
use Rattle.layouts.specs.Layout.{Layout, slots_of}
use Rattle.placing.specs.Image.{cat}
use Rattle.placing.specs.Lay.{rank_in, ranked}
use Rattle.pages.specs.declared.Judged.{Judged}
use Rattle.pages.specs.Page.{Record, key, records_in, read_page, padded, judged, judged_page}
use Rattle.pages.specs.Area.{part_at, pages_from, held_from}
use Rattle.pages.proofs.Read.{held_few, held_twelve}
use Rattle.pages.proofs.Judging.{judged_broken, judged_good, judged_held}
use Rattle.survey.specs.declared.Seen.{Seen}
use Rattle.std.proofs.Common.{Ok, Err}
use Rattle.survey.specs.Survey.{whole, lowest_broken, starts_at_home, starts_at, next_low, image_from, is_image, surveyed}
use Rattle.survey.specs.Steps.Looks.{unseen, rises_from, looked}
use Rattle.pages.specs.declared.Rank.{Rank}
use Rattle.std.specs.Prelude.{None, Some}
use Rattle.std.specs.Prelude as Std

-- what stands after a record, if there is any
abbrev pub after_last : Std.Option Rank → ℕ
after_last None = 0
after_last (Some last) = suc (ranked last.home last.key)

-- what stands after the last record that was seen
abbrev pub low_after : Seen → ℕ
low_after s = after_last s.last

-- a page is full with as many records as it has slots
full_page : (b n : ℕ) → n ≤ b → eqb n b ≡ leb b n
full_page b n l = go (eqb n b) refl
  where
    go : (u : Bool) → eqb n b ≡ u → u ≡ leb b n
    go true e = sym (le-leb b n (omega (arith, eqb-true n b e)))
    go false e = sym (lt-leb b n (let ne : (n ≡ b → ⊥) = eqb-false n b e in omega arith))

module _ (f : Layout) (h : ℕ → ℕ) where
  starts_none : (full : Bool) (a : ℕ) → starts_at_home h full a [] ≡ true
  starts_none true a = refl
  starts_none false a = refl

  starts_home : (full : Bool) (a : ℕ) (x : Record) (p : List Record) → starts_at_home h full a (x ∷ p) ≡ (full || leb a (h (key x)))
  starts_home true a x p = refl
  starts_home false a x p = refl

  starts_after : (last : Std.Option Rank) (x : Record) (p : List Record) → starts_at h (after_last last) (x ∷ p) ≡ rises_from last (h (key x)) (key x)
  starts_after None x p = le-leb 0 (rank_in key h x) (omega arith)
  starts_after (Some last) x p = refl

  -- the rows tell what stands after the last record of a page
  rows_low : (low : ℕ) (x : Record) (p : List Record) (us vs : List ℕ)
      → suc (ranked (get_or (map (λ y. h (key y)) (x ∷ p) ++ us) (length p) 0) (get_or (map key (x ∷ p) ++ vs) (length p) 0)) ≡ next_low h low (x ∷ p)
  rows_low low x [] us vs = refl
  rows_low low x (y ∷ p) us vs = rows_low low y p us vs

  -- what was seen, and what is left to look at from page a on
  abbrev decides : Seen → ℕ → List (List Record) → Bool
  decides s a ps = s.image && image_from f h s.full (low_after s) a ps

  -- what was seen after a page, from the rows of its homes and keys
  abbrev after : Seen → ℕ → List Record → Seen
  after s a p = looked f s a (length p) (padded (map (λ x. h (key x)) p)) (padded (map key p))

  -- a look at a page leaves the rest to decide
  look_decides : (s : Seen) (a : ℕ) (p : List Record) (ps : List (List Record)) → length p ≤ (slots_of f) → decides (after s a p) (suc a) ps ≡ decides s a (p ∷ ps)
  look_decides s a [] ps l = rw (starts_none s.full a, lt-leb (slots_of f) 0 (slots_few f).0)
  look_decides s a (x ∷ p) ps l =
      let hs : List ℕ = padded (map (λ y. h (key y)) (x ∷ p)) in
      let ks : List ℕ = padded (map key (x ∷ p)) in
      let n : ℕ = suc (length p) in
      let z : n - 1 ≡ length p = omega arith in
      rw (ne_eqb n 0 (λ e. omega arith), z, full_page (slots_of f) n l, rows_low (low_after s) x p _ _, ← starts_home s.full a x p, ← starts_after s.last x p)
      (simp and_assoc)

  look_records : (s : Seen) (a : ℕ) (p : List Record) → (after s a p).records ≡ s.records + length p
  look_records s a [] = refl
  look_records s a (x ∷ p) = rw (ne_eqb (suc (length p)) 0 (λ e. omega arith))

module _ (f : Layout) (h : ℕ → ℕ) (area : List ℕ) (cap : ℕ) where
  -- page a as it is read
  abbrev pub page_at : ℕ → Option (List Record)
  page_at a = read_page f h a (part_at area a)

  -- what is left of a survey from page a on, all pages below being good: the lowest broken page,
  -- the records and the image are there to be told
  abbrev pub ToSurvey : Seen → ℕ → Type 0
  ToSurvey s a =
      (lowest_broken a (pages_from f h area (cap - a) a) ≡ lowest_broken 0 (pages_from f h area cap 0))
      × (decides f h s a (held_from f area (cap - a) a) ≡ is_image f h (held_from f area cap 0))
      × (s.records + length (cat (held_from f area (cap - a) a) []) ≡ length (cat (held_from f area cap 0) []))
      × (s.records ≤ 12 * a)

  -- at the start all is left
  pub survey_starts : (s : Seen) → s ≡ unseen → ToSurvey s 0
  unfolding is_image
  survey_starts s u =
      let e : cap - 0 ≡ cap = omega arith in
      rw (e, u) (refl, refl, omega arith, omega arith)

  module _ (s : Seen) (a : ℕ) (l : a < cap) (left : ToSurvey s a) (o : Std.Option Judged) (e : o ≡ judged h (page_at a)) where
    more : cap - a ≡ suc (cap - suc a)
    more = omega arith

    -- a broken page is the lowest one
    pub survey_breaks : o ≡ None → Err a ≡ surveyed f h area cap
    unfolding surveyed
    survey_breaks b =
        let w : some a ≡ lowest_broken 0 (pages_from f h area cap 0) = rw (more, judged_broken h (page_at a) o e b) at left.0 in
        rw (← w)

    -- a good one leaves those after it
    pub survey_goes_on : (j : Judged) → o ≡ Some j → (t : Seen) → t ≡ looked f s a j.count j.homes j.keys → ToSurvey t (a + 1)
    unfolding judged_page
    survey_goes_on j b t n =
        let rs : List Record = records_in f (part_at area a) in
        let rest : List (List Record) = held_from f area (cap - suc a) (suc a) in
        let m : t ≡ after f h s a rs = n ∙ rw (judged_held f h a (part_at area a) o j e b) in
        let q : page_at a ≡ some rs = judged_good f h a (part_at area a) o j e b in
        let w : lowest_broken (suc a) (pages_from f h area (cap - suc a) (suc a)) ≡ lowest_broken 0 (pages_from f h area cap 0) = rw (more, q) at left.0 in
        let i : decides f h s a (rs ∷ rest) ≡ is_image f h (held_from f area cap 0) = rw more at left.1 in
        let c : s.records + length (rs ++ cat rest []) ≡ length (cat (held_from f area cap 0) []) = rw more at left.2 in
        let r : (after f h s a rs).records ≡ s.records + length rs = look_records f h s a rs in
        rw (add-one, m)
        (w, look_decides f h s a rs rest (held_few f (part_at area a)) ∙ i, omega (arith, length-append rs (cat rest [])), omega (arith, held_twelve f (part_at area a)))

  -- with no page left the pages are whole
  pub survey_ends : (s : Seen) (a : ℕ) → cap ≤ a → ToSurvey s a → Ok (whole s.image s.records) ≡ surveyed f h area cap
  unfolding surveyed
  survey_ends s a l left =
      let z : cap - a ≡ 0 = omega arith in
      let w : none ≡ lowest_broken 0 (pages_from f h area cap 0) = rw z at left.0 in
      let i : s.image ≡ is_image f h (held_from f area cap 0) = rw (z, and-true) at left.1 in
      let r : s.records + 0 ≡ length (cat (held_from f area cap 0) []) = rw z at left.2 in
      let n : s.records ≡ length (cat (held_from f area cap 0) []) = omega arith in
      rw (← w, ← i, ← n)
