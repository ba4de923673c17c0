-- A law of images, over any records, any home of a key and any number of slots: a search from its home
-- on passes all pages up to one that it passes.
use mathlib.Core.Path.{◌≡◌, refl, ◌∙◌}
use mathlib.Core.Bool.{Bool, true, false, not, ◌&&◌, ◌||◌, false≢true}
use mathlib.Core.Option.{none}
use mathlib.Core.List.{List, [], ◌∷◌, ◌++◌}
use Prim.Native.Nat.{ℕ, zero, suc, ◌+◌, ◌≤◌, ◌<◌}
use native.Mathlib.Omega.{arith}
use native.Mathlib.Decide.{dec_le}
use borrow.Author.Tests.{ltb-true, ltb-false, lt-ltb, le-ltb}
use lib.Dec.{ltb}
use lib.ListN.{length, drop}
use Rattle.placing.specs.Image.{All, cat, page, home_of, Image}
use Rattle.placing.specs.Lay.{rank_of, rank_in, Sorted}
use Rattle.placing.specs.Walks.{seek, last_after, ends_on, find}
use Rattle.placing.proofs.Lists.{all_right, all_page}
use Rattle.placing.proofs.Order.{sorted_left, sorted_right}
use Rattle.placing.proofs.Seek.{seek_ne, seek_low}
use Rattle.placing.specs.Steps.Packed.{Packed}
use Rattle.placing.proofs.Find.{Sought}
use Rattle.placing.proofs.Rank.{Small, sought, rising_sorted}
use Rattle.placing.proofs.Tidy.{arranged_packed}
use Rattle.lookups.specs.Steps.Skips.{last_before, passes_on}

module _ {R : Type 0} (rank : R → ℕ) (b r : ℕ) where
  -- a page that neither holds what is sought nor is passed ends the search
  last_either : (p : List R) → 0 < length p → All (λ y. rank y ≡ r → ⊥) p → last_after rank r p ≡ not (last_before rank r p)
  last_either [] l n = absurd (omega arith)
  last_either (y ∷ []) l n = go (ltb (rank y) r) refl
    where
      go : (u : Bool) → ltb (rank y) r ≡ u → ltb r (rank y) ≡ not u
      go true e = le-ltb r (rank y) (omega (arith, ltb-true))
      go false e = lt-ltb r (rank y) (omega (arith, ltb-false, n.0))
  last_either (y ∷ (w ∷ p)) l n = last_either (w ∷ p) (omega arith) n.1

  pub ends_unpassed : (p : List R) → 1 ≤ b → seek rank r p ≡ none → ends_on rank b r p ≡ not (passes_on rank b r p)
  ends_unpassed p l e = go (ltb (length p) b) refl
    where
      go : (u : Bool) → ltb (length p) b ≡ u → (u || last_after rank r p) ≡ not (not u && last_before rank r p)
      go true t = refl
      go false t = last_either p (omega (arith, ltb-false)) (seek_ne rank r p e)

  -- after lower records alone nothing stands
  not_after : (p : List R) → All (λ y. rank y < r) p → last_after rank r p ≡ false
  not_after [] l = refl
  not_after (y ∷ []) l = le-ltb r (rank y) (omega (arith, l.0))
  not_after (y ∷ (w ∷ p)) l = not_after (w ∷ p) l.1

  passes_parts : (p : List R) → passes_on rank b r p ≡ true → (b ≤ length p) × (last_before rank r p ≡ true)
  passes_parts p e = go (ltb (length p) b) refl e
    where
      go : (u : Bool) → ltb (length p) b ≡ u → (not u && last_before rank r p) ≡ true → (b ≤ length p) × (last_before rank r p ≡ true)
      go true t e = absurd (false≢true e)
      go false t e = (ltb-false (length p) b t, e)

  -- a lower record, with what is known of all
  abbrev Lower : List R → Type 1
  Lower s = (P : R → Type 0) → All P s → (x : R) × (rank x < r) × P x

  last_lower : (p : List R) → last_before rank r p ≡ true → Lower p
  last_lower [] e P h = absurd (false≢true e)
  last_lower (y ∷ []) e P h = (y, ltb-true (rank y) r e, h.0)
  last_lower (y ∷ (w ∷ p)) e P h = last_lower (w ∷ p) e P h.1

  -- what stands before a lower record is lower
  before_lower : (s t : List R) → Sorted rank (s ++ t) → Lower t → All (λ y. rank y < r) s
  before_lower [] t h w = tt
  before_lower (y ∷ s) t h w =
      let x = w (λ x. rank y < rank x) (all_right (λ x. rank y < rank x) s t h.0) in
      (omega (arith, x.1, x.2), before_lower s t h.1 w)

  all_lower : (p : List R) → Sorted rank p → last_before rank r p ≡ true → All (λ y. rank y < r) p
  all_lower [] h e = tt
  all_lower (y ∷ []) h e = (ltb-true (rank y) r e, tt)
  all_lower (y ∷ (w ∷ p)) h e =
      let l = all_lower (w ∷ p) h.1 e in
      (omega (arith, l.0, h.0.0), l)

  -- a page that is passed is left out
  goes_on : (p : List R) (ps : List (List R)) → Sorted rank p → passes_on rank b r p ≡ true → find rank b r (p ∷ ps) ≡ find rank b r ps
  goes_on p ps s e =
      let w = passes_parts p e in
      let l = all_lower p s w.1 in
      rw (seek_low rank r p l, le-ltb (length p) b w.0, not_after p l)

  -- a full page with nothing but lower records is passed
  lower_last : (p : List R) → 0 < length p → All (λ y. rank y < r) p → last_before rank r p ≡ true
  lower_last [] l h = absurd (omega arith)
  lower_last (y ∷ []) l h = lt-ltb (rank y) r h.0
  lower_last (y ∷ (w ∷ p)) l h = lower_last (w ∷ p) (omega arith) h.1

  full_passed : (p : List R) → 1 ≤ b → b ≤ length p → All (λ y. rank y < r) p → passes_on rank b r p ≡ true
  full_passed p one f h = rw (le-ltb (length p) b f) (lower_last p (omega arith) h)

module _ {R : Type 0} (rank home : R → ℕ) (b r g : ℕ) (at : Sought rank home r g) (one : 1 ≤ b) where
  -- before a lower record all pages from the home on are full
  full_before : (a : ℕ) (p t : List R) → g ≤ a → (length p < b → All (λ x. a < home x) t) → Lower rank b r t → b ≤ length p
  full_before a p t h f w = go (dec_le b (length p))
    where
      go : Dec (b ≤ length p) → b ≤ length p
      go (yes l) = l
      go (no l) =
          let x = w (λ x. a < home x) (f (omega arith)) in
          absurd (omega (arith, x.1, at.below x.0 (omega (arith, x.2))))

  -- the pages from address a on: up to one that is passed, those from the home on are passed
  passed_before : (j mid a : ℕ) (ps : List (List R)) → j ≤ mid → g ≤ a + j → Sorted rank (cat ps []) → Packed home b a ps [] → passes_on rank b r (page ps mid) ≡ true → passes_on rank b r (page ps j) ≡ true
  passed_before j mid a [] l h s i e = e
  passed_before zero zero a (p ∷ ps) l h s i e = e
  passed_before zero (suc mid) a (p ∷ ps) l h s i e =
      let w : Lower rank b r (cat ps []) = λ P q. last_lower rank b r (page ps mid) (passes_parts rank b r (page ps mid) e).1 P (all_page P ps mid q) in
      full_passed rank b r p one (full_before a p (cat ps []) (omega arith) i.2 w) (before_lower rank b r p (cat ps []) s w)
  passed_before (suc j) zero a (p ∷ ps) l h s i e = absurd (omega arith)
  passed_before (suc j) (suc mid) a (p ∷ ps) l h s i e = passed_before j mid (suc a) ps (omega arith) (omega arith) (sorted_right rank p (cat ps []) s) i.3 e

  -- and a search from page lo on leaves them out
  skips : (lo mid a : ℕ) (ps : List (List R)) → lo ≤ mid → g ≤ a + lo → Sorted rank (cat ps []) → Packed home b a ps [] → passes_on rank b r (page ps mid) ≡ true
      → find rank b r (drop lo ps) ≡ find rank b r (drop (suc mid) ps)
  skips zero mid a [] l h s i e = refl
  skips (suc lo) mid a [] l h s i e = refl
  skips zero zero a (p ∷ ps) l h s i e = goes_on rank b r p ps (sorted_left rank p (cat ps []) s) e
  skips zero (suc mid) a (p ∷ ps) l h s i e =
      goes_on rank b r p ps (sorted_left rank p (cat ps []) s) (passed_before zero (suc mid) a (p ∷ ps) l h s i e)
      ∙ skips zero mid (suc a) ps (omega arith) (omega arith) (sorted_right rank p (cat ps []) s) i.3 e
  skips (suc lo) zero a (p ∷ ps) l h s i e = absurd (omega arith)
  skips (suc lo) (suc mid) a (p ∷ ps) l h s i e = skips lo mid (suc a) ps (omega arith) (omega arith) (sorted_right rank p (cat ps []) s) i.3 e

-- 01's "every page from its home up to the one before it full" and "rising (home, key)", as a search
-- by halves needs them
module _ {R : Type 0} (key : R → ℕ) (h : ℕ → ℕ) (b : ℕ) {n : ℕ} {s : List R} {ps : List (List R)} (i : Image key h b n s ps) (small : All (Small key h) (cat ps [])) (one : 1 ≤ b)
    (k lo mid : ℕ) (l : h k ≤ lo) (m : lo ≤ mid) (e : passes_on (rank_in key h) b (rank_of h k) (page ps mid) ≡ true) where
  sorted : Sorted (rank_in key h) (cat ps [])
  sorted = rising_sorted key h (cat ps []) small i.rising

  packed : Packed (home_of key h) b 0 ps []
  packed = arranged_packed key h b i.arranged i.full

  pub image_passes : passes_on (rank_in key h) b (rank_of h k) (page ps lo) ≡ true
  image_passes = passed_before (rank_in key h) (home_of key h) b (rank_of h k) (h k) (sought key h k) one lo mid 0 ps m (omega arith) sorted packed e

  pub image_skips : find (rank_in key h) b (rank_of h k) (drop lo ps) ≡ find (rank_in key h) b (rank_of h k) (drop (suc mid) ps)
  image_skips = skips (rank_in key h) (home_of key h) b (rank_of h k) (h k) (sought key h k) one lo mid 0 ps m (omega arith) sorted packed e
