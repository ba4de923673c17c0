-- What a look at all pages tells (01, 'The walks': check). What is quoted is 01's. h is the home of
-- a key.
use Rattle.std.specs.Prelude.{ℕ, suc, Bool, true, false, ◌&&◌, List, [], ◌∷◌, length, leb, Result, Ok, Err}
use Rattle.std.proofs.Math.Option.{Option, none, some}
use Rattle.layouts.specs.Layout.{Layout, slots_of}
use Rattle.placing.specs.Image.{cat}
use Rattle.placing.specs.Lay.{rank_in}
use Rattle.pages.specs.Page.{Record, key}
use Rattle.pages.specs.Area.{pages_from, held_from}
use Rattle.survey.specs.declared.Whole.{Whole}

-- "judge pages from 0 upward and stop at the first broken one": its address, the first page being
-- at a
abbrev pub lowest_broken : ℕ → List (Option (List Record)) → Option ℕ
lowest_broken a [] = none
lowest_broken a (none ∷ ps) = some a
lowest_broken a (some p ∷ ps) = lowest_broken (suc a) ps

-- what is told of pages of which none is broken, or the lowest broken one
abbrev pub Verdict : Type 0
Verdict = Result Whole ℕ

abbrev pub whole : (image : Bool) → (records : ℕ) → Whole
whole image records = record { image = image; records = records }

abbrev pub on_broken : Option ℕ → Whole → Verdict
on_broken (some a) w = Err a
on_broken none w = Ok w

module _ (h : ℕ → ℕ) where
  -- after a page that isn't full, no record on page a has a lower home: the first one's tells it
  abbrev pub starts_at_home : (full : Bool) → ℕ → List Record → Bool
  starts_at_home true a p = true
  starts_at_home false a [] = true
  starts_at_home false a (x ∷ p) = leb a (h (key x))

  -- the first record stands at `low` or after
  abbrev pub starts_at : ℕ → List Record → Bool
  starts_at low [] = true
  starts_at low (x ∷ p) = leb low (rank_in key h x)

  -- what stands after the last record of a page, or after those before it where it has none
  abbrev pub next_low : ℕ → List Record → ℕ
  next_low low [] = low
  next_low low (x ∷ []) = suc (rank_in key h x)
  next_low low (x ∷ (y ∷ p)) = next_low low (y ∷ p)

module _ (f : Layout) (h : ℕ → ℕ) where
  -- Whether pages that pass their rules are an image, page by page: `full` tells whether the page
  -- before is full, `low` what stands after all records so far. Proved to be 01's sentence
  -- (`SurveyPromises`).
  abbrev pub image_from : (full : Bool) → (low a : ℕ) → List (List Record) → Bool
  image_from full low a [] = true
  image_from full low a (p ∷ ps) =
      starts_at_home h full a p && (starts_at h low p && image_from (leb (slots_of f) (length p)) (next_low h low p) (suc a) ps)

  unfoldable pub is_image : List (List Record) → Bool
  is_image ps = image_from true 0 0 ps

  -- the lowest broken page; with none broken, whether the pages are an image, and of how many
  -- records
  unfoldable pub surveyed : List ℕ → (cap : ℕ) → Verdict
  surveyed area cap =
      on_broken (lowest_broken 0 (pages_from f h area cap 0)) (whole (is_image (held_from f area cap 0)) (length (cat (held_from f area cap 0) [])))
