-- What is promised of the survey's test of an image. What is quoted is 01's.
use Rattle.std.specs.Prelude.{ℕ, ◌*◌, ◌≤◌, ◌≡◌, true, ◌↔◌, List, [], map, length}
use Rattle.std.proofs.Math.Option.{some}
use Rattle.numbers.specs.Little.{Bytes}
use Rattle.layouts.specs.Layout.{Layout, slots_of}
use Rattle.placing.specs.Image.{cat, Image}
use Rattle.pages.specs.Page.{Record, key}
use Rattle.pages.specs.Area.{pages_from}
use Rattle.survey.specs.Survey.{is_image}

-- What is promised, and proved as `survey_promises` (proofs/Promises.antt), for any layout and any
-- home h of a key
pub record SurveyPromises : Type 0 where
  -- "An area is the image of a record set when all pages pass the page rules, each record lies at
  -- its home or higher with every page from its home up to the one before it full, and reading the
  -- pages upward gives rising (home, key), never equal.": where all pages pass, the test page by
  -- page says yes exactly when they are the image of the records that stand on them
  pub image_test : (f : Layout) (h : ℕ → ℕ) (area : List ℕ) (n : ℕ) (ps : List (List Record)) → Bytes area → 256 * n ≤ length area → pages_from f h area n 0 ≡ map some ps
      → (is_image f h ps ≡ true) ↔ Image key h (slots_of f) n (cat ps []) ps
