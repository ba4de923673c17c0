-- What it is for a walk to have gone well: it writes these pages.
use mathlib.Core.Path.{◌≡◌, ap, ◌∙◌}
use mathlib.Core.List.{List, [], ◌∷◌, ◌++◌}
use Prim.Native.Nat.{ℕ}
use native.Mathlib.Omega.{arith}
use lib.ListN.{length, length-append}
use lib.Seq.{set_at}
use Rattle.layouts.specs.Layout.{Layout}
use Rattle.pages.specs.Page.{Record}
use Rattle.pages.specs.Area.{area_from, with_page}
use Rattle.pages.proofs.Areas.{with_area}
use Rattle.walks.specs.Walks.{Pages, Walked, went, and_page, writes}

-- the walk makes of the pages ps the pages qs, and tells so many records moved
pub record Went (form : Layout) (ps qs : List (List Record)) (moved : ℕ) (w : Walked) : Type 0 where
  pub pages : Pages
  pub read : ℕ
  pub goes : w ≡ went pages read moved
  pub leaves : writes form (area_from form 0 ps) pages ≡ area_from form 0 qs

module _ (form : Layout) (front : List (List Record)) (a : ℕ) (at : length front ≡ a) (was p : List Record) (qs : List (List Record)) where
  -- a page written is another page there
  page_written : with_page form (area_from form 0 (front ++ (was ∷ qs))) a p ≡ area_from form 0 (front ++ (p ∷ qs))
  page_written =
      with_area form a (front ++ (was ∷ qs)) p (omega (arith, length-append front (was ∷ qs))) ∙ ap (area_from form 0) (set_at front was qs p a at)

  -- so is the first of the pages that a walk writes
  pub wrote_went : {new : List (List Record)} {m : ℕ} {w : Walked} → Went form (front ++ (p ∷ qs)) new m w → Went form (front ++ (was ∷ qs)) new m (and_page a p w)
  wrote_went t = record { pages = (a, p) ∷ t.pages; read = t.read; goes = ap (and_page a p) t.goes; leaves = rw page_written t.leaves }

  -- and the only one
  pub one_went : (n m : ℕ) {t : ℕ} → m ≡ t → Went form (front ++ (was ∷ qs)) (front ++ (p ∷ qs)) t (went ((a, p) ∷ []) n m)
  one_went n m e = record { pages = (a, p) ∷ []; read = n; goes = ap (went ((a, p) ∷ []) n) e; leaves = page_written }
