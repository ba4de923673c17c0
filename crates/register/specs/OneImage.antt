-- What it is for an area to be an image (01, 'The one image'). What is quoted is 01's.
use Rattle.std.specs.Prelude.{ℕ, ◌≡◌, List, map, length}
use Rattle.std.proofs.Math.Option.{some}
use Rattle.layouts.specs.Layout.{Layout, slots_of}
use Rattle.placing.specs.Image.{RecordSet, Image}
use Rattle.pages.specs.Page.{Record, key}
use Rattle.pages.specs.Area.{pages_from, area_from}
use Rattle.state.specs.declared.State.{State}
use Rattle.state.specs.State.{homes}

-- "An area is the image of a record set when all pages pass the page rules", and the records lie as
-- `Image` says; it is the bytes of the pages, and nothing else
pub record AreaImage (f : Layout) (s : State) (area : List ℕ) (rs : List Record) : Type 0 where
  pub pages : List (List Record)
  pub bytes : area ≡ area_from f 0 pages
  pub pass : pages_from f (homes s) area s.cap 0 ≡ map some pages
  pub image : Image key (homes s) (slots_of f) s.cap rs pages

-- "the area is the image of r records"
pub record ImageOfR (f : Layout) (s : State) (area : List ℕ) : Type 0 where
  pub records : List Record
  pub set : RecordSet key records
  pub count : length records ≡ s.r
  pub is : AreaImage f s area records
