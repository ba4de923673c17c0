-- An area in which keys are sought.
use Rattle.std.specs.Prelude.{ℕ, ◌*◌, ◌≤◌, ◌<◌, ◌≡◌, List, [], length}
use Rattle.std.proofs.Math.Option.{Option}
use Rattle.layouts.specs.Layout.{in_use, slots_of}
use Rattle.homes.specs.Homes.{Ready, shape_of, home_in}
use Rattle.placing.specs.Image.{cat, Image}
use Rattle.placing.specs.Walks.{find_in}
use Rattle.pages.specs.Page.{Record, key}
use Rattle.pages.specs.Area.{held_from}
use Rattle.pages.specs.Steps.Known.{KnownHere}
use Rattle.state.specs.declared.State.{State}
use Rattle.sites.specs.declared.Site.{Site}

-- what a search needs of a file
abbrev pub site_of : State → Site
site_of s = record { cap = s.cap; shape = shape_of s.params s.p }

-- the pages of an area, and the records on them
abbrev pub pages_at : Site → List ℕ → List (List Record)
pages_at site area = held_from in_use area site.cap 0

abbrev pub on_pages : Site → List ℕ → List Record
on_pages site area = cat (pages_at site area) []

-- an area in which a key can be sought: it is an image, and so the homes of most records are known
pub record Walkable (area : List ℕ) (site : Site) : Type 0 where
  pub few : site.cap ≤ 4096
  pub long : length area ≡ 256 * site.cap
  pub ready : Ready site.shape
  pub grown : site.shape.p ≤ site.cap
  pub image : Image key (home_in site.shape) (slots_of in_use) site.cap (on_pages site area) (pages_at site area)
  pub known : (a : ℕ) → a < site.cap → KnownHere in_use (home_in site.shape) area a

-- what an area tells of a key
unfoldable pub look : Site → List ℕ → (k : ℕ) → Option Record
look site area k = find_in key (home_in site.shape) (slots_of in_use) k (pages_at site area)
