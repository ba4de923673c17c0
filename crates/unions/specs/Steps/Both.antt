-- The records of two areas together, as the code meets them.
use Rattle.std.specs.Prelude.{ℕ, ◌≤◌, ◌<◌, ◌≡◌, List, ◌++◌, map, get_or, Option as Optional, None, Some}
use Rattle.std.proofs.Math.Option.{Option, none, some}
use Rattle.homes.specs.Homes.{home_in}
use Rattle.pages.specs.declared.Page.{Page}
use Rattle.pages.specs.Page.{Record, key}
use Rattle.pages.specs.Steps.Slots.{records_of}
use Rattle.entries.specs.declared.Entry.{Entry}
use Rattle.rebuild.specs.Steps.Rebuild.{tagged_from}
use Rattle.sites.specs.declared.Site.{Site}
use Rattle.sites.specs.Held.{same}
use Rattle.sites.specs.Steps.Sites.{pages_at, on_pages, look}
use Rattle.two_sets.specs.Steps.Lowest.{lowest_in, lacking}
use Rattle.unions.specs.declared.Sifted.{Sifted}

-- the key of a clash, from the code's `Option`
abbrev pub clash_by : Optional ℕ → Option ℕ
clash_by None = none
clash_by (Some k) = some k

-- what is left of a page's records, by what another file holds at their keys; of any homes that were told of all
-- of them, those of the rest are left
pub record Sifts (look : ℕ → Option Record) (p : Page) (here : List ℕ) (low : Optional ℕ) (r : Sifted) : Type 0 where
  pub few : r.page.count ≤ 12
  pub kept : records_of r.page ≡ lacking key look (records_of p)
  pub clash : clash_by r.clash ≡ lowest_in key same look (records_of p) (clash_by low)
  pub homes : (h : ℕ → ℕ) → ((i : ℕ) → i < p.count → get_or here i 0 ≡ h (get_or p.keys i 0)) → (i : ℕ) → i < r.page.count → get_or r.homes i 0 ≡ h (get_or r.page.keys i 0)

module _ (here : Site) (area : List ℕ) (there : Site) (other : List ℕ) where
  -- the records of an area that another file lacks
  abbrev pub lacking_on : List Record
  lacking_on = lacking key (look there other) (on_pages here area)

  -- with all of that file's
  abbrev pub both_of : List Record
  both_of = on_pages there other ++ lacking_on

  -- and as entries, page by page
  unfoldable pub lacking_entries : List Entry
  lacking_entries = tagged_from (home_in here.shape) 0 (map (lacking key (look there other)) (pages_at here area))
