-- What the code knows of two files past their gates, and of the row in which their entries are sorted.
use Rattle.std.specs.Prelude.{ℕ, ◌+◌, ◌*◌, ◌≡◌, List, ◌++◌, map, length}
use Rattle.placing.specs.Image.{All, Distinct}
use Rattle.placing.specs.Lay.{count}
use Rattle.entries.specs.declared.Entry.{Entry}
use Rattle.entries.specs.Steps.Entries.{size, rank}
use Rattle.entries.proofs.Entries.{SizedEntry}
use Rattle.sites.specs.declared.Site.{Site}
use Rattle.sites.specs.declared.Which.TheVariants.{First, Second}
use Rattle.sites.specs.Steps.Sites.{on_pages, look}
use Rattle.two_sets.specs.Differences.{is_only_first, is_only_second, is_unlike}
use Rattle.differences.specs.Steps.Passes.{D, of_all, entry_of}
use Rattle.differences.specs.Steps.Unpacked.{more, wide}
use Rattle.comparisons.specs.declared.Counts.{Counts}

-- the entries of what a pass over each of two areas meets
abbrev pub entries_of_both : (here : Site) (area : List ℕ) (there : Site) (other : List ℕ) → List Entry
entries_of_both here area there other = map entry_of (of_all First (look there other) (on_pages here area)) ++ map entry_of (of_all Second (look here area) (on_pages there other))

-- a row that these entries fill from `base` on, with as much free before them as they grow
pub record Sortable (row : List ℕ) (base : ℕ) (es : List Entry) : Type 0 where
  pub long : length row ≡ base + size * length es
  pub free : base ≡ more * wide es
  pub once : Distinct rank es
  pub sized : All SizedEntry es

-- the three counts of a list
abbrev pub counts_of : List D → Counts
counts_of ds = record { first = count is_only_first ds; second = count is_only_second ds; both = count is_unlike ds }
