-- New homes for the keys of a file, and on which pages the old ones stay. A step between code and
-- definition.
use Rattle.std.specs.Prelude.{ℕ, ◌+◌, ◌≡◌, Bool, true, false, ◌↔◌, ◌⊎◌, Option, Some, None}
use Rattle.homes.specs.declared.Shape.{Shape}
use Rattle.homes.specs.declared.new_homes.Beside.{Beside}
use Rattle.homes.specs.declared.new_homes.NewHomes.{NewHomes}
use Rattle.homes.specs.Homes.{Ready, shape_of, home_in}
use Rattle.homes.specs.Steps.Last.{Within, last_step, stays_at}

-- the new home of a key
abbrev pub new_home : NewHomes → ℕ → ℕ
new_home new = home_in new.shape

-- what is asked of where they stay
abbrev pub StaysWithin : Option Beside → Type 0
StaysWithin None = Unit {0}
StaysWithin (Some beside) = Within beside.last

-- new homes whose numbers are in range
pub record Usable (new : NewHomes) : Type 0 where
  pub ready : Ready new.shape
  pub step : StaysWithin new.stays

-- whether page a is known to keep its keys: all that had their home there have it there still
abbrev pub kept_by : Shape → Option Beside → (a : ℕ) → Bool
kept_by shape None a = false
kept_by shape (Some beside) a = stays_at shape.params.s beside.last beside.added a

unfoldable pub keeps_at : NewHomes → (a : ℕ) → Bool
keeps_at new a = kept_by new.shape new.stays a

-- p pages and q pages differ by the page `added`
abbrev pub Differ : (added p q : ℕ) → Type 0
Differ added p q = ((p ≡ added) × (q ≡ added + 1)) ⊎ ((p ≡ added + 1) × (q ≡ added))

-- new homes after those of an old shape: where homes stay beside a page, that one of the two files
-- is the other with that page more, and the step its last
abbrev pub Follows : (old : Shape) → NewHomes → Option Beside → Type 0
Follows old new None = Unit {0}
Follows old new (Some beside) = (new.shape.params ≡ old.params) × (beside.last ≡ last_step (shape_of old.params (beside.added + 1))) × Differ beside.added old.p new.shape.p

-- on a page that keeps its keys, a key has its new home exactly where it had its home there before
abbrev pub Agrees : (before : ℕ → ℕ) → NewHomes → Type 0
Agrees before new = (k a : ℕ) → keeps_at new a ≡ true → (before k ≡ a) ↔ (new_home new k ≡ a)
