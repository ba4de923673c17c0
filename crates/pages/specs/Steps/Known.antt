-- What is known of the homes of a page's records before they are worked out. A step between code
-- and definition.
use Rattle.std.specs.Prelude.{ℕ, zero, suc, ◌≡◌, Bool, true, false, not, ◌&&◌, List, [], ◌∷◌, length, leb}
use Rattle.layouts.specs.Layout.{Layout, slots_of}
use Rattle.homes.specs.declared.new_homes.NewHomes.{NewHomes}
use Rattle.homes.specs.Steps.NewHomes.{new_home, keeps_at}
use Rattle.placing.specs.Image.{All}
use Rattle.pages.specs.declared.known.AtHome.{AtHome}
use Rattle.pages.specs.declared.known.AtHome.TheVariants.{All as AllKnown, AfterOne, Unknown}
use Rattle.pages.specs.Page.{Record, key, records_in}
use Rattle.pages.specs.Area.{part_at}

module _ (h : ℕ → ℕ) (a : ℕ) where
  -- all have their home on page a
  abbrev pub AllHere : List Record → Type 0
  AllHere rs = All (λ x. h (key x) ≡ a) rs

  -- so have all after one that has
  abbrev pub OnceHere : List Record → Type 0
  OnceHere [] = Unit {0}
  OnceHere (x ∷ rs) = (h (key x) ≡ a → AllHere rs) × OnceHere rs

  -- which of the two are known
  abbrev pub Known : (all once : Bool) → List Record → Type 0
  Known all once rs = (all ≡ true → AllHere rs) × (once ≡ true → OnceHere rs)

  -- and what the code has in place of the two
  abbrev pub KnownAs : AtHome → List Record → Type 0
  KnownAs AllKnown rs = AllHere rs
  KnownAs AfterOne rs = OnceHere rs
  KnownAs Unknown rs = Unit {0}

-- whether there is a page before page a, and it says that it is full
abbrev pub full_before : Layout → List ℕ → ℕ → Bool
full_before f area zero = false
full_before f area (suc b) = leb (slots_of f) (length (records_in f (part_at area b)))

-- what is known of page a of an area that is an image for the homes h: after a page that isn't full, all are at
-- home
abbrev pub KnownHere : Layout → (ℕ → ℕ) → List ℕ → ℕ → Type 0
KnownHere f h area a = Known h a (not (full_before f area a)) true (records_in f (part_at area a))

-- what is known of page a of an area for new homes, if it is one of the pages that keep their keys:
-- after a page that isn't full, all are at home
abbrev pub KnownAt : Layout → NewHomes → List ℕ → ℕ → Type 0
KnownAt f new area a = Known (new_home new) a (keeps_at new a && not (full_before f area a)) (keeps_at new a) (records_in f (part_at area a))
