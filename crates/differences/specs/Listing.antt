-- The list of what differs between two files, in bytes (02, request 6), over any layout. What is quoted
-- is the request's.
use Rattle.std.specs.Prelude.{ℕ, ◌+◌, List, [], ◌∷◌, ◌++◌}
use Rattle.numbers.specs.Fields.{Field, width, encode}
use Rattle.layouts.specs.Layout.{Layout, width_of}
use Rattle.placing.specs.Lay.{count}
use Rattle.pages.specs.Page.{Record, key, payload, slot}
use Rattle.two_sets.specs.Differences.{Difference, only_first, only_second, unlike, is_only_first, is_only_second, is_unlike}

-- "kind 769 for a record only in the first, 770 for one only in the second .., 771 for a key in both
-- with two values"
abbrev pub kind_of : Difference Record → ℕ
kind_of (only_first x) = 769
kind_of (only_second y) = 770
kind_of (unlike x y) = 771

module _ (f : Layout) where
  -- a record of the list. Of one file: "each key and value, length 20", as a slot of a page has them.
  -- Of both: "key, first value, second value, length 28", longer by the second value
  abbrev pub fields : Difference Record → List Field
  fields (only_first x) = slot f (kind_of (only_first x)) x
  fields (only_second y) = slot f (kind_of (only_second y)) y
  fields (unlike x y) = (2, width_of f + width (payload f y)) ∷ (2, kind_of (unlike x y)) ∷ (8, key x) ∷ (payload f x ++ payload f y)

  abbrev pub record_bytes : List (Difference Record) → List ℕ
  record_bytes [] = []
  record_bytes (d ∷ ds) = encode (fields d) ++ record_bytes ds

-- "kind 772, length 16: the three counts, four bytes each"
abbrev pub closing : (first second both : ℕ) → List Field
closing first second both = (2, 16) ∷ (2, 772) ∷ (4, first) ∷ (4, second) ∷ (4, both) ∷ []

-- the whole list: "It closes with kind 772"
unfoldable pub listing : Layout → List (Difference Record) → List ℕ
listing f ds = record_bytes f ds ++ encode (closing (count is_only_first ds) (count is_only_second ds) (count is_unlike ds))
