-- What a file holds, and how calls on two files count the pages that they read (02, requests 6 and 9).
use Rattle.std.specs.Prelude.{ℕ, zero, suc, ◌+◌, Bool, List, [], eqb}
use Rattle.layouts.specs.Layout.{Layout}
use Rattle.placing.specs.Image.{cat}
use Rattle.pages.specs.Page.{Record, value}
use Rattle.pages.specs.Area.{held_from}
use Rattle.state.specs.declared.State.{State}

-- the records that a file holds
unfoldable pub held_in : Layout → State → List ℕ → List Record
held_in f s area = cat (held_from f area s.cap 0) []

-- two records of one key say the same where they have one value
abbrev pub same : Record → Record → Bool
same x y = eqb (value x) (value y)

-- 01: ""Pages read" is the number of distinct pages judged", over both files; but "refusals 1, 2, .. read
-- 0", though pages of the first file were judged before
abbrev pub read_over : (before own : ℕ) → ℕ
read_over before zero = 0
read_over before (suc n) = before + suc n
