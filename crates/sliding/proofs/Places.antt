-- The records from a place on: the next one, the end of a page, and the end of the area.
use mathlib.Core.Path.{◌≡◌, refl, ap}
use mathlib.Core.Bool.{true, false, false≢true}
use mathlib.Core.List.{List, [], ◌∷◌, ◌++◌}
use Prim.Native.Nat.{ℕ, zero, suc, ◌+◌, ◌-◌, ◌≤◌, ◌<◌}
use native.Mathlib.Numerals.{add-one}
use native.Mathlib.Omega.{arith}
use native.Mathlib.Decide.{dec_le}
use lib.ListN.{length, drop, get_or}
use lib.Dec.{eqb}
use lib.Seq.{drop-append_seam}
use Rattle.numbers.specs.Little.{number_at}
use Rattle.pages.specs.Page.{Record, vacant}
use Rattle.entries.specs.declared.Entry.{Entry}
use Rattle.entries.specs.Steps.Entries.{size, entry_at}
use Rattle.entries.proofs.Reading.{left_first, left_none}
use Rattle.rebuild.specs.Steps.Rebuild.{tagged}
use Rattle.rebuild.proofs.Tags.{tagged-length}
use Rattle.sliding.specs.Steps.Reading.{held, onward, rest, left, is_next, behind, Whole}
use Rattle.sliding.specs.Steps.Closing.{is_from}

-- the entry of a record of a page
abbrev pub entry_on : (ℕ → ℕ) → ℕ → Record → Entry
entry_on h r x = record { home = h x.key; from = r; held = x }

drop-tagged : (h : ℕ → ℕ) (r : ℕ) (p : List Record) (t : List Entry) (i : ℕ) → i < length p
    → drop i (tagged h r p ++ t) ≡ entry_on h r (get_or p i vacant) ∷ drop (suc i) (tagged h r p ++ t)
drop-tagged h r [] t i l = absurd (omega arith)
drop-tagged h r (x ∷ p) t zero l = refl
drop-tagged h r (x ∷ p) t (suc i) l = drop-tagged h r p t i (omega arith)

none_left : (i : ℕ) → ◌≡◌ {A = List Entry} (drop i []) []
none_left zero = refl
none_left (suc i) = refl

module _ (h : ℕ → ℕ) (area : List ℕ) (cap r : ℕ) where
  pub onward_page : r < cap → onward h area cap r ≡ tagged h r (held area r) ++ onward h area cap (suc r)
  onward_page l = let e : cap - r ≡ suc (cap - suc r) = omega arith in rw e

  pub rest_first : (i : ℕ) → r < cap → i < length (held area r) → rest h area cap r i ≡ entry_on h r (get_or (held area r) i vacant) ∷ rest h area cap r (i + 1)
  unfolding rest
  rest_first i l k = rw (add-one, onward_page l) (drop-tagged h r (held area r) (onward h area cap (suc r)) i k)

  pub rest_page : (i : ℕ) → r < cap → i ≡ length (held area r) → rest h area cap r i ≡ rest h area cap (r + 1) 0
  unfolding rest
  rest_page i l k =
      rw (add-one, k, onward_page l, ← tagged-length h r (held area r), drop-append_seam (tagged h r (held area r)) (onward h area cap (suc r)))

  pub rest_end : (i : ℕ) → cap ≤ r → rest h area cap r i ≡ []
  unfolding rest
  rest_end i l = let z : cap - r ≡ 0 = omega arith in rw z (none_left i)

-- one that leaves stands in the row, and those behind it after it
pub next_there : (row : List ℕ) (at k : ℕ) → Whole at row → is_next (left row at) k ≡ true → (at + size ≤ length row) × (behind (left row at) ≡ left row (at + size))
next_there row at k w e = go (dec_le (length row) at)
  where
    go : Dec (length row ≤ at) → (at + size ≤ length row) × (behind (left row at) ≡ left row (at + size))
    go (yes l) = absurd (false≢true (rw (left_none row at l) at e))
    go (no l) = let m : at + size ≤ length row = omega (arith, w) in (m, ap behind (left_first row at m))

-- none is left at the end of a row
pub next_none : (row : List ℕ) (at k : ℕ) → length row ≤ at → false ≡ is_next (left row at) k
next_none row at k l = rw (left_none row at l)

-- before it the next one's key decides
pub next_key : (row : List ℕ) (at k : ℕ) → at + size ≤ length row → is_next (left row at) k ≡ eqb k (number_at 8 row (at + 4))
unfolding entry_at
next_key row at k l = rw (left_first row at l)

-- and the page that it comes from stands two bytes on
pub from_none : (row : List ℕ) (at a : ℕ) → length row ≤ at → false ≡ is_from (left row at) a
from_none row at a l = rw (left_none row at l)

pub from_there : (row : List ℕ) (at a : ℕ) → at + size ≤ length row → is_from (left row at) a ≡ eqb (number_at 2 row (at + 2)) a
unfolding entry_at
from_there row at a l = rw (left_first row at l)
