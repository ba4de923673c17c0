-- Records that stay, sunk page by page to where those that leave make room.
use Rattle.std.specs.Prelude.{ℕ, ◌+◌, ◌<◌, ◌≤◌, ◌≡◌, Bool, false, cond, not, ◌&&◌, ◌||◌, List, [], ◌∷◌, map, get_or, ltb, eqb}
use Rattle.layouts.specs.Layout.{in_use}
use Rattle.placing.specs.Image.{All, cat, Distinct, RecordSet}
use Rattle.placing.specs.Lay.{rank_in, lay, Sorted}
use Rattle.placing.specs.Rows.{at_home}
use Rattle.placing.specs.Steps.Keep.{keep}
use Rattle.placing.specs.Steps.Packed.{Packed}
use Rattle.pages.specs.Page.{key, home_for}
use Rattle.pages.specs.Area.{held_from, area_from}
use Rattle.entries.specs.declared.Entry.{Entry}
use Rattle.entries.specs.Steps.Entries.{entries_in, rank, home}
use Rattle.rebuild.specs.Steps.Rebuild.{slots, packed, record_in}
use Rattle.sliding.specs.declared.Place.{Place}
use Rattle.sliding.specs.Steps.Reading.{left, Whole}

-- whether the next one that leaves comes from page a
abbrev pub is_from : List Entry → ℕ → Bool
is_from [] a = false
is_from (e ∷ es) a = eqb e.from a

-- whether page a, which has `count` records and is to have `want`, may stay as it is: it has none, or
-- reading stands at its start and none of it leaves
abbrev pub calm_at : List ℕ → Place → (a count want : ℕ) → Bool
calm_at row p a count want =
    eqb count want && (eqb count 0 || (eqb p.page a && (eqb p.slot 0 && not (is_from (left row p.next) a))))

-- a place with page a behind it
abbrev pub past : Place → ℕ → Place
past p a = cond (eqb p.page a) (record { page = a + 1; slot = 0; next = p.next }) p

-- how many records of home a stay, where P is the new page
abbrev pub own_at : List ℕ → (P a : ℕ) → ℕ
own_at row P a = cond (ltb a P) (get_or row a 0) 0

-- a home below P stays
abbrev pub stays : (P : ℕ) → Entry → Bool
stays P e = ltb (home e) P

-- the entries of an area's records that stay, and those that leave
unfoldable pub staying : (ℕ → ℕ) → (P cap : ℕ) → List ℕ → List Entry
staying h P cap area = keep (stays P) (packed h cap area)

unfoldable pub leaving : (ℕ → ℕ) → (P cap : ℕ) → List ℕ → List Entry
leaving h P cap area = keep (λ e. not (stays P e)) (packed h cap area)

-- those that stay, laid anew
abbrev pub closed : (ℕ → ℕ) → (P cap : ℕ) → List ℕ → List (List Entry)
closed h P cap area = lay home slots cap 0 (staying h P cap area)

-- the bytes of pages of entries
abbrev pub bytes_of : List (List Entry) → List ℕ
bytes_of ps = area_from in_use 0 (map (map record_in) ps)

-- a file of which some leave: its pages are the bytes of their records, no key is there twice, those
-- that stay are in order and lie at home or higher, the row has those that leave, and the counts those
-- that stay
pub record Leaving (h : ℕ → ℕ) (P cap : ℕ) (area counts row : List ℕ) : Type 0 where
  pub formed : area ≡ area_from in_use 0 (held_from in_use area cap 0)
  pub once : Distinct (λ e. e.held.key) (packed h cap area)
  pub sorted : Sorted rank (staying h P cap area)
  pub lies : All (λ e. home e < P → home e ≤ e.from) (packed h cap area)
  pub leave : entries_in row ≡ leaving h P cap area
  pub whole : Whole 0 row
  pub homes : (c : ℕ) → c < P → get_or counts c 0 ≡ at_home home c (staying h P cap area)

-- an area that is the image of its records for the homes `was`, and the bytes of them
pub record WasImage (was : ℕ → ℕ) (cap : ℕ) (area : List ℕ) : Type 0 where
  pub packed : Packed (home_for was) slots 0 (held_from in_use area cap 0) []
  pub sorted : Sorted (rank_in key was) (cat (held_from in_use area cap 0) [])
  pub set : RecordSet key (cat (held_from in_use area cap 0) [])
  pub formed : area ≡ area_from in_use 0 (held_from in_use area cap 0)
