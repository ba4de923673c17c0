-- Records read in the order of their pages, where those that leave are passed over.
use Rattle.std.specs.Prelude.{ℕ, zero, suc, ◌+◌, ◌-◌, ◌*◌, ◌/◌, ◌≤◌, ◌<◌, ◌≡◌, Bool, false, cond, List, [], ◌∷◌, map, length, drop, get_or, eqb}
use Rattle.layouts.specs.Layout.{in_use}
use Rattle.pages.specs.Page.{Record, vacant, in_memory, records_in}
use Rattle.pages.specs.Area.{part_at, held_from}
use Rattle.entries.specs.declared.Entry.{Entry}
use Rattle.entries.specs.Steps.Entries.{size, entries_in}
use Rattle.rebuild.specs.Steps.Rebuild.{tagged_from, record_in, hops}
use Rattle.sliding.specs.declared.Place.{Place}
use Rattle.sliding.specs.declared.Pulled.{Pulled}

-- what a page holds
abbrev pub held : List ℕ → ℕ → List Record
held area r = records_in in_use (part_at area r)

-- the entries of the pages of an area from page r on
abbrev pub onward : (ℕ → ℕ) → List ℕ → (cap r : ℕ) → List Entry
onward h area cap r = tagged_from h r (held_from in_use area (cap - r) r)

-- those from slot i of page r on
unfoldable pub rest : (ℕ → ℕ) → List ℕ → (cap r i : ℕ) → List Entry
rest h area cap r i = drop i (onward h area cap r)

-- the entries of a row from an offset on
abbrev pub left : List ℕ → ℕ → List Entry
left row at = entries_in (drop at row)

-- whether a key is that of the next one that leaves
abbrev pub is_next : List Entry → ℕ → Bool
is_next [] k = false
is_next (e ∷ es) k = eqb k e.held.key

abbrev pub behind : List Entry → List Entry
behind [] = []
behind (e ∷ es) = es

-- Entries are read, of which es leave, until k that stay are taken and the next one stays: those that
-- are taken
abbrev pub stayed : (k : ℕ) → (es xs : List Entry) → List Entry
stayed zero es xs = []
stayed (suc k) es [] = []
stayed (suc k) es (x ∷ xs) = cond (is_next es x.held.key) (stayed (suc k) (behind es) xs) (x ∷ stayed k es xs)

-- what is made of those that leave and weren't met then, and of those that weren't read
abbrev pub after : (List Entry → List Entry → List Entry) → (k : ℕ) → (es xs : List Entry) → List Entry
after f k es [] = f es []
after f zero es (x ∷ xs) = cond (is_next es x.held.key) (after f zero (behind es) xs) (f es (x ∷ xs))
after f (suc k) es (x ∷ xs) = cond (is_next es x.held.key) (after f (suc k) (behind es) xs) (after f k es xs)

abbrev pub unmet : (k : ℕ) → (es xs : List Entry) → List Entry
unmet k es xs = after (λ e x. e) k es xs

abbrev pub unread : (k : ℕ) → (es xs : List Entry) → List Entry
unread k es xs = after (λ e x. x) k es xs

-- whole entries stand in a row from an offset on
abbrev pub Whole : ℕ → List ℕ → Type 0
Whole at row = length row ≡ at + size * ((length row - at) / size)

-- a place among the records of an area, and among those of a row; behind the last page it is one place
pub record Stands (area : List ℕ) (cap : ℕ) (row : List ℕ) (p : Place) : Type 0 where
  pub within : p.page ≤ cap
  pub slot : p.page < cap → p.slot ≤ length (held area p.page)
  pub end : p.page ≡ cap → p.slot ≡ 0
  pub inside : p.next ≤ length row
  pub whole : Whole p.next row

-- a place at or after another, where a record stands that stays
pub record Stays (area : List ℕ) (cap : ℕ) (row : List ℕ) (from p : Place) : Type 0 where
  pub stands : Stands area cap row p
  pub onward : from.page ≤ p.page
  pub here : p.page < cap → p.slot < length (held area p.page)
  pub next : p.page < cap → is_next (left row p.next) (get_or (held area p.page) p.slot vacant).key ≡ false

-- what is left from a place on, past those that leave, where the records have the homes h
pub record Passes (h : ℕ → ℕ) (area : List ℕ) (cap : ℕ) (row : List ℕ) (from p : Place) : Type 0 where
  pub read : rest h area cap p.page p.slot ≡ unread 0 (left row from.next) (rest h area cap from.page from.slot)
  pub met : left row p.next ≡ unmet 0 (left row from.next) (rest h area cap from.page from.slot)
  pub near : p.page ≡ from.page → from.slot ≤ p.slot

-- a page filled from a place on
pub record Pulls (h : ℕ → ℕ) (area : List ℕ) (cap : ℕ) (row : List ℕ) (from : Place) (want a : ℕ) (r : Pulled) : Type 0 where
  pub page : r.page ≡ in_memory (map record_in (stayed want (left row from.next) (rest h area cap from.page from.slot)))
  pub moved : r.moved ≡ hops a (stayed want (left row from.next) (rest h area cap from.page from.slot))
  pub read : rest h area cap r.place.page r.place.slot ≡ unread want (left row from.next) (rest h area cap from.page from.slot)
  pub met : left row r.place.next ≡ unmet want (left row from.next) (rest h area cap from.page from.slot)
  pub near : r.place.page ≡ from.page → from.slot + length (stayed want (left row from.next) (rest h area cap from.page from.slot)) ≤ r.place.slot
