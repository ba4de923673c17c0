-- How a file is made anew: its records packed as entries, and pages filled from them.
use Rattle.std.specs.Prelude.{ℕ, zero, suc, ◌+◌, ◌*◌, cond, not, List, [], ◌∷◌, ◌++◌, map, take, leb, eqb}
use Rattle.layouts.specs.Layout.{in_use, slots_of}
use Rattle.placing.specs.Lay.{count}
use Rattle.pages.specs.Page.{Record, key, in_memory}
use Rattle.pages.specs.Area.{held_from}
use Rattle.entries.specs.declared.Entry.{Entry}
use Rattle.entries.specs.Steps.Entries.{size, home}
use Rattle.rebuild.specs.declared.Took.{Took}

-- how many slots a page has that is laid
abbrev pub slots : ℕ
slots = slots_of in_use

-- the entries of a page's records, each with its home and the page's address
abbrev pub tagged : (ℕ → ℕ) → ℕ → List Record → List Entry
tagged h a [] = []
tagged h a (x ∷ rs) = record { home = h (key x); from = a; held = x } ∷ tagged h a rs

-- the entries of pages, the first at address a
abbrev pub tagged_from : (ℕ → ℕ) → ℕ → List (List Record) → List Entry
tagged_from h a [] = []
tagged_from h a (p ∷ ps) = tagged h a p ++ tagged_from h (suc a) ps

-- the record of an entry
abbrev pub record_in : Entry → Record
record_in e = e.held

-- what an area of n pages holds, as entries
unfoldable pub packed : (ℕ → ℕ) → (n : ℕ) → List ℕ → List Entry
packed h n area = tagged_from h 0 (held_from in_use area n 0)

-- how many at the front, of b at most, have their home at a or lower
abbrev pub fitting : (b a : ℕ) → List Entry → ℕ
fitting zero a es = 0
fitting (suc b) a [] = 0
fitting (suc b) a (e ∷ es) = cond (leb (home e) a) (suc (fitting b a es)) 0

-- how many come from another page than a
abbrev pub hops : ℕ → List Entry → ℕ
hops a es = count (λ e. not (eqb e.from a)) es

-- the same of pages, the first at address a
abbrev pub hops_from : ℕ → List (List Entry) → ℕ
hops_from a [] = 0
hops_from a (p ∷ ps) = hops a p + hops_from (suc a) ps

-- page a filled from the entries at an offset
abbrev pub took : (a at : ℕ) → List Entry → Took
took a at es = let k = fitting slots a es in record { page = in_memory (map record_in (take k es)); next = at + size * k; moved = hops a (take k es) }
