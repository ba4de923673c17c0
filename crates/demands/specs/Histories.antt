-- Histories of calls: "From a fresh file, each call given the pages and state that the last one
-- left" (demands 2 and 3), and what the accepted calls make of a file. What is quoted is the
-- demands', or 01's where it says so.
use Rattle.std.specs.Prelude.{ℕ, ◌+◌, ◌-◌, ◌^◌, ◌<◌, cond, List, [], ◌∷◌, length, eqb}
use Rattle.std.proofs.Math.Option.{Option, none, some, map}
use Rattle.layouts.specs.Layout.{Layout}
use Rattle.homes.specs.declared.Params.{Params}
use Rattle.homes.specs.Homes.{first_pages}
use Rattle.pages.specs.Page.{Record, key, value}
use Rattle.pages.specs.Small.{Small}
use Rattle.state.specs.declared.State.{State}
use Rattle.register.specs.Files.{Call, format, find, put, remove, grow, shrink, check, due, File, left, numbers_of}

-- a record is one that the page layout takes (`Small`), and a key "any 64-bit value" (01); all other
-- numbers may be any
abbrev pub Fits : Layout → Call → Type 0
Fits l (format q cap) = Unit {0}
Fits l (find k) = k < 2 ^ 64
Fits l (put x) = Small l x
Fits l (remove k) = k < 2 ^ 64
Fits l (grow row) = Unit {0}
Fits l shrink = Unit {0}
Fits l check = Unit {0}
Fits l due = Unit {0}

-- 01: "refusal 0 means accepted"
abbrev pub refusal : File → Call → ℕ
refusal f c = (numbers_of (left f c).said).refusal

-- what is known of a fresh file: its page layout, and "parameters, lent size, pages grown to and
-- records held"
pub record Kept : Type 0 where
  pub layout : Layout
  pub params : Params
  pub cap : ℕ
  pub p : ℕ
  pub held : List Record

-- the state of such a file: r is "records held"
abbrev pub state_of : Kept → State
state_of m = record { params = m.params; p = m.p; cap = m.cap; r = length m.held }

-- the records without that of a request
unfoldable pub without : ℕ → List Record → List Record
without k [] = []
without k (x ∷ rs) = cond (eqb (key x) k) (without k rs) (x ∷ without k rs)

-- the record of a request, where there is one
unfoldable pub record_of : ℕ → List Record → Option Record
record_of k [] = none
record_of k (x ∷ rs) = cond (eqb (key x) k) (some x) (record_of k rs)

-- "a request's commit", where the records have one
unfoldable pub commit_of : ℕ → List Record → Option ℕ
commit_of k [] = none
commit_of k (x ∷ rs) = cond (eqb (key x) k) (some (value x)) (commit_of k rs)

-- just formatted: 01's "empty file, P = n0 x N"
abbrev pub begun : Layout → Params → (cap : ℕ) → Kept
begun l q cap = record { layout = l; params = q; cap = cap; p = first_pages q; held = [] }

-- with other records
abbrev pub holding : Kept → List Record → Kept
holding m rs = record { layout = m.layout; params = m.params; cap = m.cap; p = m.p; held = rs }

-- with one page more
abbrev pub paged : Kept → Kept
paged m = record { layout = m.layout; params = m.params; cap = m.cap; p = m.p + 1; held = m.held }

-- with one page less
abbrev pub unpaged : Kept → Kept
unpaged m = record { layout = m.layout; params = m.params; cap = m.cap; p = m.p - 1; held = m.held }

-- what an accepted call on a file of a layout makes of it. 01: an accepted format "begins a fresh
-- file, and what was held before no longer counts"
abbrev pub makes : Layout → Option Kept → Call → Option Kept
makes l o (format q cap) = some (begun l q cap)
makes l o (find k) = o
makes l o (put x) = map (λ m. holding m (x ∷ m.held)) o
makes l o (remove k) = map (λ m. holding m (without k m.held)) o
makes l o (grow row) = map paged o
makes l o shrink = map unpaged o
makes l o check = o
makes l o due = o

-- what "the accepted puts and removals leave", and the accepted growths and shrinkings: none before
-- the first accepted format
unfoldable pub kept : Option Kept → File → List Call → Option Kept
kept o f [] = o
kept o f (c ∷ cs) = kept (cond (eqb (refusal f c) 0) (makes f.layout o c) o) (left f c).file cs
