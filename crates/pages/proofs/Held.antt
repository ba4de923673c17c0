-- What a page in memory holds.
use mathlib.Core.Path.{◌≡◌, ap}
use mathlib.Core.List.{List, map}
use Prim.Native.Nat.{ℕ}
use lib.ListN.{length}
use Rattle.pages.specs.Page.{Record, key, value, run, padded, in_memory}
use Rattle.pages.specs.Steps.Slots.{records_of}
use Rattle.pages.specs.declared.Page.{Page}

-- a count and three rows hold these records
abbrev pub Held : ℕ → (ks vs us : List ℕ) → List Record → Type 0
Held n ks vs us rs = (n ≡ length rs) × (ks ≡ padded (map key rs)) × (vs ≡ padded (map value rs)) × (us ≡ padded (map run rs))

-- as those of a page hold its own
pub held : (p : Page) → p ≡ in_memory (records_of p) → Held p.count p.keys p.values p.runs (records_of p)
unfolding in_memory
held p e = (ap (λ (q : Page). q.count) e, ap (λ (q : Page). q.keys) e, ap (λ (q : Page). q.values) e, ap (λ (q : Page). q.runs) e)
