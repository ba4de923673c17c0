-- A page in memory holds its records.
use mathlib.Core.Path.{◌≡◌, refl, ap, ◌∙◌}
use mathlib.Core.List.{List, [], ◌∷◌, ◌++◌, map}
use Prim.Native.Nat.{ℕ}
use lib.ListN.{length}
use Rattle.pages.specs.declared.Page.{Page}
use Rattle.pages.specs.Page.{Record, key, value, run, in_memory}
use Rattle.pages.specs.Steps.Slots.{paired, records_of}

paired_rows : (rs : List Record) (ks vs us : List ℕ) → paired (length rs) (map key rs ++ ks) (map value rs ++ vs) (map run rs ++ us) ≡ rs
paired_rows [] ks vs us = refl
paired_rows (x ∷ rs) ks vs us = ap (λ (s : List Record). x ∷ s) (paired_rows rs ks vs us)

pub memory : (rs : List Record) → records_of (in_memory rs) ≡ rs
unfolding records_of in_memory
memory rs = paired_rows rs _ _ _

-- so does one that is known to be such a page
pub page_count : (p : Page) (rs : List Record) → p ≡ in_memory rs → p.count ≡ length rs
unfolding in_memory
page_count p rs e = rw e

pub page_records : (p : Page) (rs : List Record) → p ≡ in_memory rs → records_of p ≡ rs
page_records p rs e = ap records_of e ∙ memory rs
