-- Records that left, behind what stands on the pages from the new one on.
use Rattle.std.specs.Prelude.{ℕ, zero, suc, ◌+◌, ◌-◌, List, [], ◌∷◌, ◌++◌, map, length, take, drop}
use Rattle.pages.specs.Page.{Record}
use Rattle.entries.specs.declared.Entry.{Entry}
use Rattle.rebuild.specs.Steps.Rebuild.{slots, record_in, hops}

-- pages that take entries as far as they have slots, after the first n, which stay
abbrev pub topped : (n : ℕ) → List (List Record) → List Entry → List (List Record)
topped n [] m = []
topped (suc n) (p ∷ ps) m = p ∷ topped n ps m
topped zero (p ∷ ps) m = (p ++ map record_in (take (slots - length p) m)) ∷ topped zero ps (drop (slots - length p) m)

-- how many of these entries come from another page, where the first page is at address a
abbrev pub topped_hops : (n a : ℕ) → List (List Record) → List Entry → ℕ
topped_hops n a [] m = 0
topped_hops (suc n) a (p ∷ ps) m = topped_hops n (suc a) ps m
topped_hops zero a (p ∷ ps) m = hops a (take (slots - length p) m) + topped_hops zero (suc a) ps (drop (slots - length p) m)
