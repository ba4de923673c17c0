-- The table of a rule: what it has at each place.
--
use mathlib.Core.Path.{◌≡◌, refl}
use mathlib.Core.List.{List, [], ◌∷◌}
use Prim.Native.Nat.{ℕ, zero, suc, ◌<◌}
use native.Mathlib.Nat.{le_of_suc-le-suc, not-suc-le-zero}
use lib.ListN.{get_or}

-- what the rule gives for the places below n
abbrev pub table : (ℕ → ℕ) → (n : ℕ) → List ℕ
table rule zero = []
table rule (suc n) = rule 0 ∷ table (λ k. rule (suc k)) n

-- At each of these places it has what the rule gives. That a table is the table of a rule is
-- computed.
pub at : (rule : ℕ → ℕ) (n k : ℕ) → k < n → get_or (table rule n) k 0 ≡ rule k
at rule zero k h = absurd (not-suc-le-zero h)
at rule (suc n) zero h = refl
at rule (suc n) (suc k) h = at (λ j. rule (suc j)) n k (le_of_suc-le-suc h)
