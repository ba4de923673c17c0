-- A row of n numbers that a loop fills: the places passed hold what they are to hold.
--
use mathlib.Core.Path.{◌≡◌, ◌∙◌}
use mathlib.Core.List.{List}
use mathlib.Core.Logic.{⊎_elim}
use Prim.Native.Nat.{ℕ, ◌+◌, ◌≤◌, ◌<◌}
use native.Mathlib.Omega.{arith}
use lib.ListN.{length, get_or, set, length-set}
use lib.Seq.{get_or-set_same, get_or-set_other}
use Rattle.homes.specs.declared.lane.Lane.{Lane}
use Rattle.draws.proofs.Split.{split}

-- the first i places of the row are those that `new` says
pub record Passed (n : ℕ) (new : ℕ → ℕ) (row : List ℕ) (i : ℕ) : Type 0 where
  pub long : length row ≡ n
  pub done : (j : ℕ) → j < i → get_or row j 0 ≡ new j

-- It holds at the start.
pub none : {n : ℕ} (new : ℕ → ℕ) (row : List ℕ) → length row ≡ n → Passed n new row 0
none new row e = record { long = e; done = λ j h. absurd (omega arith) }

-- A turn keeps it.
pub one : {n : ℕ} (new : ℕ → ℕ) (row : List ℕ) (i v : ℕ) → Passed n new row i → i < n → v ≡ new i → Passed n new (set row i v) (i + 1)
one new row i v p h e =
    record {
      long = length-set row i v ∙ p.long;
      done = λ j l. ⊎_elim (λ b. get_or-set_other row i j v 0 (λ q. omega arith) ∙ p.done j b) (λ a. at j (omega arith)) (split j i);
    }
  where
    at : (j : ℕ) → j ≡ i → get_or (set row i v) j 0 ≡ new j
    at j q = rw q (get_or-set_same row i v 0 (omega (arith, p.long)) ∙ e)

-- At the end the places to fill are passed.
pub over : {n : ℕ} {new : ℕ → ℕ} {row : List ℕ} {i m : ℕ} → Passed n new row i → m ≤ i → (j : ℕ) → j < m → get_or row j 0 ≡ new j
over p e j h = p.done j (omega arith)

-- Two lanes are the same where their numbers are.
pub same : {a b : Lane} → a.turn ≡ b.turn → a.group ≡ b.group → a ≡ b
same p q = λ i. record { turn = p i; group = q i }
