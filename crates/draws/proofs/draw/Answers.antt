-- `draws::draw` meets its contract: 2^31 counts as 1, so the product is folded twice.
use mathlib.Core.Path.{◌≡◌, sym, ap, ◌∙◌}
use mathlib.Core.Logic.{⊎_elim}
use Prim.Native.Nat.{ℕ, ◌+◌, ◌*◌, ◌/◌, ◌%◌, ◌≤◌, ◌<◌}
use native.Mathlib.Nat.{mul-le-mul, mul_assoc, mul_comm}
use native.Mathlib.Omega.{arith}
use lib.Arith.{digits_mod}
use Rattle.draws.specs.Steps.Powers.{Drawable}
use Rattle.draws.proofs.Split.{split}
use Rattle.draws.proofs.draw.Goals as goal

-- the product, which is that of the seed doubled
doubled : (t p : ℕ) → Drawable t p → t % 4294967296 * p ≡ 2 * (p * (t / 2))
doubled t p d =
    let even : t % 4294967296 ≡ 2 * (t / 2) = omega arith in
    rw (even, mul_assoc 2 (t / 2) p, mul_comm (t / 2) p)

-- and its bound
bounded : (t p : ℕ) → Drawable t p → t % 4294967296 * p ≤ 4294967294 * 2147483646
bounded t p d = mul-le-mul {n₂ = 4294967294} {m₂ = 2147483646} (omega arith) (omega arith)

-- a number less some times the modulus, at most the modulus, is its remainder where that isn't 0
rest : (P q r : ℕ) → P ≡ q * 2147483647 + r → r ≤ 2147483647 → 0 < P % 2147483647 → r ≡ P % 2147483647
rest P q r e l h =
    ⊎_elim
    (λ lt. sym (ap (λ (z : ℕ). z % 2147483647) e ∙ digits_mod q lt))
    (λ ge. let none : P % 2147483647 ≡ 0 = omega arith in absurd (omega arith))
    (split r 2147483647)

-- a doubled number folded once
abbrev once : ℕ → ℕ
once y = y / 4294967296 + y % 4294967296 / 2

-- and folded twice: the remainder of the number
twice : (y P : ℕ) → y ≡ 2 * P → y ≤ 4294967294 * 2147483646 → 0 < P % 2147483647 → once y / 2147483648 + once y % 2147483648 ≡ P % 2147483647
twice y P e l h = rest P (P / 2147483648 + once y / 2147483648) (once y / 2147483648 + once y % 2147483648) (omega arith) (omega arith) h

pub returns : goal.returns
returns c = twice _ _ (doubled c.args.twice c.args.power c.requires) (bounded c.args.twice c.args.power c.requires) c.requires.3
