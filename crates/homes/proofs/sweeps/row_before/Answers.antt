-- `homes::sweeps::row_before` meets its contract: the product of two numbers of 16 bits has 32.
use mathlib.Core.Path.{refl}
use Prim.Native.Nat.{ℕ, ◌*◌, ◌≤◌, ◌<◌}
use native.Mathlib.Nat.{mul-le-mul}
use native.Mathlib.Omega.{arith}
use borrow.Author.Rules.{rules}
use Rattle.homes.proofs.sweeps.row_before.Goals as goal

-- the product fits
product : (a b : ℕ) → a < 65536 → b < 65536 → a * b ≤ 65535 * 65535
product a b h l = mul-le-mul {n₂ = 65535} {m₂ = 65535} (omega arith) (omega arith)

pub overflow_mul-result : goal.overflow_mul-result
overflow_mul-result c = omega (arith, product c.args.next c.args.share (search rules) (search rules))

pub overflow_cast-result-3 : goal.overflow_cast-result-3
overflow_cast-result-3 c = omega (arith, product c.args.next c.args.share (search rules) (search rules))

pub returns : goal.returns
returns c = refl
