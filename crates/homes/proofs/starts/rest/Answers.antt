-- `homes::starts::rest` meets its contract: the product has the quotient at bit 34.
use Prim.Native.Nat.{◌+◌, ◌*◌, ◌≤◌}
use native.Mathlib.Nat.{mul-le-mul, div-le_self, div-mul-le_self}
use native.Mathlib.Omega.{arith}
use Rattle.homes.proofs.Rests.{quotient, remainder}
use Rattle.homes.proofs.starts.rest.Goals as goal

pub overflow_mul-result : goal.overflow_mul-result
overflow_mul-result c =
    let wide : (c.args.x + 1) * c.args.by ≤ 67108864 * 17179869183 = mul-le-mul {n₂ = 67108864} {m₂ = 17179869183} (omega arith) (omega (arith, div-le_self 17179869183 c.args.m)) in
    omega arith

pub overflow_sub-result : goal.overflow_sub-result
overflow_sub-result c =
    let p = c.requires in
    rw (quotient c.args.m c.args.by p.0 p.2 p.1 c.args.x p.3) (div-mul-le_self c.args.x c.args.m)

pub overflow_mul-result-2 : goal.overflow_mul-result-2
overflow_mul-result-2 c = omega (arith, overflow_sub-result c)

pub returns : goal.returns
returns c = let p = c.requires in remainder c.args.m c.args.by p.0 p.2 p.1 c.args.x p.3
