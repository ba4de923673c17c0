-- `homes::starts::Start::new` meets its contract.
use native.Mathlib.Nat.{div-mul-le_self}
use native.Mathlib.Omega.{arith}
use Rattle.homes.proofs.starts.Start.new.Goals as goal

pub overflow_mul-result : goal.overflow_mul-result
overflow_mul-result c = omega (arith, div-mul-le_self 17179869183 c.args.m)

pub overflow_sub-result : goal.overflow_sub-result
overflow_sub-result c = omega (arith, div-mul-le_self 17179869183 c.args.m)

pub returns : goal.returns
returns c = rw c.rest-of_24.ensures
