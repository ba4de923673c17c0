-- `homes::Shape::first` meets its contract.
--
use mathlib.Core.Path.{◌≡◌}
use native.Mathlib.Nat.{zero-mod, mul-le-mul_right}
use native.Mathlib.Omega.{arith}
use borrow.Author.Rules.{rules}
use Rattle.homes.specs.Homes.{np}
use Rattle.homes.proofs.Shape.first.Goals as goal

pub returns : goal.returns
returns c =
    let own = c.self.inside.params in
    let np_is : np own.n0 1 ≡ own.n0 = omega (arith, zero-mod own.n0) in
    rw (← c.self.view_is) (record { value = rw np_is; sound = (search rules, omega (arith, mul-le-mul_right own.n c.self.invariant.n0_low), search rules) })
