-- `homes::new_page` meets its contract: a new page is as far behind f as it is from 0 at size 0.
--
use mathlib.Core.Path.{◌≡◌, sym, ap, ◌∙◌}
use Prim.Native.Nat.{ℕ, ◌+◌, ◌-◌, ◌%◌}
use native.Mathlib.Nat.{mod-lt}
use native.Mathlib.Omega.{arith}
use Rattle.homes.specs.declared.sweeps.Sweeps.{Sweeps}
use Rattle.homes.specs.Homes.{swept}
use Rattle.homes.specs.Steps.Sweeps.{sweeps_of}
use Rattle.homes.proofs.New.{swept_from}
use Rattle.homes.proofs.new_page.Goals as goal

-- the sweeps are those asked for
sweeps_is : (c : goal.After-new) → c.new.result.s ≡ c.args.s
sweeps_is c = ap (λ (w : Sweeps). w.s) c.new.ensures

pub overflow_cast-page : goal.overflow_cast-page
overflow_cast-page c = omega (arith, mod-lt c.args.page c.requires.2)

pub target-requires : goal.target-requires
target-requires c =
    let e = sweeps_is c in
    (omega arith, omega arith, c.new.ensures ∙ ap (λ (n : ℕ). sweeps_of n c.args.g) (sym e), mod-lt c.args.page c.requires.2, omega arith)

pub returns : goal.returns
returns c =
    let at = c.args in
    let k = at.g - 1 - at.page % at.g in
    let from : c.target.result ≡ swept at.s 0 at.g k = rw (sweeps_is c.before) at c.target.ensures.value in
    ap (λ (n : ℕ). at.f + n) from ∙ sym (swept_from at.s at.f at.g k)
