use Prim.Native.Nat.{◌+◌, ◌-◌, ◌/◌}
use mathlib.Core.Path.{sym, ◌∙◌}
use native.Mathlib.Omega.{arith}
use Rattle.homes.specs.Homes.{home_in}
use Rattle.lookups.proofs.Looking.{passes_here, passes_below}
use Rattle.lookups.proofs.skip.Goals as goal

pub loop-lo-preserved-then-passes : goal.loop-lo-preserved-then-passes
loop-lo-preserved-then-passes g c =
    let a = c.args in
    let i = c.loop-lo.invariant in
    let mid = c.loop-lo.lo + (c.loop-lo.hi - c.loop-lo.lo) / 2 in
    let p = passes_here g.L.Layout.layout a.pages.bytes.now (home_in a.shape) mid _ c.part.ensures a.home a.sought _ c.passes.ensures c.requires.0 in (
      omega (arith, i.0),
      omega arith,
      i.2,
      (λ j n o. passes_below g.L.Layout.layout a.pages (home_in a.shape) a.sought j mid c.requires.3 (omega (arith, c.requires)) (omega arith) (omega (arith, i.2)) (sym p ∙ c.if-passes.true)),
      i.4,
    )

pub loop-lo-preserved : goal.loop-lo-preserved
loop-lo-preserved g c =
    let a = c.args in
    let i = c.loop-lo.invariant in
    let mid = c.loop-lo.lo + (c.loop-lo.hi - c.loop-lo.lo) / 2 in
    let p = passes_here g.L.Layout.layout a.pages.bytes.now (home_in a.shape) mid _ c.part.ensures a.home a.sought _ c.passes.ensures c.requires.0 in
    (i.0, omega arith, omega (arith, i.2), i.3, (λ _. sym p ∙ c.if-passes.false))
