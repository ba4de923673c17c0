use Prim.Native.Nat.{◌+◌}
use native.Mathlib.Omega.{arith}
use Rattle.homes.specs.Homes.{home_in}
use Rattle.lookups.proofs.Looking.{come_home, come_held, come_ends, come_on, come_unpassed}
use Rattle.lookups.proofs.look.Goals as goal

pub overflow_add-far : goal.overflow_add-far
overflow_add-far g c = omega (arith, c.requires)

pub loop-a-init : goal.loop-a-init
loop-a-init g c =
    let a = c.args in
    (omega arith, come_home g.L.Layout.layout a.pages (home_in a.shape) a.sought a.home c.requires.1 (omega (arith, c.requires)))

pub returns-in-Some : goal.returns-in-Some
returns-in-Some g c =
    let a = c.args in
    come_held g.L.Layout.layout a.pages (home_in a.shape) a.sought c.loop-a.a c.loop-a.invariant.1 c.loop-a-test.true (omega (arith, c.ranges)) _ c.part-part.ensures _ c.on_page.ensures _ c.in-Some.is

pub returns-then-not-passes : goal.returns-then-not-passes
returns-then-not-passes g c =
    let a = c.args in
    come_ends g.L.Layout.layout a.pages (home_in a.shape) a.sought c.loop-a.a c.loop-a.invariant.1 c.loop-a-test.true (omega (arith, c.ranges)) _ c.part-part.ensures _ c.on_page.ensures c.in_default.is _ c.requires.1 _ c.passes.ensures c.if-not-passes.true

pub loop-a-preserved-then-a-far : goal.loop-a-preserved-then-a-far
loop-a-preserved-then-a-far g c =
    let a = c.args in
    let n = come_on g.L.Layout.layout a.pages (home_in a.shape) a.sought c.loop-a.a c.loop-a.invariant.1 c.loop-a-test.true (omega (arith, c.ranges)) _ c.part-part.ensures _ c.on_page.ensures c.in_default.is _ c.requires.1 _ c.passes.ensures c.if-not-passes.false in
    (omega (arith, c.skip-a.ensures.after, c.loop-a.invariant.0), come_unpassed g.L.Layout.layout a.pages (home_in a.shape) a.sought (c.loop-a.a + 1) _ n (omega (arith, c.requires.1, c.loop-a.invariant.0)) c.requires.2 c.skip-a.ensures)

pub loop-a-preserved : goal.loop-a-preserved
loop-a-preserved g c =
    let a = c.args in
    (omega (arith, c.loop-a.invariant.0), come_on g.L.Layout.layout a.pages (home_in a.shape) a.sought c.loop-a.a c.loop-a.invariant.1 c.loop-a-test.true (omega (arith, c.ranges)) _ c.part-part.ensures _ c.on_page.ensures c.in_default.is _ c.requires.1 _ c.passes.ensures c.if-not-passes.false)
