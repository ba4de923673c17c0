-- `register::growth::judge` meets its contract: what the survey tells is the gate, and the homes
-- that it counts are the file's own.
use native.Mathlib.Omega.{arith}
use Rattle.layouts.specs.Layout.{in_use}
use Rattle.homes.specs.Homes.{home_in}
use Rattle.state.proofs.Ranges.{ranged, in_shape}
use Rattle.gates.proofs.Judging.{sick_below, gate_told}
use Rattle.register.proofs.MadeAnew.{counted_if}
use Rattle.register.proofs.growth.judge.Goals as goal

pub shape-shape-requires : goal.shape-shape-requires
shape-shape-requires c = in_shape in_use _ c.requires.0

pub new-pages-requires : goal.new-pages-requires
new-pages-requires c = ((ranged in_use c.args.state c.requires.0).cap_high, c.requires.1)

pub image_of-requires : goal.image_of-requires
image_of-requires c a e =
    let b = c.args in
    omega (arith, sick_below in_use (home_in c.shape-shape.result) b.area.now b.state.cap _ a (rw (c.new-pages.ensures.bytes, c.new-pages.ensures.cap) at c.survey-verdict.ensures.value) e, (ranged in_use b.state c.requires.0).cap_high)

pub returns-clause-value : goal.returns-clause-value
returns-clause-value c = gate_told c.args.state _ in_use c.args.area.now _ c.shape-shape.ensures.value (rw (c.new-pages.ensures.bytes, c.new-pages.ensures.cap) at c.survey-verdict.ensures.value) _ c.image_of.ensures

pub returns-clause-counted : goal.returns-clause-counted
returns-clause-counted c =
    let s = c.args.state in
    counted_if s _ c.shape-shape.ensures.value c.args.area.now _ _ c.requires.2 c.survey-verdict.result _ c.image_of.ensures (rw (c.new-pages.ensures.bytes, c.new-pages.ensures.cap) at c.survey-verdict.ensures.counted)
