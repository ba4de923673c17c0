-- `gates::image_gate` meets its contract: what the survey tells is the gate, and nothing is
-- counted.
use native.Mathlib.Omega.{arith}
use Rattle.homes.specs.Homes.{home_in}
use Rattle.state.proofs.Ranges.{ranged, in_shape}
use Rattle.gates.proofs.Judging.{sick_below, gate_told}
use Rattle.gates.proofs.image_gate.Goals as goal

pub shape-shape-requires : goal.shape-shape-requires
shape-shape-requires g c = in_shape g.L.Layout.layout c.args.state c.requires.0

pub new-pages-requires : goal.new-pages-requires
new-pages-requires g c = ((ranged g.L.Layout.layout c.args.state c.requires.0).cap_high, c.requires.1)

pub image_of-requires : goal.image_of-requires
image_of-requires g c a e =
    let b = c.args in
    omega (arith, sick_below g.L.Layout.layout (home_in c.shape-shape.result) b.area.now b.state.cap _ a (rw (c.new-pages.ensures.bytes, c.new-pages.ensures.cap) at c.survey-verdict.ensures.value) e, (ranged g.L.Layout.layout b.state c.requires.0).cap_high)

pub returns : goal.returns
returns g c =
    let b = c.args in
    gate_told b.state _ g.L.Layout.layout b.area.now _ c.shape-shape.ensures.value (rw (c.new-pages.ensures.bytes, c.new-pages.ensures.cap) at c.survey-verdict.ensures.value) _ c.image_of.ensures
