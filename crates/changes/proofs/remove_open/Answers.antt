-- `changes::remove_open` meets its contract: a state in range has its pages in the area, and so each
-- page of a plan.
use native.Mathlib.Omega.{arith}
use Rattle.layouts.specs.Layout.{in_use}
use Rattle.state.proofs.Ranges.{ranged, in_shape}
use Rattle.changes.proofs.remove_open.Goals as goal

pub shape-shape-requires : goal.shape-shape-requires
shape-shape-requires c = in_shape in_use _ c.requires.0

pub new-pages-requires : goal.new-pages-requires
new-pages-requires c = ((ranged in_use c.args.state c.requires.0).cap_high, c.requires.1)

pub plan_remove-requires : goal.plan_remove-requires
plan_remove-requires c =
    rw (c.shape-shape.ensures.value, c.new-pages.ensures.cap) (ranged in_use c.args.state c.requires.0).p_high

pub draw_back-requires-clause-first_le_last : goal.draw_back-requires-clause-first_le_last
draw_back-requires-clause-first_le_last c =
    let r = ranged in_use c.args.state c.requires.0 in
    let w = c.in_ok-change.ensures.within.0 in
    (w.0, omega (arith, w.1, r.cap_high), omega (arith, w.1, c.requires.1), w.2)

pub accepted-requires : goal.accepted-requires
accepted-requires c =
    let r = ranged in_use c.args.state c.requires.0 in
    let w = c.in_ok-change.ensures.within.0 in
    (w.0, omega (arith, w.1, r.cap_high))
