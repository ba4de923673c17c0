-- `changes::put_open` meets its contract: a state in range has its pages in the area, and so the
-- home of a key and each page of a plan.
use native.Mathlib.Omega.{arith}
use Rattle.layouts.specs.Layout.{in_use}
use Rattle.homes.proofs.Homes.{home_below}
use Rattle.state.proofs.Ranges.{ranged, in_shape}
use Rattle.changes.proofs.put_open.Goals as goal

pub shape-shape-requires : goal.shape-shape-requires
shape-shape-requires c = in_shape in_use _ c.requires.0

pub new-pages-requires : goal.new-pages-requires
new-pages-requires c = ((ranged in_use c.args.state c.requires.0).cap_high, c.requires.1)

pub plan_put-requires : goal.plan_put-requires
plan_put-requires c =
    let s = c.args.state in
    let r = ranged in_use s c.requires.0 in
    let low = home_below s.params s.p c.args.new.key (in_shape in_use s c.requires.0) in
    (omega (arith, c.requires.2, low, r.p_high, c.new-pages.ensures.cap), rw c.shape-shape.ensures.value c.requires.2)

pub pour-requires-clause-first_le_last : goal.pour-requires-clause-first_le_last
pour-requires-clause-first_le_last c =
    let r = ranged in_use c.args.state c.requires.0 in
    let w = c.in_ok-change.ensures.within.0 in
    (w.0, omega (arith, w.1, r.cap_high), omega (arith, w.1, c.requires.1), w.2)

pub one_more-requires : goal.one_more-requires
one_more-requires c =
    let r = ranged in_use c.args.state c.requires.0 in
    omega (arith, r.r_high, r.cap_high, c.if-state.false)

pub accepted-requires : goal.accepted-requires
accepted-requires c =
    let r = ranged in_use c.args.state c.requires.0 in
    let w = c.in_ok-change.ensures.within.0 in
    (w.0, omega (arith, w.1, r.cap_high))
