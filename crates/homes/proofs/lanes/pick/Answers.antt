use mathlib.Core.Path.{◌≡◌, refl}
use borrow.Author.Tests.{lt-ltb, le-ltb}
use lib.ListN.{get_or}
use Rattle.homes.specs.Steps.Lanes.{picked}
use Rattle.homes.proofs.Rowed.{none, one, over}
use Rattle.homes.proofs.lanes.pick.Goals as goal
use Rattle.homes.proofs.lanes.pick.Goals.{else-is_there, then-is_there}

pub loop-i-init : goal.loop-i-init
loop-i-init c = none _ _ refl

pub loop-i-preserved : goal.loop-i-preserved
loop-i-preserved c =
    let turn = c.before in
    let at = turn.args in
    let a = get_or at.after turn.loop-i.i 0 in
    let b = get_or at.before turn.loop-i.i 0 in
    let is : c.if-is_there.pages ≡ picked at.p a b = elim c.if-is_there.branch [ then-is_there w ↦ rw (lt-ltb a at.p w.if-is_there.true) w.pages-is | else-is_there w ↦ rw (le-ltb a at.p w.if-is_there.false) w.pages-is ] in
    (one _ _ _ _ turn.loop-i.invariant turn.loop-i-test.true is)

pub returns : goal.returns
returns c =
    let row = c.loop-i.invariant in
    record { by_index = over row c.loop-i-test.false; long = row.long }
