-- `register::growth::grow_filled` meets its contract: the row decides whether there is room.
use mathlib.Core.Path.{◌∙◌}
use native.Mathlib.Omega.{arith}
use Rattle.layouts.specs.Layout.{in_use}
use Rattle.state.proofs.Ranges.{ranged}
use Rattle.register.proofs.MadeAnew.{counts_many, row_rooms}
use Rattle.register.proofs.Answers.{grows_full, grows_on}
use Rattle.register.proofs.growth.grow_filled.Goals as goal

pub has_room-requires : goal.has_room-requires
has_room-requires c =
    let s = c.args.state in
    let n = c.requires.open_image in
    omega (arith, counts_many in_use s c.args.area.now _ n.2, (ranged in_use s n.0.0).cap_high)

pub returns-then-not-has_room : goal.returns-then-not-has_room
returns-then-not-has_room c =
    let n = c.requires.open_image in
    grows_full c.args.state c.args.area.now (row_rooms in_use c.args.state n.0.0 n.1 c.args.area.now _ n.2 _ c.has_room.ensures ∙ c.if-not-has_room.true)

pub grow_roomy-requires : goal.grow_roomy-requires
grow_roomy-requires c =
    let n = c.requires.open_image in
    record { open_image = (n.0, n.1, n.2, row_rooms in_use c.args.state n.0.0 n.1 c.args.area.now _ n.2 _ c.has_room.ensures ∙ c.if-not-has_room.false); parted = c.requires.parted }

pub returns : goal.returns
returns c =
    let s = c.args.state in
    let n = c.requires.open_image in
    rw (grows_on s c.args.area.now (row_rooms in_use s n.0.0 n.1 c.args.area.now _ n.2 _ c.has_room.ensures ∙ c.if-not-has_room.false)) c.grow_roomy.ensures
