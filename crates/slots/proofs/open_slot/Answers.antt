-- `slots::open_slot` meets its contract: two writes that are one.
use mathlib.Core.Path.{◌∙◌}
use Rattle.slots.proofs.Moving.{opened_twice}
use Rattle.slots.proofs.open_slot.Goals as goal

pub returns : goal.returns
returns g c =
    let at = c.slot_at-start.ensures in
    let width = c.WIDTH-width.ensures ∙ g.L.Layout.width_is in
    opened_twice g.L.Layout.layout c.args.part.now c.args.at c.requires.0 c.requires.1 c.args.x _ _ (rw (at, width) at c.shift_up.ensures) (rw at at c.put.ensures)
