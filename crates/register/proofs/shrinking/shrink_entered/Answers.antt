-- `register::shrinking::shrink_entered` meets its contract: an image is made anew, for it has room.
use mathlib.Core.Path.{sym, ap}
use borrow.Author.Rules.{rules}
use Rattle.layouts.specs.Layout.{in_use}
use Rattle.homes.specs.declared.new_homes.NewHomes.{NewHomes}
use Rattle.register.proofs.MadeAnew.{shrunk_in, shrunk_rehomes}
use Rattle.register.proofs.Rooms.{open_room}
use Rattle.register.proofs.shrinking.shrink_entered.Goals as goal

pub beside-new-requires : goal.beside-new-requires
beside-new-requires c =
    let n = c.requires in
    (shrunk_in c.args.state _ c.shrunk-next.ensures n.0 n.2, n.0, n.2)

pub remake-requires : goal.remake-requires
remake-requires c =
    let s = c.args.state in
    let n = c.requires in
    let image = sym c.in_ok-image_gate.ensures in
    let b = c.beside-new.ensures in (
      (n.0, n.1, image),
      shrunk_rehomes s _ c.shrunk-next.ensures n.0 n.2 b.value b.usable,
      ap (λ (m : NewHomes). m.shape) b.value,
      open_room in_use s n.0 n.2 _ c.shrunk-next.ensures c.args.area.now (λ k l. search rules) n.1 image,
    )
