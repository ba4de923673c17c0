-- `register::growth::grow_roomy` meets its contract: the records slide, or all are laid anew.
use mathlib.Core.Path.{ap}
use borrow.Author.Rules.{rules}
use native.Mathlib.Omega.{arith}
use lib.Seq.{length-take-le}
use Rattle.layouts.specs.Layout.{in_use}
use Rattle.homes.specs.declared.new_homes.NewHomes.{NewHomes}
use Rattle.state.proofs.Ranges.{ranged, in_shape}
use Rattle.register.proofs.MadeAnew.{grown_in, grown_more, grown_rehomes}
use Rattle.register.proofs.Parting.{part_ready, was_image, again_counted, sliding_row, slid_done}
use Rattle.register.proofs.growth.grow_roomy.Goals as goal

pub grown-next-requires : goal.grown-next-requires
grown-next-requires c = omega (arith, c.requires.open_image.1, (ranged in_use c.args.state c.requires.open_image.0.0).cap_high)

pub beside-new-requires : goal.beside-new-requires
beside-new-requires c =
    let n = c.requires.open_image in
    let in_range = grown_in c.args.state _ c.grown-next.ensures n.0.0 n.1 in
    (in_range, in_range, grown_more c.args.state _ c.grown-next.ensures n.0.0 n.1)

pub remake-requires : goal.remake-requires
remake-requires c =
    let n = c.requires.open_image in (
      n.0,
      grown_rehomes c.args.state _ c.grown-next.ensures n.0.0 n.1 c.beside-new.ensures.value c.beside-new.ensures.usable,
      ap (λ (w : NewHomes). w.shape) c.beside-new.ensures.value,
      rw c.grown-next.ensures n.3,
    )

pub shape-shape-requires : goal.shape-shape-requires
shape-shape-requires c = in_shape in_use _ (grown_in c.args.state _ c.grown-next.ensures c.requires.open_image.0.0 c.requires.open_image.1)

pub slide-moved-requires : goal.slide-moved-requires
slide-moved-requires c =
    let a = c.args in
    let n = c.requires.open_image in
    let r = part_ready a.state n.0.0 n.1 _ c.grown-next.ensures _ c.shape-shape.ensures.value in
    let e = c.if-room-end.false in
    record {
      cap_bound = (r.0, n.0.1, r.1, r.2, omega (arith, length-take-le a.end a.room.now e, e, c.requires.parted.short));
      was_image = was_image a.state n.0.0 n.1 _ c.grown-next.ensures _ c.shape-shape.ensures.value a.area.now (λ k h. search rules) n.0.1 n.0.2;
      homes_value = (
        again_counted a.state n.0.0 n.1 _ c.grown-next.ensures _ c.shape-shape.ensures.value a.area.now _ n.2,
        sliding_row a.state n.0.0 n.1 _ c.grown-next.ensures _ c.shape-shape.ensures.value a.area.now _ _ c.requires.parted e,
      );
    }

pub returns : goal.returns
returns c =
    let a = c.args in
    let n = c.requires.open_image in
    slid_done a.state n.0.0 n.1 _ c.grown-next.ensures _ c.shape-shape.ensures.value a.area.now _ c.slide-moved.ensures.0 _ c.slide-moved.ensures.1 _ c.made.ensures
