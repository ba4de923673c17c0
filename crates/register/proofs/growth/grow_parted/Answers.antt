-- `register::growth::grow_parted` meets its contract: those that leave are told apart, and the counts
-- without them fill the row.
use mathlib.Core.Path.{sym, ◌∙◌}
use borrow.Author.Rules.{rules}
use native.Mathlib.Omega.{arith}
use Rattle.layouts.specs.Layout.{in_use}
use Rattle.state.proofs.Ranges.{ranged, in_shape}
use Rattle.register.proofs.MadeAnew.{grown_in, counts_many}
use Rattle.register.proofs.Parting.{part_ready, was_image, was_counted, now_counted, parted}
use Rattle.register.proofs.growth.grow_parted.Goals as goal

pub grown-next-requires : goal.grown-next-requires
grown-next-requires c = omega (arith, c.requires.open_image.1, (ranged in_use c.args.state c.requires.open_image.0.0).cap_high)

pub shape-shape-requires : goal.shape-shape-requires
shape-shape-requires c = in_shape in_use _ (grown_in c.args.state _ c.grown-next.ensures c.requires.open_image.0.0 c.requires.open_image.1)

pub leave-end-requires : goal.leave-end-requires
leave-end-requires c =
    let a = c.args in
    let n = c.requires.open_image in
    let r = part_ready a.state n.0.0 n.1 _ c.grown-next.ensures _ c.shape-shape.ensures.value in
    let w = was_image a.state n.0.0 n.1 _ c.grown-next.ensures _ c.shape-shape.ensures.value a.area.now (λ k h. search rules) n.0.1 n.0.2 in
    record {
      cap_bound = (r.0, n.0.1, r.1, r.2);
      fact = (w.packed, w.sorted, was_counted a.state n.0.0 n.1 _ c.grown-next.ensures _ c.shape-shape.ensures.value a.area.now (λ k h. search rules) n.0.1 n.0.2 _ c.requires.held_value);
    }

pub fill_row-requires : goal.fill_row-requires
fill_row-requires c =
    let a = c.args in
    let n = c.requires.open_image in
    n.2 ∙ sym (counts_many in_use a.state a.area.now _ (now_counted a.state n.0.0 n.1 _ c.grown-next.ensures _ c.shape-shape.ensures.value a.area.now _ c.leave-end.ensures.row_after))

pub grow_filled-requires : goal.grow_filled-requires
grow_filled-requires c =
    let a = c.args in
    let n = c.requires.open_image in
    let l = c.leave-end.ensures in
    record {
      open_image = (n.0, n.1, c.fill_row.ensures ∙ now_counted a.state n.0.0 n.1 _ c.grown-next.ensures _ c.shape-shape.ensures.value a.area.now _ l.row_after);
      parted = parted a.state n.0.0 n.1 _ c.grown-next.ensures _ c.shape-shape.ensures.value a.area.now _ _ _ n.3 l.value l.room_after;
    }

pub returns : goal.returns
returns c =
    let a = c.args in
    let n = c.requires.open_image in
    record { fact = c.grow_filled.ensures; row_after = c.fill_row.ensures ∙ now_counted a.state n.0.0 n.1 _ c.grown-next.ensures _ c.shape-shape.ensures.value a.area.now _ c.leave-end.ensures.row_after }
