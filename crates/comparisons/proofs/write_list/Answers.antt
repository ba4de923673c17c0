-- `comparisons::write_list` meets its contract: two passes write the entries, which are sorted and unpacked.
use mathlib.Core.Path.{ap, ◌∙◌}
use native.Mathlib.Omega.{arith}
use Rattle.sites.specs.Steps.Sites.{look}
use Rattle.differences.specs.Steps.Unpacked.{unpacked}
use Rattle.comparisons.proofs.Writing.{none_written, first_few, both_lie, both_sort, both_ready, both_sorted}
use Rattle.comparisons.proofs.write_list.Goals as goal

pub returns-then-row-eq0 : goal.returns-then-row-eq0
returns-then-row-eq0 c = none_written (look c.args.there c.args.other.now) c.args.row.now _ _ c.requires.sortable c.if-row-eq0.true

pub pass-t-requires : goal.pass-t-requires
pass-t-requires c =
    let w = c.requires.walkable in
    rw c.cap.ensures (w.0.few, w.0.long, w.1, omega (arith, w.2))

pub overflow_cast-at : goal.overflow_cast-at
overflow_cast-at c = omega (arith, first_few c.args.here c.args.area.now c.args.there c.args.other.now c.requires.sortable (rw c.cap.ensures at c.pass-t.ensures) c.requires.walkable.0.few)

pub overflow_cast-at-2 : goal.overflow_cast-at-2
overflow_cast-at-2 c = omega (arith, first_few c.args.here c.args.area.now c.args.there c.args.other.now c.requires.sortable (rw c.cap.ensures at c.pass-t.ensures) c.requires.walkable.0.few)

pub overflow_add-at : goal.overflow_add-at
overflow_add-at c = omega (arith, first_few c.args.here c.args.area.now c.args.there c.args.other.now c.requires.sortable (rw c.cap.ensures at c.pass-t.ensures) c.requires.walkable.0.few)

pub overflow_mul-at : goal.overflow_mul-at
overflow_mul-at c = omega (arith, first_few c.args.here c.args.area.now c.args.there c.args.other.now c.requires.sortable (rw c.cap.ensures at c.pass-t.ensures) c.requires.walkable.0.few)

pub overflow_add-at-2 : goal.overflow_add-at-2
overflow_add-at-2 c = omega (arith, first_few c.args.here c.args.area.now c.args.there c.args.other.now c.requires.sortable (rw c.cap.ensures at c.pass-t.ensures) c.requires.walkable.0.few, c.requires.walkable.2)

pub pass-requires : goal.pass-requires
pass-requires c =
    let w = c.requires.walkable in
    rw c.cap-2.ensures (w.1.few, w.1.long, w.0, omega (arith, first_few c.args.here c.args.area.now c.args.there c.args.other.now c.requires.sortable (rw c.cap.ensures at c.pass-t.ensures) w.0.few, w.2))

pub slice_bounds-sort_row-count : goal.slice_bounds-sort_row-count
slice_bounds-sort_row-count c = omega (arith, both_lie c.args.here c.args.area.now c.args.there c.args.other.now c.requires.sortable (rw c.cap.ensures at c.pass-t.ensures) (rw c.cap-2.ensures at c.pass.ensures))

pub slice_bounds-sort_row-start : goal.slice_bounds-sort_row-start
slice_bounds-sort_row-start c = omega (arith, both_lie c.args.here c.args.area.now c.args.there c.args.other.now c.requires.sortable (rw c.cap.ensures at c.pass-t.ensures) (rw c.cap-2.ensures at c.pass.ensures))

pub sort_row-requires : goal.sort_row-requires
sort_row-requires c = both_sort c.args.here c.args.area.now c.args.there c.args.other.now c.requires.sortable (rw c.cap.ensures at c.pass-t.ensures) (rw c.cap-2.ensures at c.pass.ensures)

pub unpack-requires : goal.unpack-requires
unpack-requires c =
    let w = both_ready c.args.here c.args.area.now c.args.there c.args.other.now c.requires.sortable (rw c.cap.ensures at c.pass-t.ensures) (rw c.cap-2.ensures at c.pass.ensures) _ c.sort_row.ensures in
    (c.requires.walkable.1, w.0, w.1, w.2)

pub returns : goal.returns
returns c =
    c.unpack.ensures
    ∙ ap (unpacked (look c.args.there c.args.other.now)) (both_sorted c.args.here c.args.area.now c.args.there c.args.other.now c.requires.sortable (rw c.cap.ensures at c.pass-t.ensures) (rw c.cap-2.ensures at c.pass.ensures) _ c.sort_row.ensures)
