-- `differences::pass_page` meets its contract: the records are passed one by one.
use mathlib.Core.Path.{refl}
use native.Mathlib.Omega.{arith}
use Rattle.pages.specs.Steps.Slots.{records_of}
use Rattle.sites.specs.Steps.Sites.{look}
use Rattle.differences.proofs.Passing.{passes_none, passes_few, page_few, page_turn, page_end}
use Rattle.differences.proofs.pass_page.Goals as goal

pub loop-i-init : goal.loop-i-init
loop-i-init c =
    let a = c.args in
    passes_none a.which (look a.site a.other.now) a.row.now a.at

pub pass_one-t-requires : goal.pass_one-t-requires
pass_one-t-requires c =
    let p = c.args.page in
    (c.requires.1, rw c.shape.ensures at (c.homes_of-homes.ensures _ c.loop-i-test.true), omega (arith, page_few p.keys p.values p.runs c.loop-i.i c.loop-i.invariant, c.requires, c.loop-i-test.true))

pub overflow_add-absent : goal.overflow_add-absent
overflow_add-absent c =
    let p = c.args.page in
    omega (arith, page_few p.keys p.values p.runs c.loop-i.i c.loop-i.invariant, passes_few c.pass_one-t.ensures, c.requires.0, c.loop-i-test.true)

pub overflow_add-unlike : goal.overflow_add-unlike
overflow_add-unlike c =
    let p = c.args.page in
    omega (arith, page_few p.keys p.values p.runs c.loop-i.i c.loop-i.invariant, passes_few c.pass_one-t.ensures, c.requires.0, c.loop-i-test.true)

pub loop-i-preserved : goal.loop-i-preserved
loop-i-preserved c =
    let p = c.args.page in
    page_turn p.keys p.values p.runs c.loop-i.i c.loop-i.invariant refl c.pass_one-t.ensures

pub returns : goal.returns
unfolding records_of
returns c =
    let p = c.args.page in
    page_end p.keys p.values p.runs c.loop-i.i c.loop-i.invariant p.count (omega (arith, c.loop-i-test.false, c.loop-i.auto.i-end))
