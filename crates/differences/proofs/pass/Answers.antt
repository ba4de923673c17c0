-- `differences::pass` meets its contract: the pages are passed one by one.
use mathlib.Core.Path.{refl}
use native.Mathlib.Omega.{arith}
use Rattle.sites.specs.Steps.Sites.{look}
use Rattle.differences.proofs.Passing.{passes_none, passes_few, file_few, file_turn, page_most}
use Rattle.differences.proofs.pass.Goals as goal

pub loop-a-init : goal.loop-a-init
loop-a-init c =
    let a = c.args in
    passes_none a.which (look a.site a.other.now) a.row.now a.at

pub pass_page-t-requires : goal.pass_page-t-requires
pass_page-t-requires c =
    let m = page_most c.args.area.now c.loop-a.a _ c.parse_at-page.ensures in
    (m.0, c.requires.2, omega (arith, file_few c.args.area.now c.loop-a.a c.loop-a.invariant, c.requires, c.loop-a-test.true))

pub overflow_add-absent : goal.overflow_add-absent
overflow_add-absent c =
    let m = page_most c.args.area.now c.loop-a.a _ c.parse_at-page.ensures in
    omega (arith, file_few c.args.area.now c.loop-a.a c.loop-a.invariant, passes_few c.pass_page-t.ensures, m.1, c.requires.0, c.loop-a-test.true)

pub overflow_add-unlike : goal.overflow_add-unlike
overflow_add-unlike c =
    let m = page_most c.args.area.now c.loop-a.a _ c.parse_at-page.ensures in
    omega (arith, file_few c.args.area.now c.loop-a.a c.loop-a.invariant, passes_few c.pass_page-t.ensures, m.1, c.requires.0, c.loop-a-test.true)

pub loop-a-preserved : goal.loop-a-preserved
loop-a-preserved c = file_turn c.args.area.now c.loop-a.a c.loop-a.invariant _ c.parse_at-page.ensures refl c.pass_page-t.ensures
