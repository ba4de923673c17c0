use mathlib.Core.Path.{refl, sym, ◌∙◌}
use native.Mathlib.Omega.{arith}
use Rattle.layouts.specs.Layout.{in_use}
use Rattle.pages.specs.Area.{part_at}
use Rattle.pages.proofs.Read.{held_twelve}
use Rattle.sliding.proofs.Passing.{passing_start, passing_turn, passing_page, passed_all, passed_to}
use Rattle.sliding.proofs.to_stayer.Goals as goal

pub loop-page-init : goal.loop-page-init
loop-page-init c = passing_start _ _ _ c.args.from c.requires.2

pub loop-page-smaller-then-slot-count_at : goal.loop-page-smaller-then-slot-count_at
loop-page-smaller-then-slot-count_at c =
    omega (arith, c.count_at.ensures, c.if-slot-count_at.true, held_twelve in_use (part_at c.args.area.now c.loop-page.page))

pub loop-page-preserved-then-slot-count_at : goal.loop-page-preserved-then-slot-count_at
loop-page-preserved-then-slot-count_at c =
    passing_turn c.loop-page.invariant _ c.record_at-x.ensures c.loop-page-test.true (rw (← c.count_at.ensures) c.if-slot-count_at.true) (sym c.leaves.ensures ∙ c.if-not-leaves.false)

pub loop-page-preserved : goal.loop-page-preserved
loop-page-preserved c = passing_page c.loop-page.invariant _ c.count_at.ensures c.loop-page-test.true c.if-slot-count_at.false

pub returns-after-loop-page : goal.returns-after-loop-page
returns-after-loop-page c = let all = passed_all c.loop-page.invariant c.args.from refl refl refl c.loop-page-test.false in record { by_index = all.0; within = all.1 }

pub returns-then-not-leaves : goal.returns-then-not-leaves
returns-then-not-leaves c =
    let all = passed_to c.loop-page.invariant c.args.from refl refl refl _ c.record_at-x.ensures c.loop-page-test.true (rw (← c.count_at.ensures) c.if-slot-count_at.true) (sym c.leaves.ensures ∙ c.if-not-leaves.true) in
    record { by_index = all.0; within = all.1 }
