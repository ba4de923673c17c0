use mathlib.Core.Path.{sym, ◌∙◌}
use native.Mathlib.Omega.{arith}
use lib.ListN.{take, length-take}
use borrow.Author.Tests.{eqb-true}
use Rattle.survey.proofs.Counting.{tally_none, run_le, run_goes_on, run_changes}
use Rattle.survey.proofs.tally.Goals as goal
use Rattle.survey.proofs.tally.Goals.{else-home-seen, then-home-seen}

pub returns-then-is_empty : goal.returns-then-is_empty
returns-then-is_empty c = tally_none (take c.args.judged.count c.args.judged.homes) c.args.row.now (eqb-true _ 0 (sym c.is_empty.ensures ∙ c.if-is_empty.true))

pub add-requires : goal.add-requires
add-requires c = omega (arith, run_le c.loop-home.invariant, c.requires.2 c.loop-home.seen, c.requires.0, c.loop-home-test.true, length-take c.args.judged.count c.args.judged.homes)

pub add-requires-2 : goal.add-requires-2
add-requires-2 c = omega (arith, run_le c.loop-home.invariant, c.requires.2 c.loop-home.seen, c.requires.0, c.loop-home.auto, length-take c.args.judged.count c.args.judged.homes)

pub loop-home-preserved : goal.loop-home-preserved
loop-home-preserved c =
    let t = c.loop-home.invariant in
    elim c.if-home-seen.branch [ then-home-seen w ↦ rw (w.seen-is, w.n-is) (run_changes t (omega arith) (w.row-is ∙ w.add.ensures)) | else-home-seen w ↦ rw (w.row-is, w.seen-is, w.n-is) (run_goes_on t (omega arith) w.if-home-seen.false) ]
