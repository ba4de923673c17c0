use mathlib.Core.Path.{◌≡◌, ◌∙◌}
use Prim.Native.Nat.{◌+◌, ◌-◌}
use native.Mathlib.Omega.{arith}
use Rattle.homes.specs.Homes.{home_in}
use Rattle.walks.proofs.Meeting.{Seen}
use Rattle.walks.proofs.Seams.{edge_told, edge_on}
use Rattle.walks.proofs.PutPlan.{reach_sick, reach_here, reach_on}
use Rattle.walks.proofs.put.reach.Goals as goal

pub returns-in_default-clause-value : goal.returns-in_default-clause-value
returns-in_default-clause-value c =
    let l = c.loop-a in
    let page : Seen (home_in c.args.shape) c.args.pages.bytes.now c.args.pages.cap l.a _ = record { lies = c.loop-a-test.true; is = c.judge.ensures } in
    reach_sick page c.args.first c.args.at l.read c.in_default.is ∙ l.invariant.1

pub returns-then-has_space-clause-value : goal.returns-then-has_space-clause-value
returns-then-has_space-clause-value c =
    let l = c.loop-a in
    let page : Seen (home_in c.args.shape) c.args.pages.bytes.now c.args.pages.cap l.a _ = record { lies = c.loop-a-test.true; is = c.judge.ensures } in
    reach_here page c.args.first c.args.at l.read c.in-Some.is c.if-has_space.true _ (edge_told l.invariant.2 page (omega arith) c.in-Some.is _ c.joins-rises.ensures) ∙ l.invariant.1

pub loop-a-preserved : goal.loop-a-preserved
loop-a-preserved c =
    let l = c.loop-a in
    let page : Seen (home_in c.args.shape) c.args.pages.bytes.now c.args.pages.cap l.a _ = record { lies = c.loop-a-test.true; is = c.judge.ensures } in
    let e : l.a + 1 - 1 ≡ l.a = omega arith in (
      omega arith,
      reach_on page c.args.first c.args.at l.read c.in-Some.is c.if-has_space.false ∙ l.invariant.1,
      rw e (edge_on l.invariant.2 page (omega arith) c.in-Some.is _ c.joins-rises.ensures c.if-has_space.false),
    )
