use mathlib.Core.Path.{◌∙◌}
use Prim.Native.Nat.{◌+◌}
use native.Mathlib.Omega.{arith}
use Rattle.homes.specs.Homes.{home_in}
use Rattle.walks.proofs.Meeting.{Seen}
use Rattle.walks.proofs.Seams.{edge_told, edge_on}
use Rattle.walks.proofs.Back.{plan_broken, plan_apart, plan_short, plan_full}
use Rattle.walks.proofs.remove.reach_back.Goals as goal

pub returns-in_default-clause-value : goal.returns-in_default-clause-value
returns-in_default-clause-value c =
    let l = c.loop-a in
    let page : Seen (home_in c.args.shape) c.args.pages.bytes.now c.args.pages.cap (l.a + 1) _ = record { lies = c.loop-a-test.true; is = c.judge.ensures } in
    plan_broken _ _ _ c.args.first c.args.at l.a l.read page c.in_default.is ∙ l.invariant.3

pub returns-then-judged-a-clause-value : goal.returns-then-judged-a-clause-value
returns-then-judged-a-clause-value c =
    let l = c.loop-a in
    let page : Seen (home_in c.args.shape) c.args.pages.bytes.now c.args.pages.cap (l.a + 1) _ = record { lies = c.loop-a-test.true; is = c.judge.ensures } in
    plan_apart _ _ _ c.args.first c.args.at l.a l.read page c.in-Some.is c.if-judged-a.true _ l.invariant.4.told ∙ l.invariant.3

pub returns-then-judged-lt-SLOTS-clause-value : goal.returns-then-judged-lt-SLOTS-clause-value
returns-then-judged-lt-SLOTS-clause-value c =
    let l = c.loop-a in
    let page : Seen (home_in c.args.shape) c.args.pages.bytes.now c.args.pages.cap (l.a + 1) _ = record { lies = c.loop-a-test.true; is = c.judge.ensures } in
    plan_short _ _ _ c.args.first c.args.at l.a l.read page c.in-Some.is c.if-judged-a.false c.if-judged-lt-SLOTS.true _
    (edge_told l.invariant.4 page (omega arith) c.in-Some.is _ c.joins-rises.ensures) ∙ l.invariant.3

pub loop-a-preserved : goal.loop-a-preserved
loop-a-preserved c =
    let l = c.loop-a in
    let page : Seen (home_in c.args.shape) c.args.pages.bytes.now c.args.pages.cap (l.a + 1) _ = record { lies = c.loop-a-test.true; is = c.judge.ensures } in (
      omega arith,
      omega arith,
      omega arith,
      plan_full _ _ _ c.args.first c.args.at l.a l.read page c.in-Some.is c.if-judged-a.false c.if-judged-lt-SLOTS.false ∙ l.invariant.3,
      edge_on l.invariant.4 page (omega arith) c.in-Some.is _ c.joins-rises.ensures c.if-judged-lt-SLOTS.false,
    )
