use borrow.Author.Rules.{rules}
use native.Mathlib.Omega.{arith}
use Rattle.homes.specs.Homes.{home_in}
use Rattle.placing.specs.Lay.{ranked}
use Rattle.pages.proofs.Judging.{judging_starts, judging_breaks, judging_goes_on, judging_ends}
use Rattle.pages.proofs.judge_keys.Goals as goal

pub loop-i-init : goal.loop-i-init
loop-i-init c = (omega arith, λ rs n k h f. judging_starts h c.args.address rs (ranked 0 0) (omega arith))

pub returns-then-not-low-next : goal.returns-then-not-low-next
returns-then-not-low-next c rs n k =
    let l = c.loop-i in
    let a = c.args in
    let h = home_in a.shape in
    judging_breaks h a.address rs _ _ n k l.homes (ranked l.last.home l.last.key) l.i _ c.lt.result (omega arith)
    (c.homes_of-found.ensures l.i (omega arith)) (search rules) (l.invariant.1 rs n k h c.homes_of-found.ensures) c.if-not-low-next.true

pub loop-i-preserved : goal.loop-i-preserved
loop-i-preserved c =
    let l = c.loop-i in
    let a = c.args in (
      search rules,
      λ rs n k h f.
          judging_goes_on h a.address rs _ _ n k l.homes (ranked l.last.home l.last.key) l.i _ c.lt.result (omega arith)
          (f l.i (omega arith)) (search rules) (l.invariant.1 rs n k h f) c.if-not-low-next.false,
    )

pub returns : goal.returns
returns c rs n k =
    let l = c.loop-i in
    let a = c.args in
    let h = home_in a.shape in
    judging_ends h a.address rs _ _ n k l.homes (ranked l.last.home l.last.key) l.i (omega arith) (l.invariant.1 rs n k h c.homes_of-found.ensures)
