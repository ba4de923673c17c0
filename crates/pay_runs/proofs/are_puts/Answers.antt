use native.Mathlib.Omega.{arith}
use Rattle.pay_runs.proofs.Heads.{looks_first, wrong_head, right_head, last_head}
use Rattle.pay_runs.proofs.are_puts.Goals as goal

pub loop-i-init : goal.loop-i-init
loop-i-init c = looks_first _ _ (omega arith)

pub returns-then-not-is_put : goal.returns-then-not-is_put
returns-then-not-is_put c =
    wrong_head c.loop-i.invariant c.loop-i-test.true c.is_put.result c.is_put.ensures c.if-not-is_put.true

pub loop-i-preserved : goal.loop-i-preserved
loop-i-preserved c =
    right_head c.loop-i.invariant c.loop-i-test.true c.is_put.result c.is_put.ensures c.if-not-is_put.false

pub returns : goal.returns
returns c = last_head c.loop-i.invariant c.loop-i-test.false
