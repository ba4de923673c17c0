use native.Mathlib.Omega.{arith}
use borrow.Author.Rules.{rules}
use Rattle.commands.proofs.Turning.{log_starts, log_full, log_waits, log_stops, log_goes}
use Rattle.commands.proofs.log.Goals as goal

pub loop-told-init : goal.loop-told-init
loop-told-init c = log_starts _ _ _ _ _ (omega arith)

pub returns-in-Waits : goal.returns-in-Waits
returns-in-Waits c = log_waits c.loop-told.invariant c.loop-told-test.true _ _ _ _ c.serve_one.ensures c.in-Waits.is

pub returns-in-Stops : goal.returns-in-Stops
returns-in-Stops c = log_stops c.loop-told.invariant c.loop-told-test.true _ _ _ _ c.serve_one.ensures c.in-Stops.is

pub loop-told-preserved : goal.loop-told-preserved
loop-told-preserved c =
    log_goes c.loop-told.invariant c.loop-told-test.true _ _ _ _ c.serve_one.ensures _ _ c.in-Goes.is (search rules) (search rules) (search rules)

pub returns : goal.returns
returns c = log_full c.loop-told.invariant c.loop-told-test.false
