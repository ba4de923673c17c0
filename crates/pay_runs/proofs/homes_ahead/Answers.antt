use mathlib.Core.Path.{refl, ap}
use native.Mathlib.Omega.{arith}
use Rattle.homes.specs.Homes.{home_in}
use Rattle.pages.specs.Page.{key}
use Rattle.pay_runs.proofs.Lookahead.{reads_first, reads_on, reads_out}
use Rattle.pay_runs.proofs.homes_ahead.Goals as goal

pub loop-k-init : goal.loop-k-init
loop-k-init c = reads_first c.args.input.now _ _ (omega arith) refl

pub loop-k-preserved : goal.loop-k-preserved
loop-k-preserved c =
    reads_on c.loop-k.invariant c.loop-k-test.true c.record_in.result.key (ap key c.record_in.ensures)

pub returns : goal.returns
returns c = reads_out c.loop-k.invariant c.loop-k-test.false (home_in c.args.shape) c.homes.result c.homes.ensures
