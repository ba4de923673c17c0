-- `commands::execute::execute` meets its contract: a command is the call on what it is lent, and a
-- format of more than 128 pages is none.
use native.Mathlib.Omega.{arith}
use Rattle.commands.proofs.Lending.{lent_back}
use Rattle.commands.proofs.execute.execute.Goals as goal

pub returns : goal.returns
returns c =
    let a = c.args in
    lent_back a.state a.space.now a.row.now a.command _ _ _ c.in-Ok.ensures.0 c.in-Ok.ensures.1 (omega arith) (omega arith) _ _ _ c.call.ensures c.call.auto.area c.call.auto.row
