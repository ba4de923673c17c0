-- `register::try_format` meets its contract: judged on the numbers that are asked for, it clears the
-- pages or leaves all as it was.
use native.Mathlib.Omega.{arith}
use Rattle.register.proofs.Answers.{fresh_fits, format_wide}
use Rattle.register.proofs.try_format.Goals as goal

pub returns-then-params-gt65535 : goal.returns-then-params-gt65535
returns-then-params-gt65535 c = record { call = λ old. format_wide old c.args.params c.args.cap c.args.area.now c.if-params-gt65535.true (omega arith) }

pub clear_pages-requires : goal.clear_pages-requires
clear_pages-requires c =
    let k = c.in_ok-enter.ensures.within in
    fresh_fits c.args.params c.args.cap _ _ c.new-fresh.ensures k.0 k.1
