-- `homes::Stage::next` meets its contract: one law for each way out.
--
use borrow.Author.Rules.{rules}
use Rattle.homes.proofs.Round.{ends, runs}
use Rattle.homes.proofs.Stage.next.Goals as goal

pub returns-then-self-n0 : goal.returns-then-self-n0
returns-then-self-n0 c = record { after = λ x h e. ends _ x _ h e c.if-self-n0.true; sound = search rules }

pub returns-else-self-n0 : goal.returns-else-self-n0
returns-else-self-n0 c = record { after = λ x h e. runs _ x _ h e (search rules) c.if-self-n0.false; sound = search rules }
