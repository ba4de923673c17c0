-- What the contracts of the log's functions allow (commands/src): each takes anything and settles
-- its answer and all that it leaves, as a definition says.
use Rattle.std.specs.Prelude.{ℕ, ◌/◌, List, length}
use Rattle.numbers.specs.Little.{written}
use Rattle.demands.specs.Answers.{Settled}
use Rattle.records.proofs.first as First
use Rattle.records.specs.contracts.first as FirstContract
use Rattle.commands.proofs.execute.execute as Execute
use Rattle.commands.specs.contracts.execute.execute as ExecuteContract
use Rattle.commands.proofs.log as Whole
use Rattle.commands.specs.contracts.log as WholeContract
use Rattle.commands.specs.declared.Ran.{Ran}
use Rattle.records.specs.Records.{first_of, bytes_of_all}
use Rattle.commands.specs.Execute.{site, carries, executed}
use Rattle.commands.specs.Log.{Log, log, ran_of}

-- what the code of a log comes to: how far it went, the bytes of its pages, the row, and the bytes
-- where its replies stand
pub record Came : Type 0 where
  pub ran : Ran
  pub space : List ℕ
  pub row : List ℕ
  pub replies : List ℕ

-- the same, of what a log comes to by definition
abbrev pub came_to : Log → (replies : List ℕ) → Came
came_to g replies = record { ran = ran_of g; space = g.site.space; row = g.site.row; replies = written replies 0 (bytes_of_all g.replies) }

-- The arguments stand in the order of the signature: a.0 is the first, a.1.0 the second, and so
-- on; v has a place for each, and in it what is left of what was lent to be changed.
pub record LogAnswers : Type 0 where
  pub first : Settled FirstContract.ended First.Reads.Asked First.Reads.Learnt (λ κs a. first_of a.0.now) (λ κs a y v. y)
  pub execute : Settled ExecuteContract.ended Execute.Reads.Asked Execute.Reads.Learnt
      (λ κs a. executed (site a.0 a.1.0.now a.1.1.0.now) a.1.1.1.0)
      (λ κs a y v. carries y.answer (site y.state v.1.0 v.1.1.0))
  pub whole_log : Settled WholeContract.ended Whole.Reads.Asked Whole.Reads.Learnt
      (λ κs a.
      let room = length a.1.1.1.1.1.0.now / 28 in
      came_to (log a.1.1.1.1.0 room (site a.0 a.1.0.now a.1.1.0.now) a.1.1.1.0.now) a.1.1.1.1.1.0.now)
      (λ κs a y v. record { ran = y; space = v.1.0; row = v.1.1.0; replies = v.1.1.1.1.1.0 })
