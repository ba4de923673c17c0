-- What the contract of a pay run allows (pay_runs/src/lib.rt): it takes anything, and settles its
-- answer and all that it leaves, as `ran` says.
use Rattle.register.specs.Files.{file_of}
use Rattle.demands.specs.Answers.{Settled}
use Rattle.pay_runs.proofs.put_run as PutRun
use Rattle.pay_runs.specs.contracts.put_run as PutRunContract
use Rattle.pay_runs.specs.PayRun.{ran}

-- The arguments stand in the order of the signature: state, area, records, room; v has a place for
-- each, and in it what is left of what was lent to be changed.
pub record RunAnswers : Type 0 where
  pub put_run : Settled PutRunContract.ended PutRun.Reads.Asked PutRun.Reads.Learnt
      (λ κs a. ran (file_of a.0 a.1.0.now) a.1.1.0.now a.1.1.1.0.now)
      (λ κs a y v. record { numbers = y.answer; file = file_of y.state v.1.0; room = v.1.1.1.0 })
