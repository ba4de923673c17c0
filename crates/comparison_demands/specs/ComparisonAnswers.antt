-- What the contract of a comparison allows (comparisons/src/lib.rt): it takes anything, and settles its
-- answer and the room afterwards, as `compared` says. Both files are lent to be read alone.
use Rattle.layouts.specs.Layout.{in_use}
use Rattle.demands.specs.Answers.{Settled}
use Rattle.comparisons.proofs.compare as Compare
use Rattle.comparisons.specs.contracts.compare as CompareContract
use Rattle.comparisons.specs.Compare.{compared}

-- The arguments stand in the order of the signature: first state and area, second state and area, room;
-- v has a place for each, and in it what is left of what was lent to be changed.
pub record ComparisonAnswers : Type 0 where
  pub compare : Settled CompareContract.ended Compare.Reads.Asked Compare.Reads.Learnt
      (λ κs a. compared in_use a.0 a.1.0.now a.1.1.0 a.1.1.1.0.now a.1.1.1.1.0.now)
      (λ κs a y v. record { answer = y; room = v.1.1.1.1.0 })
