-- What the contract of a merge allows (merges/src/lib.rt): it takes anything, and settles its answer and the living
-- file and the row afterwards, as `merged` says. The other file is lent to be read alone.
use Rattle.layouts.specs.Layout.{in_use}
use Rattle.demands.specs.Answers.{Settled}
use Rattle.merges.proofs.merge as Merge
use Rattle.merges.specs.contracts.merge as MergeContract
use Rattle.merges.specs.Merge.{merged}

-- The arguments stand in the order of the signature: the living file's state and area, the other's state and area,
-- row; v has a place for each, and in it what is left of what was lent to be changed.
pub record MergeAnswers : Type 0 where
  pub merge : Settled MergeContract.ended Merge.Reads.Asked Merge.Reads.Learnt
      (λ κs a. merged in_use a.0 a.1.0.now a.1.1.1.1.0.now a.1.1.0 a.1.1.1.0.now)
      (λ κs a y v. record { merge = y; area = v.1.0; row = v.1.1.1.1.0 })
