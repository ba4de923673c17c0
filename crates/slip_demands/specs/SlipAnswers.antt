-- What the contracts of the calls by slip allow (reefcushion/src/lib.rt): each takes anything, and
-- settles what it returns and all that it leaves, as `served` says.
use Rattle.std.specs.Prelude.{ℕ, List}
use Rattle.homes.specs.Homes.{params}
use Rattle.pages.specs.Page.{record_with}
use Rattle.register.specs.Files.{format, find, put, remove, grow, shrink, check}
use Rattle.demands.specs.Answers.{Settled}
use Rattle.reefcushion.proofs.reefcushion_format as Format
use Rattle.reefcushion.specs.contracts.reefcushion_format as FormatContract
use Rattle.reefcushion.proofs.reefcushion_format_edition as FormatEdition
use Rattle.reefcushion.specs.contracts.reefcushion_format_edition as FormatEditionContract
use Rattle.reefcushion.proofs.reefcushion_find as Find
use Rattle.reefcushion.specs.contracts.reefcushion_find as FindContract
use Rattle.reefcushion.proofs.reefcushion_put as Put
use Rattle.reefcushion.specs.contracts.reefcushion_put as PutContract
use Rattle.reefcushion.proofs.reefcushion_put_run as PutRun
use Rattle.reefcushion.specs.contracts.reefcushion_put_run as PutRunContract
use Rattle.reefcushion.proofs.reefcushion_remove as Remove
use Rattle.reefcushion.specs.contracts.reefcushion_remove as RemoveContract
use Rattle.reefcushion.proofs.reefcushion_grow as Grow
use Rattle.reefcushion.specs.contracts.reefcushion_grow as GrowContract
use Rattle.reefcushion.proofs.reefcushion_shrink as Shrink
use Rattle.reefcushion.specs.contracts.reefcushion_shrink as ShrinkContract
use Rattle.reefcushion.proofs.reefcushion_check as Check
use Rattle.reefcushion.specs.contracts.reefcushion_check as CheckContract
use Rattle.reefcushion.proofs.reefcushion_compare as Compare
use Rattle.reefcushion.specs.contracts.reefcushion_compare as CompareContract
use Rattle.reefcushion.proofs.reefcushion_merge as Merge
use Rattle.reefcushion.specs.contracts.reefcushion_merge as MergeContract
use Rattle.reefcushion.proofs.reefcushion_due as Due
use Rattle.reefcushion.specs.contracts.reefcushion_due as DueContract
use Rattle.reefcushion.specs.Slip.{Served, file_in, served, served_row, served_run, served_room, served_compare, served_merge, due_on}

-- what the code of a call comes to: the file that it leaves is the one that its slip and its area
-- are
abbrev pub came : ℕ → (slip area : List ℕ) → Served
came returned slip area = record { returned = returned; slip = slip; file = file_in slip area }

-- The arguments stand in the order of the signature: a.0 is the slip, a.1.0 the area, and so on;
-- v has a place for each, and in it what is left of what was lent to be changed.
pub record SlipAnswers : Type 0 where
  pub format_edition : Settled FormatEditionContract.ended FormatEdition.Reads.Asked FormatEdition.Reads.Learnt
      (λ κs a. served a.0.now a.1.0.now (format (params a.1.1.0 a.1.1.1.0 a.1.1.1.1.0 a.1.1.1.1.1.1.0) a.1.1.1.1.1.0))
      (λ κs a y v. came y v.0 v.1.0)
  pub format : Settled FormatContract.ended Format.Reads.Asked Format.Reads.Learnt
      (λ κs a. served a.0.now a.1.0.now (format (params a.1.1.0 a.1.1.1.0 a.1.1.1.1.0 1) a.1.1.1.1.1.0))
      (λ κs a y v. came y v.0 v.1.0)
  pub find : Settled FindContract.ended Find.Reads.Asked Find.Reads.Learnt
      (λ κs a. served a.0.now a.1.0.now (find a.1.1.0))
      (λ κs a y v. came y v.0 a.1.0.now)
  pub put : Settled PutContract.ended Put.Reads.Asked Put.Reads.Learnt
      (λ κs a. served a.0.now a.1.0.now (put (record_with a.1.1.0 a.1.1.1.0 0)))
      (λ κs a y v. came y v.0 v.1.0)
  pub put_run : Settled PutRunContract.ended {O = Served × List ℕ} PutRun.Reads.Asked PutRun.Reads.Learnt
      (λ κs a.
      (served_run a.0.now a.1.0.now a.1.1.0.now a.1.1.1.0.now, served_room a.0.now a.1.0.now a.1.1.0.now a.1.1.1.0.now))
      (λ κs a y v. (came y v.0 v.1.0, v.1.1.1.0))
  pub remove : Settled RemoveContract.ended Remove.Reads.Asked Remove.Reads.Learnt
      (λ κs a. served a.0.now a.1.0.now (remove a.1.1.0))
      (λ κs a y v. came y v.0 v.1.0)
  pub grow : Settled GrowContract.ended {O = Served × List ℕ} Grow.Reads.Asked Grow.Reads.Learnt
      (λ κs a. (served a.0.now a.1.0.now (grow a.1.1.0.now), served_row a.0.now a.1.0.now a.1.1.0.now))
      (λ κs a y v. (came y v.0 v.1.0, v.1.1.0))
  pub shrink : Settled ShrinkContract.ended Shrink.Reads.Asked Shrink.Reads.Learnt
      (λ κs a. served a.0.now a.1.0.now shrink)
      (λ κs a y v. came y v.0 v.1.0)
  pub check : Settled CheckContract.ended Check.Reads.Asked Check.Reads.Learnt
      (λ κs a. served a.0.now a.1.0.now check)
      (λ κs a y v. came y v.0 a.1.0.now)
  -- a comparison reads two slips and two areas, and leaves the room for the list and what it is told in
  pub compare : Settled CompareContract.ended Compare.Reads.Asked Compare.Reads.Learnt
      (λ κs a. served_compare a.0.now a.1.0.now a.1.1.0.now a.1.1.1.0.now a.1.1.1.1.0.now a.1.1.1.1.1.0.now)
      (λ κs a y v. record { returned = y; list = v.1.1.1.1.0; comparison = v.1.1.1.1.1.0 })
  -- a merge leaves the living file's slip and area, and the row
  pub merge : Settled MergeContract.ended Merge.Reads.Asked Merge.Reads.Learnt
      (λ κs a. served_merge a.0.now a.1.0.now a.1.1.0.now a.1.1.1.0.now a.1.1.1.1.0.now)
      (λ κs a y v. record { served = came y v.0 v.1.0; row = v.1.1.1.1.0 })
  pub due : Settled DueContract.ended Due.Reads.Asked Due.Reads.Learnt (λ κs a. due_on a.0.now) (λ κs a y v. y)
