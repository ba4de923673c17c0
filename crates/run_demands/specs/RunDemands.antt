-- What the demands come to where pay runs are among the calls: `RunDemands`, at the end. What is
-- quoted is 02's (request 2), or the demands' where it says so.
use Rattle.std.specs.Prelude.{ℕ, ◌≡◌, false, List, [], ◌∷◌, ◌++◌, length}
use Rattle.std.proofs.Math.Option.{none, some}
use Rattle.numbers.specs.Little.{Bytes, written}
use Rattle.layouts.specs.Layout.{Layout}
use Rattle.placing.specs.Image.{All}
use Rattle.register.specs.Files.{Call, File, left, after}
use Rattle.demands.specs.Histories.{Fits, Kept, kept}
use Rattle.demands.specs.Demands.{Fresh}
use Rattle.records.specs.Records.{bytes_of_all}
use Rattle.commands.specs.Execute.{Site}
use Rattle.commands.specs.Log.{whole_log}
use Rattle.log_demands.specs.LogDemands.{file_at}
use Rattle.pay_runs.specs.PayRun.{run_refusal, ran, made_by}

-- what is done to a file: a call, or a run of these bytes with this room
pub data Act : Type 0 where
  call : Call → Act
  run : (l room : List ℕ) → Act

-- a call's numbers fit, and a run's bytes are bytes
abbrev pub FitsAct : Layout → Act → Type 0
FitsAct form (call c) = Fits form c
FitsAct form (run l room) = Bytes l

abbrev pub left_by : File → Act → File
left_by f (call c) = (left f c).file
left_by f (run l room) = (ran f l room).file

-- the demands': "each call given the pages and state that the last one left", runs among them
unfoldable pub after_all : File → List Act → File
after_all f [] = f
after_all f (a ∷ acts) = after_all (left_by f a) acts

-- the same with "the puts made one by one" in place of each run
abbrev pub calls_of : Act → List Call
calls_of (call c) = c ∷ []
calls_of (run l room) = made_by l room

unfoldable pub one_by_one : List Act → List Call
one_by_one [] = []
one_by_one (a ∷ acts) = calls_of a ++ one_by_one acts

-- The log that holds a run's records, answered in one go at a site with the same file: the same
-- replies, area and state. All bytes are taken, and what the site has beside the file stays.
pub record AsLog (d : Site) (l room : List ℕ) : Type 0 where
  pub replies : bytes_of_all (whole_log d l).replies ≡ (ran (file_at d) l room).room
  pub file : file_at (whole_log d l).site ≡ (ran (file_at d) l room).file
  pub space : (whole_log d l).site.space ≡ written d.space 0 (ran (file_at d) l room).file.area
  pub row : (whole_log d l).site.row ≡ d.row
  pub taken : (whole_log d l).taken ≡ length l
  pub goes_on : (whole_log d l).stopped ≡ false

-- What is promised of runs, and proved as `run_demands` (proofs/RunDemands.antt)
pub record RunDemands : Type 0 where
  -- calls and runs leave "the same area, state .. as the puts made one by one in that order", from
  -- any file
  pub histories : (f : File) (acts : List Act) → after_all f acts ≡ after f (one_by_one acts)
  -- so once a format was accepted it is a file after a fresh history, with what its calls and its
  -- runs' puts kept, and all of `Demands` is of it; `Refusals` is of every file
  pub fresh : (f : File) (acts : List Act) → All (FitsAct f.layout) acts → (m : Kept) → kept none f (one_by_one acts) ≡ some m → Fresh m (after_all f acts)
  pub as_log : (d : Site) (l room : List ℕ) → run_refusal l room ≡ 0 → AsLog d l room
