-- What the demands come to for a program that calls by slips: `SlipDemands`, at the end. What is
-- quoted is the demands', or 02's where that is said.
use Rattle.std.specs.Prelude.{◌≡◌, List, [], ◌∷◌, ◌++◌, ℕ, length}
use Rattle.std.proofs.Math.Option.{none, some}
use Rattle.numbers.specs.Little.{number_at}
use Rattle.numbers.specs.Fields.{encode}
use Rattle.layouts.specs.Layout.{in_use}
use Rattle.homes.specs.Homes.{params}
use Rattle.placing.specs.Image.{All}
use Rattle.state.specs.declared.Numbers.{Numbers}
use Rattle.slips.specs.Slips.{answer_fields}
use Rattle.register.specs.Files.{Call, after}
use Rattle.demands.specs.Histories.{Fits, Kept, kept}
use Rattle.demands.specs.Demands.{Fresh}
use Rattle.merge_demands.specs.MergeDemands.{merging, number, left_by}
use Rattle.pay_runs.specs.PayRun.{made_by}
use Rattle.reefcushion.specs.Slip.{state_in, slip_of, file_in, served, served_run, served_merge}

-- calls by slip, "each call given the pages and state that the last one left": from one slip and
-- area to another. What a call leaves of them is what `slip_answers` says (due leaves both as they
-- are, and is none of these). A pay run (02, request 2) counts as the puts that it makes.
pub data Handed : List Call → (slip area slip' area' : List ℕ) → Type 0 where
  no_call : {slip area : List ℕ} → Handed [] slip area slip area
  one_call : {c : Call} {cs : List Call} {slip area slip' area' slip'' area'' : List ℕ} → slip' ≡ (served slip area c).slip → file_in slip' area' ≡ (served slip area c).file
      → Handed cs slip' area' slip'' area'' → Handed (c ∷ cs) slip area slip'' area''
  one_run : (l room : List ℕ) {cs : List Call} {slip area slip' area' slip'' area'' : List ℕ} → slip' ≡ (served_run slip area l room).slip
      → file_in slip' area' ≡ (served_run slip area l room).file → Handed cs slip' area' slip'' area'' → Handed (made_by l room ++ cs) slip area slip'' area''

-- What is promised of such calls, and proved as `slip_demands` (proofs/SlipDemands.antt)
pub record SlipDemands : Type 0 where
  -- the last slip and area are the file that the same calls leave as a history
  pub histories : {cs : List Call} {slip area slip' area' : List ℕ} → Handed cs slip area slip' area' → length slip ≡ 40
      → file_in slip' area' ≡ after (file_in slip area) cs
  -- so once a format was accepted they are a file after a fresh history, and all of `Demands` is of
  -- it
  pub fresh : {cs : List Call} {slip area slip' area' : List ℕ} → Handed cs slip area slip' area' → length slip ≡ 40 → All (Fits in_use) cs
      → (m : Kept) → kept none (file_in slip area) cs ≡ some m → Fresh m (file_in slip' area')
  -- 02, request 4: "Edition 1 files stay readable and writable as they are": a slip with 0 before
  -- r, as all were before there were editions, is of edition 1, and one of edition 1 is written so
  pub read_as_before : (slip : List ℕ) → number_at 2 slip 10 ≡ 0 → (state_in slip).params.edition ≡ 1
  pub written_as_before : (n0 N s P cap r : ℕ) (n : Numbers) → slip_of (record { params = params n0 N s 1; p = P; cap = cap; r = r }) n
      ≡ encode (((2, n0) ∷ (2, N) ∷ (2, s) ∷ (2, P) ∷ (2, cap) ∷ (2, 0) ∷ (4, r) ∷ []) ++ answer_fields n 0)
  -- 02, request 9: a merge by slips is that of the files that they are, so all of `MergeDemands` is of it
  pub merges : (slip area slip2 area2 row : List ℕ) → length slip ≡ 40 → length slip2 ≡ 40
      → let o = served_merge slip area slip2 area2 row in
      (o.served.returned ≡ number (file_in slip area) row (file_in slip2 area2)) × (o.served.file ≡ left_by (file_in slip area) row (file_in slip2 area2)) × (o.row ≡ (merging (file_in slip area) row (file_in slip2 area2)).row)
