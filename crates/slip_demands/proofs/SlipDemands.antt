-- Calls by slip are a history of calls.
use mathlib.Core.Path.{◌≡◌, refl, sym, ap, ◌∙◌}
use mathlib.Core.List.{List}
use Prim.Native.Nat.{ℕ}
use lib.ListN.{length}
use borrow.Author.Tests.{eq-eqb}
use Rattle.numbers.proofs.Records.{length-encode}
use Rattle.register.specs.Files.{Call, left, after}
use Rattle.register.proofs.After.{after-append}
use Rattle.pay_runs.specs.PayRun.{ran, made_by}
use Rattle.pay_runs.proofs.Running.{run_after}
use Rattle.reefcushion.specs.Slip.{state_in, file_in, served_by, served_ran, served, served_run}
use Rattle.reefcushion.proofs.Calling.{merge_served}
use Rattle.slip_demands.specs.SlipDemands.{Handed, no_call, one_call, one_run, SlipDemands}

module _ (slip area : List ℕ) (forty : length slip ≡ 40) (c : Call) where
  -- on a slip, a call is the register's
  on_slip : served slip area c ≡ served_by (left (file_in slip area) c)
  unfolding served
  on_slip = rw (eq-eqb (length slip) 40 forty)

  -- and leaves a slip
  stays_slip : length (served slip area c).slip ≡ 40
  stays_slip = rw on_slip (length-encode _)

module _ (slip area : List ℕ) (forty : length slip ≡ 40) (l room : List ℕ) where
  -- on a slip, a run is the run of the file, and leaves a slip
  run_on_slip : served_run slip area l room ≡ served_ran (ran (file_in slip area) l room)
  unfolding served_run
  run_on_slip = rw (eq-eqb (length slip) 40 forty)

  run_stays_slip : length (served_run slip area l room).slip ≡ 40
  run_stays_slip = rw run_on_slip (length-encode _)

  -- and the file that its calls leave
  run_leaves : (served_run slip area l room).file ≡ after (file_in slip area) (made_by l room)
  run_leaves = ap (λ v. v.file) run_on_slip ∙ run_after (file_in slip area) l room

handed : {cs : List Call} {slip area slip' area' : List ℕ} → Handed cs slip area slip' area' → length slip ≡ 40 → file_in slip' area' ≡ after (file_in slip area) cs
unfolding after
handed no_call forty = refl
handed (one_call {c} {cs} {slip} {area} s f rest) forty =
    handed rest (ap length s ∙ stays_slip slip area forty c) ∙ ap (λ g. after g cs) (f ∙ ap (λ v. v.file) (on_slip slip area forty c))
handed (one_run l room {cs} {slip} {area} s f rest) forty =
    handed rest (ap length s ∙ run_stays_slip slip area forty l room) ∙ ap (λ g. after g cs) (f ∙ run_leaves slip area forty l room)
    ∙ sym (after-append (file_in slip area) (made_by l room) cs)

pub slip_demands : SlipDemands
slip_demands =
    record {
      histories = handed;
      fresh = λ {cs} {slip} {area} h forty fits m keeps. record { start = file_in slip area; calls = cs; fits = fits; keeps = keeps; leaves = sym (handed h forty) };
      read_as_before = λ slip e. rw e;
      written_as_before = λ n0 N s P cap r n. refl;
      merges = λ slip area slip2 area2 row forty too. rw (merge_served slip area slip2 area2 row forty too (state_in slip) (state_in slip2) refl refl) (refl, refl, refl);
    }
