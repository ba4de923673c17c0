-- Runs are histories of their puts, and do what a log of the same records does.
use mathlib.Core.Path.{◌≡◌, refl, sym, ap, ◌∙◌}
use mathlib.Core.Bool.{Bool, true, false, cond}
use mathlib.Core.List.{List, [], ◌∷◌}
use Prim.Native.Nat.{ℕ, ◌*◌}
use native.Mathlib.Omega.{arith}
use lib.Dec.{eqb}
use lib.ListN.{length}
use borrow.Author.Tests.{eq-eqb, eqb-true}
use Rattle.numbers.specs.Little.{Bytes}
use Rattle.layouts.specs.Layout.{Layout}
use Rattle.placing.specs.Image.{All}
use Rattle.placing.proofs.Lists.{all_append}
use Rattle.pages.specs.Page.{Record}
use Rattle.register.specs.Files.{File, after}
use Rattle.register.proofs.After.{after-append}
use Rattle.demands.specs.Histories.{Fits}
use Rattle.commands.specs.Execute.{Site}
use Rattle.commands.specs.Log.{whole_log}
use Rattle.log_demands.specs.LogDemands.{file_at}
use Rattle.pages.proofs.RoundTrip.{no_run}
use Rattle.pay_runs.specs.PayRun.{items, end_to_end, puts_in, put_all, run_refusal, ran, made_by}
use Rattle.pay_runs.specs.Promises.{puts_of, AllSized}
use Rattle.pay_runs.proofs.Running.{run_after}
use Rattle.pay_runs.proofs.Promises.{run_promises}
use Rattle.run_demands.specs.RunDemands.{Act, call, run, FitsAct, left_by, after_all, calls_of, one_by_one, AsLog, RunDemands}
use Rattle.run_demands.proofs.Logging.{logged, file_had, puts_keep, whole_puts}

-- one call or run leaves what its calls leave
left_by_lem : (f : File) (a : Act) → left_by f a ≡ after f (calls_of a)
unfolding after
left_by_lem f (call c) = refl
left_by_lem f (run l room) = run_after f l room

-- so do all of them
histories : (f : File) (acts : List Act) → after_all f acts ≡ after f (one_by_one acts)
unfolding after_all one_by_one after
histories f [] = refl
histories f (a ∷ acts) =
    histories (left_by f a) acts ∙ ap (λ g. after g (one_by_one acts)) (left_by_lem f a) ∙ sym (after-append f (calls_of a) (one_by_one acts))

-- the puts of sized records fit
puts_fit : (form : Layout) (xs : List Record) → AllSized xs → All (Fits form) (puts_of xs)
unfolding puts_of
puts_fit form [] s = tt
puts_fit form (x ∷ xs) s = ((s.0.0, s.0.1, rw s.0.2 (no_run form)), puts_fit form xs s.1)

-- and so do the calls of a run
run_fits : (form : Layout) (l room : List ℕ) → Bytes l → All (Fits form) (made_by l room)
run_fits form l room b = go (eqb (run_refusal l room) 0) refl
  where
    go : (u : Bool) → eqb (run_refusal l room) 0 ≡ u → All (Fits form) (cond u (puts_in (items l) l) [])
    go false e = tt
    go true e =
        let z : run_refusal l room ≡ 0 = eqb-true (run_refusal l room) 0 e in
        let (xs, s, q) = (run_promises.ten l room b).0 (λ t. omega arith) in
        rw (← q, (run_promises.reads xs s).1) (puts_fit form xs s)

act_fits : (form : Layout) (a : Act) → FitsAct form a → All (Fits form) (calls_of a)
act_fits form (call c) w = (w, tt)
act_fits form (run l room) w = run_fits form l room w

all_fit : (form : Layout) (acts : List Act) → All (FitsAct form) acts → All (Fits form) (one_by_one acts)
unfolding one_by_one
all_fit form [] w = tt
all_fit form (a ∷ acts) w = all_append (Fits form) (calls_of a) (one_by_one acts) (act_fits form a w.0) (all_fit form acts w.1)

-- an accepted run has put records end to end, and leaves what its puts leave
module _ (l room : List ℕ) (z : run_refusal l room ≡ 0) where
  right_heads : end_to_end (items l) l ≡ true
  right_heads = go (end_to_end (items l) l) (eqb (length room) (28 * items l)) z
    where
      go : (u v : Bool) → cond {A = ℕ} u (cond v 0 15) 10 ≡ 0 → u ≡ true
      go true v e = refl
      go false v e = absurd (omega arith)

  made : (f : File) → ran f l room ≡ put_all f (puts_in (items l) l)
  unfolding ran
  made f = rw (eq-eqb (run_refusal l room) 0 z)

  -- so the log of the same records leaves the same
  as_log : (d : Site) → AsLog d l room
  as_log d =
      let n : ℕ = items l in
      let whole : whole_log d l ≡ logged d (puts_in n l) (length l) = whole_puts n d l right_heads in
      let had = file_had d (after (file_at d) (puts_in n l)) (puts_keep (file_at d) n l) in
      record {
        replies = rw (whole, made (file_at d));
        file = rw (whole, made (file_at d)) had;
        space = rw (whole, made (file_at d));
        row = rw whole;
        taken = rw whole;
        goes_on = rw whole;
      }

pub run_demands : RunDemands
run_demands = record {
  histories = histories;
  fresh = λ f acts fits m keeps. record { start = f; calls = one_by_one acts; fits = all_fit f.layout acts fits; keeps = keeps; leaves = sym (histories f acts) };
  as_log = λ d l room z. as_log l room z d;
}
