-- A find and a check by slip leave the area, and every call the layout in use.
use mathlib.Core.Path.{◌≡◌, refl}
use mathlib.Core.Bool.{Bool, true, false, cond, ◌&&◌}
use mathlib.Core.List.{List}
use Prim.Native.Nat.{ℕ}
use Rattle.layouts.specs.Layout.{in_use}
use Rattle.register.specs.Files.{Call, find, check, left}
use Rattle.register.proofs.After.{same_layout}
use Rattle.pay_runs.specs.PayRun.{ran}
use Rattle.pay_runs.proofs.Running.{run_layout as ran_layout}
use Rattle.merges.specs.Merge.{merged}
use Rattle.reefcushion.specs.Slip.{Served, is_slip, state_in, served_merged, served_merge, file_in, served_by, served_ran, unserved, served, served_run}

module _ (slip area : List ℕ) where
  -- where both ways of a call come to the same, it does
  both : {A : Type 0} (c : Call) (f : Served → A) (x : A) → f (served_by (left (file_in slip area) c)) ≡ x → f (unserved slip area) ≡ x → f (served slip area c) ≡ x
  unfolding served
  both c f x kept unserves = go (is_slip slip)
    where
      go : (u : Bool) → f (cond u (served_by (left (file_in slip area) c)) (unserved slip area)) ≡ x
      go true = kept
      go false = unserves

  pub find-area : (k : ℕ) → (served slip area (find k)).file.area ≡ area
  unfolding left
  find-area k = both (find k) (λ v. v.file.area) area refl refl

  pub check-area : (served slip area check).file.area ≡ area
  unfolding left
  check-area = both check (λ v. v.file.area) area refl refl

  pub call_layout : (c : Call) → (served slip area c).file.layout ≡ in_use
  call_layout c = both c (λ v. v.file.layout) in_use (same_layout (file_in slip area) c) refl

  pub run_layout : (l room : List ℕ) → (served_run slip area l room).file.layout ≡ in_use
  unfolding served_run
  run_layout l room = go (is_slip slip)
    where
      go : (u : Bool) → (cond u (served_ran (ran (file_in slip area) l room)) (unserved slip area)).file.layout ≡ in_use
      go true = ran_layout (file_in slip area) l room
      go false = refl

  pub merge_layout : (slip2 area2 row : List ℕ) → (served_merge slip area slip2 area2 row).served.file.layout ≡ in_use
  unfolding served_merge
  merge_layout slip2 area2 row = go (is_slip slip && is_slip slip2)
    where
      go : (u : Bool) → (cond u (served_merged (merged in_use (state_in slip) area row (state_in slip2) area2)) (record { served = unserved slip area; row = row })).served.file.layout ≡ in_use
      go true = refl
      go false = refl
