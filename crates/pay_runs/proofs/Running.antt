-- The file that a run leaves.
use mathlib.Core.Path.{◌≡◌, refl, ◌∙◌, ap}
use mathlib.Core.Bool.{Bool, true, false, cond}
use mathlib.Core.List.{List, []}
use Prim.Native.Nat.{ℕ}
use lib.Dec.{eqb}
use Rattle.register.proofs.After.{after-layout}
use Rattle.register.specs.Files.{File, after}
use Rattle.pay_runs.specs.PayRun.{items, puts_in, run_refusal, put_all, refuses, ran, made_by}

-- a run leaves the file that its calls leave
pub run_after : (f : File) (l room : List ℕ) → (ran f l room).file ≡ after f (made_by l room)
unfolding ran after
run_after f l room = go (eqb (run_refusal l room) 0)
  where
    go : (u : Bool) → (cond u (put_all f (puts_in (items l) l)) (refuses (run_refusal l room) f room)).file ≡ after f (cond u (puts_in (items l) l) [])
    go true = refl
    go false = refl

-- in the layout that it had
pub run_layout : (f : File) (l room : List ℕ) → (ran f l room).file.layout ≡ f.layout
run_layout f l room = ap (λ (g : File). g.layout) (run_after f l room) ∙ after-layout f (made_by l room)
