-- What a merge by slips comes to where both have a slip's length.
use mathlib.Core.Path.{◌≡◌}
use mathlib.Core.List.{List}
use Prim.Native.Nat.{ℕ}
use lib.ListN.{length}
use borrow.Author.Tests.{eq-eqb}
use Rattle.layouts.specs.Layout.{in_use}
use Rattle.state.specs.declared.State.{State}
use Rattle.merges.specs.Merge.{merged}
use Rattle.reefcushion.specs.Slip.{served_merged, served_merge, state_in}

pub merge_served : (l area m other row : List ℕ) → length l ≡ 40 → length m ≡ 40 → (s t : State) → s ≡ state_in l → t ≡ state_in m
    → served_merge l area m other row ≡ served_merged (merged in_use s area row t other)
unfolding served_merge
merge_served l area m other row forty too s t is it = rw (eq-eqb (length l) 40 forty, eq-eqb (length m) 40 too, is, it)
