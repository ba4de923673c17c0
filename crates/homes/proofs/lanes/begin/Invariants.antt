-- `homes::lanes::begin` meets its contract. The loop's invariant: in each row the places below i
-- are as they start, and the others 0.
use mathlib.Core.Path.{◌≡◌}
use mathlib.Core.List.{List}
use Prim.Native.Nat.{ℕ, ◌*◌, ◌%◌, ◌≤◌, ◌<◌}
use lib.ListN.{get_or}
use Rattle.draws.specs.Draws.{seed_of}
use Rattle.homes.proofs.Rowed.{Passed}
use Rattle.homes.proofs.lanes.begin.Given as goal

-- the places not passed are 0
pub record Rest (row : List ℕ) (i : ℕ) : Type 0 where
  pub zeros : (j : ℕ) → i ≤ j → j < 16 → get_or row j 0 ≡ 0

abbrev pub invariant-loop-i : goal.invariant-loop-i
invariant-loop-i l = Passed 12 (λ j. 2 * seed_of (get_or l.keys j 0)) l.seeds l.i
    × Passed 16 (λ j. get_or l.keys j 0 % l.m) l.pages l.i
    × Rest l.pages l.i
