-- `walks::reach` meets its contract. The loop's invariant: what is left of the way is the whole of
-- it, and the page before is full, with all seams told.
use mathlib.Core.Path.{◌≡◌}
use Prim.Native.Nat.{suc, ◌-◌, ◌≤◌}
use Rattle.homes.specs.Homes.{home_in}
use Rattle.walks.proofs.Seams.{Edge}
use Rattle.walks.proofs.PutPlan.{reach_left}
use Rattle.walks.proofs.put.reach.Given as goal

abbrev pub invariant-loop-a : goal.invariant-loop-a
invariant-loop-a l = (l.read ≤ l.a) × (reach_left (home_in l.shape) l.pages.bytes.now l.pages.cap l.first l.at l.a l.read ≡ reach_left (home_in l.shape) l.pages.bytes.now l.pages.cap l.first l.at (suc l.first) l.seen)
    × Edge (home_in l.shape) l.pages.bytes.now l.first (l.a - 1) l.last_home l.last_key l.rises
