-- `walks::reach_back` meets its contract. The invariant: the plan from page a on is the whole plan,
-- and page a is full, with all seams told. One law for each way out.
use mathlib.Core.Path.{◌≡◌}
use Prim.Native.Nat.{◌+◌, ◌-◌, ◌≤◌, ◌<◌}
use Rattle.homes.specs.Homes.{home_in}
use Rattle.walks.proofs.Seams.{Edge}
use Rattle.walks.proofs.Back.{plan_from}
use Rattle.walks.proofs.remove.reach_back.Given as goal

abbrev pub invariant-loop-a : goal.invariant-loop-a
invariant-loop-a l = (l.first ≤ l.a) × (l.a < l.pages.cap) × (l.read ≤ l.a + 1)
    × (plan_from (home_in l.shape) l.pages.bytes.now l.pages.cap l.first l.at l.a l.read ≡ plan_from (home_in l.shape) l.pages.bytes.now l.pages.cap l.first l.at l.first l.seen)
    × Edge (home_in l.shape) l.pages.bytes.now l.first l.a l.last_home l.last_key l.rises

abbrev pub decreases-loop-a : goal.decreases-loop-a
decreases-loop-a l = l.pages.cap - l.a
