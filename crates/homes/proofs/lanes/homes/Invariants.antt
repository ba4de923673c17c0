-- `homes::lanes::homes` meets its contract. The loops' invariants: the stage is step x, whose steps
-- lead each key home from what is picked of its pages, as they did before the loop; and each lane
-- has its page, in a round with the groups that the round began with.
-- The measure of both is what is left to the size p.
use mathlib.Core.Path.{◌≡◌}
use Prim.Native.Nat.{ℕ, ◌-◌, ◌<◌}
use lib.ListN.{get_or}
use Rattle.homes.specs.Steps.Lanes.{Placed}
use Rattle.homes.specs.Steps.Sweeps.{sweeps_of}
use Rattle.homes.proofs.Turn.{Stepping}
use Rattle.homes.proofs.Together.{Kept, Rounding}
use Rattle.homes.proofs.lanes.homes.Given as goal

abbrev pub invariant-loop-stage-2 : goal.invariant-loop-stage-2
invariant-loop-stage-2 l = Stepping l.n0 l.x l.stage
    × Kept l.later l.n0 l.sweeps.s l.p l.seeds l.initial.x l.initial.stage l.initial.lanes.pages l.initial.before l.x l.stage l.lanes.pages l.before
    × ((i : ℕ) → i < 16 → Placed l.g l.lanes i)
    × ((i : ℕ) → i < 16 → get_or l.lanes.pages i 0 < l.stage.f)
    × Rounding l.g l.initial.stage l.stage

abbrev pub invariant-loop-stage : goal.invariant-loop-stage
invariant-loop-stage l = Stepping l.n0 l.x l.stage
    × Kept l.later l.n0 l.initial.sweeps.s l.p l.seeds l.initial.x l.initial.stage l.initial.lanes.pages l.initial.before l.x l.stage l.lanes.pages l.before
    × (l.stage.f < l.p → (i : ℕ) → i < 16 → Placed l.stage.g l.lanes i)
    × ((i : ℕ) → i < 16 → get_or l.lanes.pages i 0 < l.stage.f)
    × (l.stage.f < l.p → l.sweeps ≡ sweeps_of l.initial.sweeps.s l.stage.g)

abbrev pub decreases-loop-stage-2 : goal.decreases-loop-stage-2
decreases-loop-stage-2 l = l.p - l.stage.f

abbrev pub decreases-loop-stage : goal.decreases-loop-stage
decreases-loop-stage l = l.p - l.stage.f
