-- `homes::Shape::home` meets its contract. The loop's invariant: the stage is step x, which leads
-- home from the lane's page.
-- The measure is what is left to the size p.
use mathlib.Core.Path.{◌≡◌}
use Prim.Native.Nat.{◌-◌}
use Rattle.homes.specs.Steps.Lanes.{InGroup, address_of}
use Rattle.homes.specs.Steps.Sweeps.{sweeps_of}
use Rattle.homes.proofs.Turn.{Stepping, Leads}
use Rattle.homes.proofs.Shape.home.Given as goal

abbrev pub invariant-loop-stage : goal.invariant-loop-stage
invariant-loop-stage l = Stepping l.n0 l.x l.stage
    × Leads l.later l.n0 l.initial.stage.g l.initial.sweeps.s l.p l.key l.x l.stage (address_of l.stage.g l.lane)
    × InGroup l.stage.g l.lane
    × (l.sweeps ≡ sweeps_of l.initial.sweeps.s l.stage.g)

abbrev pub decreases-loop-stage : goal.decreases-loop-stage
decreases-loop-stage l = l.p - l.stage.f
