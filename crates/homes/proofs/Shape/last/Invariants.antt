-- `homes::Shape::last` meets its contract. The loop's invariant is `Seeking`: the last step is still
-- to come.
-- The measure is what is left to the size p.
use Prim.Native.Nat.{◌-◌}
use Rattle.homes.specs.Steps.Last.{last_from}
use Rattle.homes.proofs.Last.{Seeking}
use Rattle.homes.proofs.Shape.last.Given as goal

abbrev pub invariant-loop-stage : goal.invariant-loop-stage
invariant-loop-stage l = Seeking l.n0 l.p (last_from l.n0 l.p (l.p - l.initial.stage.f) 1 l.initial.stage) l.x l.stage

abbrev pub decreases-loop-stage : goal.decreases-loop-stage
decreases-loop-stage l = l.p - l.stage.f
