-- `leaving::leave` meets its contract. The loop's invariant is `Leaving`: the entries that wait from
-- page a on, left and counted behind what is done, make all. Beside it `Next`, that no page gives
-- before the next one, and `Begun`, which stays as it is.
use Prim.Native.Nat.{◌-◌}
use Rattle.homes.specs.Homes.{shape_of, home_in}
use Rattle.rebuild.specs.Steps.Rebuild.{packed}
use Rattle.leaving.proofs.Leaving.{Leaving}
use Rattle.leaving.proofs.Left.{Begun}
use Rattle.leaving.proofs.Stride.{Next}
use Rattle.leaving.proofs.leave.Given as goal

abbrev pub invariant-loop-a : goal.invariant-loop-a
invariant-loop-a l =
    let was = home_in (shape_of l.fn.shape.params (l.fn.shape.p - 1)) in
    let h = home_in l.fn.shape in
    Next l.giving l.a l.next × Begun was h l.giving l.added l.cap l.area l.initial.row × Leaving was h l.added l.cap l.area (packed h l.cap l.area) l.initial.room l.a l.over l.at l.row l.room
