-- `leaving::leave_home` meets its contract. The loop's invariant is `Putting`: what is left to write,
-- written behind what is there, is all.
use Rattle.homes.specs.Steps.Giving.{takes_key}
use Rattle.leaving.proofs.Going.{Putting}
use Rattle.leaving.proofs.leave_home.Given as goal

abbrev pub invariant-loop-j : goal.invariant-loop-j
invariant-loop-j l = Putting (takes_key l.giving) l.area l.giving.added l.a l.over l.held l.start l.initial.room l.j l.at l.room
