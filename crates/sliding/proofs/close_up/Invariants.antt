-- `sliding::close_up` meets its contract. The loop's invariant: the pages below a, and those from a on
-- as they are to be laid, are the whole.
use Prim.Native.Nat.{◌-◌}
use Rattle.homes.specs.Homes.{home_in}
use Rattle.sliding.proofs.Closing.{Closing}
use Rattle.sliding.proofs.close_up.Given as goal

abbrev pub invariant-loop-a : goal.invariant-loop-a
invariant-loop-a l = Closing (home_in l.fn.shape) (l.fn.shape.p - 1) l.cap l.initial.area l.counts l.row l.area l.place l.over l.moved l.a
