-- `sliding::pull` meets its contract. The loop's invariant: the page in hand, with what it can still
-- take, is the page asked for. The measure is how many records are wanted still.
use Prim.Native.Nat.{◌-◌}
use Rattle.sliding.proofs.Pulling.{Pulling}
use Rattle.sliding.proofs.pull.Given as goal

abbrev pub invariant-loop-count : goal.invariant-loop-count
invariant-loop-count l = Pulling l.area l.cap l.row l.want l.a l.initial.place l.keys l.values l.runs l.count l.moved l.place

abbrev pub decreases-loop-count : goal.decreases-loop-count
decreases-loop-count l = l.want - l.count
