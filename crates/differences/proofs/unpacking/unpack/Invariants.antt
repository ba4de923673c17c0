-- `differences::unpacking::unpack` meets its contract. The loop's invariant is `Unpacking`. The measure
-- is how many bytes are left to read.
use Prim.Native.Nat.{◌-◌}
use lib.ListN.{length}
use Rattle.sites.specs.Steps.Sites.{look}
use Rattle.differences.proofs.InPlace.{Unpacking}
use Rattle.differences.proofs.unpacking.unpack.Given as goal

abbrev pub invariant-loop-from : goal.invariant-loop-from
invariant-loop-from l = Unpacking (look l.site l.other) l.initial.row l.base l.row l.to l.from

abbrev pub decreases-loop-from : goal.decreases-loop-from
decreases-loop-from l = length l.row - l.from
