-- The pages below a, and the entries that are left laid on the others, are the whole.
use Rattle.rebuild.proofs.Laying.{Unpacking}
use Rattle.rebuild.proofs.unpack.Given as goal

abbrev pub invariant-loop-a : goal.invariant-loop-a
invariant-loop-a l = Unpacking l.initial.area l.cap l.base l.area l.moved l.at l.a
