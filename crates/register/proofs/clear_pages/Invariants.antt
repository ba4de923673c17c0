-- `register::clear_pages` meets its contract. The loop's invariant is `Cleared`: the pages below a
-- are empty, and those from a on are left to clear.
use Rattle.register.proofs.Clearing.{Cleared}
use Rattle.register.proofs.clear_pages.Given as goal

abbrev pub invariant-loop-a : goal.invariant-loop-a
invariant-loop-a l = Cleared l.cap l.area l.a
