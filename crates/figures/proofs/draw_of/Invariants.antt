-- A draw is below the modulus, so that another can be taken.
use Rattle.std.proofs.Common.{◌<◌}
use Rattle.figures.proofs.draw_of.Given as goal

abbrev pub invariant-loop : goal.invariant-loop
invariant-loop l = l.draw < 2147483647
