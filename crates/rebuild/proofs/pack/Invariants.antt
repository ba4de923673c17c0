-- The pages from a on are packed.
use Prim.Native.Nat.{◌*◌}
use Rattle.homes.specs.Steps.NewHomes.{new_home}
use Rattle.rebuild.proofs.Packing.{on_page, Above}
use Rattle.rebuild.proofs.pack.Given as goal

abbrev pub invariant-loop-a : goal.invariant-loop-a
invariant-loop-a l = Above (on_page l.initial.area) (new_home l.new) l.cap l.initial.area (256 * l.cap) l.a l.at l.area
