-- `unions::laying::pack_lacking` meets its contract. The loop's invariant is `Above`: what is lacking of the pages
-- from a on is packed.
use Prim.Native.Nat.{◌*◌}
use Rattle.homes.specs.Homes.{home_in}
use Rattle.rebuild.proofs.Packing.{Above}
use Rattle.sites.specs.Steps.Sites.{look}
use Rattle.unions.proofs.Together.{partly}
use Rattle.unions.proofs.laying.pack_lacking.Given as goal

abbrev pub invariant-loop-a : goal.invariant-loop-a
invariant-loop-a l = Above (partly (look l.there l.other) l.initial.area) (home_in l.fn.here.shape) l.fn.here.cap l.initial.area (256 * l.fn.here.cap) l.a l.at l.area
