-- `unions::laying::pack_all` meets its contract. The loop's invariant is `Above`: the pages from a on are
-- packed.
use Rattle.homes.specs.Homes.{home_in}
use Rattle.rebuild.proofs.Packing.{on_page, Above}
use Rattle.unions.proofs.laying.pack_all.Given as goal

abbrev pub invariant-loop-a : goal.invariant-loop-a
invariant-loop-a l = Above (on_page l.other) (home_in l.shape) l.fn.site.cap l.initial.area l.top l.a l.at l.area
