-- `unions::tally_all` meets its contract. The loop's invariant: the pages below a are counted.
use Prim.Native.Nat.{◌-◌}
use Rattle.homes.specs.Homes.{home_in}
use Rattle.pages.specs.Page.{home_for}
use Rattle.rebuild.proofs.Packing.{on_page}
use Rattle.unions.proofs.Tallying.{Counting}
use Rattle.unions.proofs.tally_all.Given as goal

abbrev pub invariant-loop-a : goal.invariant-loop-a
invariant-loop-a l = Counting (on_page l.area) (home_for (home_in l.shape)) l.fn.site.cap l.initial.row l.row l.a
