-- `unions::tally_lacking` meets its contract. The loop's invariant: the pages below a are counted, and the lowest
-- clash there is known.
use Prim.Native.Nat.{◌-◌}
use Rattle.homes.specs.Homes.{home_in}
use Rattle.pages.specs.Page.{key, home_for}
use Rattle.rebuild.proofs.Packing.{on_page}
use Rattle.sites.specs.Steps.Sites.{look}
use Rattle.two_sets.specs.Steps.Lowest.{lacking}
use Rattle.unions.proofs.Tallying.{Counting, Weighing}
use Rattle.unions.proofs.tally_lacking.Given as goal

abbrev pub invariant-loop-a : goal.invariant-loop-a
invariant-loop-a l = Counting (λ i. lacking key (look l.there l.other) (on_page l.area i)) (home_for (home_in l.fn.here.shape)) l.fn.here.cap l.initial.row l.row l.a × Weighing (look l.there l.other) l.area l.fn.here.cap l.clash l.a
