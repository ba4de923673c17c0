-- `unions::add_homes` meets its contract: the first i records are counted.
use mathlib.Core.Path.{◌≡◌}
use mathlib.Core.List.{map}
use Rattle.homes.specs.Homes.{home_in}
use Rattle.pages.specs.Page.{home_for}
use Rattle.pages.specs.Steps.Slots.{paired}
use Rattle.survey.specs.Steps.Looks.{tallied}
use Rattle.unions.proofs.add_homes.Given as goal

abbrev pub invariant-loop-i : goal.invariant-loop-i
invariant-loop-i l = l.row ≡ tallied (map (home_for (home_in l.fn.shape)) (paired l.i l.fn.page.keys l.fn.page.values l.fn.page.runs)) l.initial.row
