-- `differences::pass` meets its contract: the pages below a are passed.
use mathlib.Core.List.{[]}
use Rattle.layouts.specs.Layout.{in_use}
use Rattle.placing.specs.Image.{cat}
use Rattle.pages.specs.Area.{held_from}
use Rattle.sites.specs.Steps.Sites.{look}
use Rattle.differences.specs.Steps.Passes.{Passes}
use Rattle.differences.proofs.Passing.{tally_of}
use Rattle.differences.proofs.pass.Given as goal

abbrev pub invariant-loop-a : goal.invariant-loop-a
invariant-loop-a l = Passes l.which (look l.site l.other) (cat (held_from in_use l.area l.a 0) []) l.initial.row l.at (tally_of l.absent l.unlike) l.row
