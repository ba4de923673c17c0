-- `pages::slots_formed` meets its contract: the slots that are left decide.
use mathlib.Core.Path.{◌≡◌}
use Rattle.numbers.specs.Fields.{matches}
use Rattle.layouts.specs.Layout.{slots_of}
use Rattle.pages.specs.Page.{slots, records_from}
use Rattle.pages.proofs.Read.{slots_left}
use Rattle.pages.proofs.slots_formed.Given as goal

abbrev pub invariant-loop-i : goal.invariant-loop-i
invariant-loop-i g l = let f = g.L.Layout.layout in slots_left f l.part l.count l.i ≡ matches l.part 16 (slots f (slots_of f) (records_from f l.count 0 l.part))
