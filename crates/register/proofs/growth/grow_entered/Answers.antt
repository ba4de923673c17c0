-- `register::grow_entered` meets its contract.
use mathlib.Core.Path.{sym}
use borrow.Author.Rules.{rules}
use Rattle.layouts.specs.Layout.{in_use}
use Rattle.state.proofs.Ranges.{ranged}
use Rattle.register.proofs.MadeAnew.{cut}
use Rattle.register.proofs.growth.grow_entered.Goals as goal

pub slice_bounds-counts-end : goal.slice_bounds-counts-end
slice_bounds-counts-end c = (ranged in_use c.args.state c.requires.0).cap_high

pub slice_bounds-grow_counting-end : goal.slice_bounds-grow_counting-end
slice_bounds-grow_counting-end c = sym (cut 4096 c.args.state.cap (ranged in_use c.args.state c.requires.0).cap_high)

pub grow_counting-requires : goal.grow_counting-requires
grow_counting-requires c = (c.requires, cut 4096 c.args.state.cap (ranged in_use c.args.state c.requires.0).cap_high, search rules)
