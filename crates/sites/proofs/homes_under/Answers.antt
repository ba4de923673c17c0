-- `sites::homes_under` meets its contract: the homes are known, or worked out.
use mathlib.Core.Path.{◌≡◌}
use borrow.Author.Rules.{rules}
use Rattle.layouts.specs.Layout.{in_use}
use Rattle.homes.specs.Homes.{home_in}
use Rattle.pages.specs.Area.{part_at}
use Rattle.pages.specs.Steps.Slots.{records_of}
use Rattle.pages.proofs.Read.{held_few, ready}
use Rattle.pages.proofs.Seeking.{homes_key}
use Rattle.sites.proofs.homes_under.Goals as goal

pub returns-then-eq : goal.returns-then-eq
unfolding records_of
returns-then-eq c =
    let a = c.args in
    homes_key (home_in a.shape) a.page.count a.page.keys a.page.values a.page.runs _ c.homes_here.ensures

pub homes_of-requires : goal.homes_of-requires
homes_of-requires c = (ready _ _ c.requires.2 (held_few in_use (part_at c.args.area.now c.args.a))).0

pub homes_here-requires-clause-ready : goal.homes_here-requires-clause-ready
homes_here-requires-clause-ready c =
    let one : c.args.own ≡ c.args.shape = search rules in
    rw one at c.requires.3
