-- `register::remaking::remake` meets its contract: there is room, so the file is made anew.
use borrow.Author.Rules.{rules}
use Rattle.layouts.specs.Layout.{in_use}
use Rattle.state.proofs.Ranges.{ranged}
use Rattle.register.proofs.MadeAnew.{open_set, rehomed_known, takes_all, remake_done}
use Rattle.register.proofs.remaking.remake.Goals as goal

pub rebuild-moved-requires-clause-cap_bound : goal.rebuild-moved-requires-clause-cap_bound
rebuild-moved-requires-clause-cap_bound c =
    let a = c.args in
    let n = c.requires.0 in
    let m = c.requires.1 in
    ((ranged in_use a.state n.0).cap_high, n.1, m.usable, rehomed_known a.state n.0 m a.area.now (λ k h. search rules) n.1 n.2)

pub rebuild-moved-requires-clause-fact : goal.rebuild-moved-requires-clause-fact
rebuild-moved-requires-clause-fact c =
    let a = c.args in
    let n = c.requires.0 in
    (open_set in_use a.state a.area.now (λ k h. search rules) n.1 n.2, takes_all in_use a.state a.next a.area.now a.new c.requires.2 c.requires.3)

pub returns : goal.returns
returns c =
    let a = c.args in
    remake_done in_use a.state a.next a.area.now a.new c.requires.2 _ c.rebuild-moved.ensures.0 _ c.rebuild-moved.ensures.1 _ c.made.ensures
