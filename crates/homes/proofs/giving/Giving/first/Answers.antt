use mathlib.Core.Path.{◌≡◌, sym, ◌∙◌}
use native.Mathlib.Omega.{arith}
use Rattle.homes.proofs.Beginning.{sweeps_are}
use Rattle.homes.proofs.Givers.{gives_behind, giver, first_is}
use Rattle.homes.proofs.giving.Giving.first.Goals as goal

-- the sweeps' number
sweeps : (c : goal.After-new-sweeps) → c.new-sweeps.result.s ≡ c.args.self.s
sweeps c = (sweeps_are _ _ _ c.new-sweeps.ensures).0

pub loop-group-init : goal.loop-group-init
loop-group-init c =
    let w = giver c.requires in
    (w.0, w.1, rw (sweeps c) w.2, omega arith)

pub returns-then-target-behind-clause-value : goal.returns-then-target-behind-clause-value
returns-then-target-behind-clause-value c =
    let start = c.before.before.before.before in
    let behind = rw (sweeps start) at (sym c.target.ensures.value ∙ c.if-target-behind.true) in
    sym (first_is start.requires _ (omega arith) (gives_behind start.requires _ (omega arith) behind))
