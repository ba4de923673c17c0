-- `reefcushion::tell` meets its contract: the numbers of the answer are handed back.
use mathlib.Core.Path.{ap, ◌∙◌}
use Rattle.state.specs.declared.Done.{Done}
use Rattle.state.specs.declared.Numbers.{Numbers}
use Rattle.reefcushion.specs.Slip.{slip_about}
use Rattle.reefcushion.proofs.tell.Goals as goal

pub returns-clause-slip_after : goal.returns-clause-slip_after
returns-clause-slip_after c =
    c.hand_back.ensures.slip_after ∙ ap (λ (t : Done Numbers). slip_about t.state t.answer 0) c.tell.ensures
