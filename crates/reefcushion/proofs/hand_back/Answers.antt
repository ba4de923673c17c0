-- `reefcushion::hand_back` meets its contract: the state and then the answer, which are all of the
-- slip.
use native.Mathlib.Omega.{arith}
use Rattle.numbers.proofs.Records.{Fit}
use Rattle.slips.specs.Slips.{state_fields}
use Rattle.reefcushion.specs.Slip.{renumbered}
use Rattle.reefcushion.proofs.Telling.{slip_stored, slip_again}
use Rattle.reefcushion.proofs.hand_back.Goals as goal

pub returns-clause-slip_after : goal.returns-clause-slip_after
returns-clause-slip_after c =
    slip_stored c.args.told.state c.args.told.answer c.args.file _ c.requires c.renumbered.ensures c.put_state.ensures c.put_answer.ensures

-- the state's numbers fit, since its types say so
pub returns-clause-again : goal.returns-clause-again
returns-clause-again c =
    let told = c.args.told in
    let g = c.well_formed in
    let fits : Fit (state_fields (renumbered 65535 told.state)) = (omega (arith, g), (omega (arith, g), (omega (arith, g), (omega (arith, g), (omega (arith, g), (omega arith, (omega (arith, g), tt))))))) in
    slip_again told.state told.answer c.args.file fits (omega (arith, g)) (returns-clause-slip_after c)
