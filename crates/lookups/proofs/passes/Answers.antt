-- `lookups::passes` meets its contract: of a full page the last record decides.
use mathlib.Core.Path.{◌∙◌}
use native.Mathlib.Omega.{arith}
use borrow.Author.Rules.{rules}
use Rattle.layouts.proofs.Lying.{slots_few}
use Rattle.homes.specs.Homes.{home_in}
use Rattle.placing.specs.Lay.{ranked}
use Rattle.lookups.proofs.Looking.{passes_last}
use Rattle.lookups.proofs.passes.Goals as goal

pub returns : goal.returns
returns g c =
    let a = c.args in
    let slots = c.SLOTS-slots.ensures ∙ g.L.Layout.slots_is in
    passes_last g.L.Layout.layout (home_in a.shape) a.part.now (ranked a.home a.sought) _ c.count_in.ensures (omega (arith, slots)) (omega (arith, slots_few g.L.Layout.layout)) _
    (c.get-last.ensures ∙ rw (c.slot_at.ensures, slots)) _ c.home.ensures.value _ (search rules)
