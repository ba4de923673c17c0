use mathlib.Core.Path.{◌∙◌}
use native.Mathlib.Omega.{arith}
use Rattle.layouts.proofs.Lying.{slot_fits, width_low}
use Rattle.pages.proofs.Read.{slots_stop, slots_turn, slots_end}
use Rattle.pages.proofs.slots_formed.Goals as goal

pub formed-requires : goal.formed-requires
formed-requires g c =
    let f = g.L.Layout.layout in
    let fits = slot_fits f c.loop-i.i (omega (arith, g.L.Layout.slots_is)) in
    (omega (arith, c.slot_at.ensures, fits, width_low f), omega (arith, c.slot_at.ensures, fits))

pub returns-then-not-formed : goal.returns-then-not-formed
returns-then-not-formed g c =
    slots_stop g.L.Layout.layout c.args.part.now c.args.count c.loop-i.i _ (omega (arith, g.L.Layout.slots_is)) (rw c.slot_at.ensures at c.formed.ensures) c.if-not-formed.true ∙ c.loop-i.invariant

pub loop-i-preserved : goal.loop-i-preserved
loop-i-preserved g c =
    slots_turn g.L.Layout.layout c.args.part.now c.args.count c.loop-i.i _ (omega (arith, g.L.Layout.slots_is)) (rw c.slot_at.ensures at c.formed.ensures) c.if-not-formed.false ∙ c.loop-i.invariant

pub returns : goal.returns
returns g c = slots_end g.L.Layout.layout c.args.part.now c.args.count c.loop-i.i (omega (arith, g.L.Layout.slots_is)) ∙ c.loop-i.invariant
