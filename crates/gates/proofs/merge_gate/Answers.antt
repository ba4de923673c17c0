-- Past the entry the pages decide.
use Rattle.gates.proofs.Gating.{whole, whole_row}
use Rattle.gates.proofs.merge_gate.Goals as goal

pub returns-clause-within : goal.returns-clause-within
returns-clause-within g c =
    let a = c.args in
    let k = c.in_ok-row_entry.ensures.within in
    whole_row g.L.Layout.layout a.state a.area.now a.n _ (whole g.L.Layout.layout a.state a.area.now k.0 k.1 _ c.image_gate.ensures) k.2
