-- `pages::slot::put_kind` meets its contract: its fields, stored one after the other, are one write
-- of the slot.
use mathlib.Core.Path.{◌∙◌}
use mathlib.Core.List.{List, [], ◌∷◌}
use native.Mathlib.Nat.{add_assoc}
use native.Mathlib.Omega.{arith}
use Prim.Native.Nat.{◌+◌}
use Rattle.numbers.specs.Fields.{Field}
use Rattle.numbers.proofs.Records.{puts-written}
use Rattle.layouts.specs.Layout.{width_of}
use Rattle.pages.specs.Page.{key, value, run, run_field}
use Rattle.pages.proofs.Write.{fields_on}
use Rattle.pages.proofs.slot.put_kind.Goals as goal

pub returns : goal.returns
returns g c =
    let f = g.L.Layout.layout in
    let a = c.args in
    let four : List Field = (2, width_of f) ∷ (2, a.kind) ∷ (8, key a.x) ∷ (8, value a.x) ∷ [] in
    let m = simp add_assoc at (puts-written four a.part.now a.at c.requires.0) in
    c.put_run.ensures ∙ cc (m, g.L.Layout.width_is, fields_on four (run_field f (run a.x)) a.part.now a.at (a.at + 20) (omega arith) c.requires.0)
