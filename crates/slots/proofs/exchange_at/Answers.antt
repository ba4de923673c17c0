-- `slots::exchange_at` meets its contract: the page's bytes with a slot closed and another at the end
-- stand in the area.
use mathlib.Core.Path.{◌∙◌}
use native.Mathlib.Omega.{arith}
use Rattle.pages.specs.Page.{records_in}
use Rattle.pages.specs.Area.{part_at}
use Rattle.pages.proofs.Read.{length_held}
use Rattle.pages.proofs.Bounds.{part_bytes}
use Rattle.pages.proofs.RoundTrip.{formed_bytes}
use Rattle.pages.proofs.Write.{part_written}
use Rattle.pages.proofs.Areas.{part_length, lent_part}
use Rattle.slots.proofs.Moving.{page_exchanged}
use Rattle.slots.proofs.exchange_at.Goals as goal

pub returns : goal.returns
returns g c =
    let a = c.args in
    let l = part_at a.area.now a.a in
    let rs = records_in g.L.Layout.layout l in
    let is = formed_bytes g.L.Layout.layout a.a l c.requires.4 (part_length a.area.now a.a c.requires.1) (part_bytes a.area.now a.a (λ k h. omega (arith, c.slice_known-1.given k))) in
    let full = length_held g.L.Layout.layout l ∙ c.requires.3 in
    let closed = rw (lent_part a.area.now a.a) at c.close_slot.ensures in
    part_written g.L.Layout.layout a.area.now a.a _ _ (page_exchanged g.L.Layout.layout a.a l rs is a.at c.requires.2 (omega arith) full a.x _ closed)
