-- `slots::take_out` meets its contract: past the count nothing is written, else the slot is closed
-- and the count written.
use mathlib.Core.Path.{sym, ap, ◌∙◌}
use Prim.Native.Nat.{◌<◌}
use native.Mathlib.Omega.{arith}
use lib.ListN.{length}
use Rattle.layouts.proofs.Lying.{slots_few}
use Rattle.pages.specs.Page.{page_bytes, records_in}
use Rattle.pages.proofs.Rows.{closed_past, closed-length}
use Rattle.pages.proofs.Read.{length_held, held_few}
use Rattle.pages.proofs.RoundTrip.{formed_bytes}
use Rattle.slots.proofs.Moving.{page_closed}
use Rattle.slots.proofs.take_out.Goals as goal

pub returns-then-count-at : goal.returns-then-count-at
returns-then-count-at g c a w =
    let f = g.L.Layout.layout in
    let l = c.args.part.now in
    let past = closed_past c.args.at (records_in f l) (omega (arith, length_held f l, c.count_in-count.ensures)) in
    formed_bytes f a l w c.requires (λ k h. omega (arith, c.slice_known-1.given k)) ∙ ap (page_bytes f a) (sym past)

pub overflow_cast-count : goal.overflow_cast-count
overflow_cast-count g c =
    omega (arith, c.count_in-count.ensures, (slots_few g.L.Layout.layout).1)

pub returns : goal.returns
returns g c a w =
    let f = g.L.Layout.layout in
    let l = c.args.part.now in
    let at = c.args.at in
    let rs = records_in f l in
    let held : at < length rs = omega (arith, length_held f l, c.count_in-count.ensures) in
    let few = held_few f l in
    c.put.ensures
    ∙ page_closed f a l rs (formed_bytes f a l w c.requires (λ k h. omega (arith, c.slice_known-1.given k))) at (omega arith) (omega arith) held few _ _ c.close_slot.ensures
    (omega (arith, c.count_in-count.ensures, length_held f l, closed-length at rs held))
