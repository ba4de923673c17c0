-- `slots::insert` meets its contract: with every slot passed nothing is written, else the slot is
-- opened and the count written.
use mathlib.Core.Path.{ap, ◌∙◌}
use Prim.Native.Nat.{◌≤◌, ◌<◌}
use native.Mathlib.Omega.{arith}
use lib.ListN.{length}
use Rattle.layouts.specs.Layout.{slots_of}
use Rattle.pages.specs.Page.{page_bytes, records_in}
use Rattle.pages.proofs.Rows.{opened_count}
use Rattle.pages.proofs.Read.{length_held}
use Rattle.pages.proofs.RoundTrip.{formed_bytes}
use Rattle.slots.proofs.Moving.{opened_past, opened_over, page_opened}
use Rattle.slots.proofs.insert.Goals as goal

pub returns-then-at-slots : goal.returns-then-at-slots
returns-then-at-slots g c =
    let f = g.L.Layout.layout in
    let l = c.args.part.now in
    let past = opened_past (slots_of f) c.args.at c.args.x (records_in f l) (omega (arith, length_held f l, g.L.Layout.slots_is, c.requires.1)) (omega (arith, g.L.Layout.slots_is)) in
    record { value = past.0; fact = λ a w. formed_bytes f a l w c.requires.0 (λ k h. omega (arith, c.type_inv.part k)) ∙ ap (page_bytes f a) past.1 }

pub returns : goal.returns
returns g c =
    let f = g.L.Layout.layout in
    let l = c.args.part.now in
    let x = c.args.x in
    let at = c.args.at in
    let rs = records_in f l in
    let size = c.SLOTS-slots.ensures ∙ g.L.Layout.slots_is in
    let low : at < slots_of f = omega (arith, length_held f l) in
    let lies : at ≤ length rs = omega (arith, length_held f l, c.requires.1) in record {
      value = rw size at c.record_or-over.ensures ∙ opened_over (slots_of f) at x rs low lies;
      fact = λ a w.
          c.put.ensures
          ∙ page_opened f a l rs (formed_bytes f a l w c.requires.0 (λ k h. omega (arith, c.slice_known-1.given k))) at low lies x _ _ c.open_slot.ensures
          (omega (arith, c.min-held.ensures, size, c.count_in-count.ensures, length_held f l, opened_count (slots_of f) at x rs));
    }
