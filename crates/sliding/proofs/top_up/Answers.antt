use mathlib.Core.Logic.{inl, inr}
use native.Mathlib.Omega.{arith}
use Rattle.layouts.specs.Layout.{in_use}
use Rattle.pages.specs.Area.{part_at}
use Rattle.pages.proofs.Read.{length_held}
use Rattle.sliding.proofs.Topping.{topped_start, topped_turn, topped_next, topped_end, page_inside, formed_here}
use Rattle.sliding.proofs.top_up.Goals as goal

pub loop-a-init : goal.loop-a-init
loop-a-init c =
    let n = c.requires.cap_bound in
    topped_start _ _ _ _ n.1 (λ k l. omega (arith, c.type_inv.area k)) n.2 n.3 c.requires.area_value

pub insert_at-requires : goal.insert_at-requires
insert_at-requires c =
    let l = c.loop-a in
    let n = c.requires.cap_bound in (
      omega (arith, c.loop-a-test.true, n.0),
      page_inside l.invariant c.loop-a-test.true c.if-at-row.true n.0,
      omega (arith, c.count_at-count.ensures, length_held in_use (part_at l.area l.a)),
      formed_here l.invariant c.loop-a-test.true c.if-at-row.true n.0,
    )

pub loop-a-preserved-then-count-lt-SLOTS : goal.loop-a-preserved-then-count-lt-SLOTS
loop-a-preserved-then-count-lt-SLOTS c =
    topped_turn c.loop-a.invariant c.loop-a-test.true c.if-at-row.true c.requires.cap_bound.0 _ c.count_at-count.ensures c.if-count-lt-SLOTS.true
    (λ k m. omega (arith, c.type_inv.row k)) _ c.get_entry-e.ensures _ c.strange-moved.ensures _ c.insert_at.ensures.area_after

pub loop-a-preserved : goal.loop-a-preserved
loop-a-preserved c = topped_next c.loop-a.invariant c.loop-a-test.true c.if-at-row.true c.requires.cap_bound.0 _ c.count_at-count.ensures c.if-count-lt-SLOTS.false

pub returns-else-at-row : goal.returns-else-at-row
returns-else-at-row c = topped_end c.loop-a.invariant (inr c.if-at-row.false)

pub returns-after-loop-a : goal.returns-after-loop-a
returns-after-loop-a c = topped_end c.loop-a.invariant (inl c.loop-a-test.false)
