use mathlib.Core.Path.{◌≡◌, ◌∙◌}
use Prim.Native.Nat.{◌<◌}
use native.Mathlib.Omega.{arith}
use Rattle.leaving.proofs.Room.{entered_first}
use Rattle.leaving.proofs.Leaving.{not_far, in_area, no_more, leaving_gives, leaving_keeps}
use Rattle.leaving.proofs.Left.{leaving_start, left_bytes, left_room, left_row}
use Rattle.leaving.proofs.Grown.{begun}
use Rattle.leaving.proofs.Stride.{next_first, does_give, gives_none, next_on, next_off}
use Rattle.leaving.proofs.leave.Goals as goal
use Rattle.leaving.proofs.leave.Goals.{then-a-next+then-next-old, else-a-next, else-a-next-via-then-a-next+else-next-old, else-a-next-via-else-a-next}

pub loop-a-init : goal.loop-a-init
loop-a-init c =
    let r = c.requires.cap_bound in
    let f = c.requires.fact in
    let b = begun c.args.shape _ c.giving-giving.ensures.value c.pages.ensures.ready r.2 _ _ _ r.3 f.0 f.1 f.2 in
    rw c.pages.ensures.value (next_first c.giving-giving.ensures.gives _ c.first-next.ensures.value c.first-next.ensures.within, b, leaving_start b _)

pub leave_home-end-requires : goal.leave_home-end-requires
leave_home-end-requires c =
    let i = c.loop-a.invariant in
    let r = c.requires.cap_bound in
    (omega (arith, r.0, r.1), omega (arith, r.1, in_area i.2 c.loop-a-test.true i.1.high), c.giving-giving.ensures.gives, omega (arith, r.0, not_far i.2))

pub overflow_cast-row : goal.overflow_cast-row
overflow_cast-row c =
    let i = c.loop-a.invariant in
    omega (
      arith,
      no_more i.2 c.loop-a-test.true i.1.high i.1.grows (does_give c.giving-giving.ensures.gives i.0 c.if-a-next.true c.if-next-old.true) _ _ _ i.1.there c.leave_home-end.ensures.value c.leave_home-end.ensures.room_after,
      in_area i.2 c.loop-a-test.true i.1.high,
      c.requires.cap_bound.0,
    )

pub overflow_sub-row-then-next-old : goal.overflow_sub-row-then-next-old
overflow_sub-row-then-next-old c =
    let i = c.loop-a.invariant in
    no_more i.2 c.loop-a-test.true i.1.high i.1.grows (does_give c.giving-giving.ensures.gives i.0 c.if-a-next.true c.if-next-old.true) _ _ _ i.1.there c.leave_home-end.ensures.value c.leave_home-end.ensures.room_after

pub overflow_add-over : goal.overflow_add-over
overflow_add-over c = let i = c.loop-a.invariant in omega (arith, in_area i.2 c.loop-a-test.true i.1.high, c.requires.cap_bound.0)

pub loop-a-preserved : goal.loop-a-preserved
loop-a-preserved c =
    let l = c.loop-a in
    let i = l.invariant in
    let gives = c.giving-giving.ensures.gives in
    elim c.if-a-next.branch [
      | then-a-next+then-next-old w ↦ (
        next_on gives i.0 w.if-a-next.true w.if-next-old.true _ w.next-is,
        i.1,
        leaving_gives i.2 c.loop-a-test.true i.1.high i.1.grows (does_give gives i.0 w.if-a-next.true w.if-next-old.true) _ _ _ i.1.there w.leave_home-end.ensures.value w.leave_home-end.ensures.room_after
            _ _ _ _ c.saturating_sub-over.ensures w.at-is w.row-is w.room-is,
      )
      | else-a-next w ↦
          let off : l.a ≡ l.next → l.next < c.giving-giving.result.f → ⊥ =
          elim w.else-a-next.branch [ else-a-next-via-then-a-next+else-next-old v ↦ λ q k. omega (arith, v.if-next-old.false) | else-a-next-via-else-a-next v ↦ λ q k. v.if-a-next.false q ]
          in (
            next_off gives i.0 off _ w.next-is,
            i.1,
            leaving_keeps i.2 c.loop-a-test.true i.1.high i.1.grows (gives_none gives i.0 off) _ _ _ _ c.saturating_sub-over.ensures w.at-is w.row-is w.room-is,
          )
    ]

pub overflow_cast-row-2 : goal.overflow_cast-row-2
overflow_cast-row-2 c = omega (arith, not_far c.loop-a.invariant.2, c.requires.cap_bound.0)

pub returns : goal.returns
returns c =
    let i = c.loop-a.invariant in
    record { value = rw c.pages.ensures.value at (left_bytes i.1 i.2 c.loop-a-test.false); row_after = left_row i.1 i.2 c.loop-a-test.false; room_after = rw c.pages.ensures.value at (left_room i.1 i.2 c.loop-a-test.false) ∙ entered_first _ _ }
