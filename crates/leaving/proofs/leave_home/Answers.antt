use mathlib.Core.Path.{◌∙◌}
use native.Mathlib.Omega.{arith}
use Rattle.leaving.proofs.Going.{not_far, putting_stays, put_seat, lost_seat, putting_goes, putting_end, putting_room}
use Rattle.leaving.proofs.leave_home.Goals as goal
use Rattle.leaving.proofs.leave_home.Goals.{else-at-room, else-takes, then-at-room, then-takes}

pub overflow_add-at : goal.overflow_add-at
overflow_add-at c = omega (arith, not_far c.loop-j.invariant)

pub overflow_add-at-then-takes : goal.overflow_add-at-then-takes
overflow_add-at-then-takes c = omega (arith, not_far c.loop-j.invariant)

pub loop-j-preserved : goal.loop-j-preserved
loop-j-preserved c =
    let l = c.loop-j in
    elim c.if-takes.branch [
      | then-takes g ↦ putting_goes l.invariant c.loop-j-test.true _ c.record_at-x.ensures _ c.takes.ensures _ _ g.if-takes.true
          (elim g.if-at-room.branch [ then-at-room p ↦ put_seat l.invariant c.loop-j-test.true _ c.record_at-x.ensures _ c.takes.ensures _ p.if-at-room.true (g.room-is ∙ p.room-is ∙ p.put_entry.ensures) | else-at-room p ↦ lost_seat l.invariant c.loop-j-test.true _ c.record_at-x.ensures _ c.takes.ensures _ p.if-at-room.false (g.room-is ∙ p.room-is) ])
          g.at-is
      | else-takes g ↦ putting_stays l.invariant c.loop-j-test.true _ c.record_at-x.ensures _ c.takes.ensures _ _ g.if-takes.false g.room-is g.at-is
    ]

pub returns : goal.returns
returns c = record { value = putting_end c.loop-j.invariant c.loop-j-test.false; room_after = putting_room c.loop-j.invariant c.loop-j-test.false }
