use Rattle.rebuild.proofs.Laying.{unpacking_start, unpacking_turn, storable, moved_fits, unpacked, unpacked_moved}
use Rattle.rebuild.proofs.unpack.Goals as goal

pub loop-a-init : goal.loop-a-init
loop-a-init c = unpacking_start _ _ _ c.requires.cap_bound.1 c.requires.cap_bound.2 c.requires.cap_bound.3 c.requires.fact.0 c.requires.fact.1

pub store_at-requires : goal.store_at-requires
store_at-requires c =
    storable c.loop-a.invariant c.loop-a-test.true _ c.take_page-t.ensures c.requires.cap_bound.0

pub overflow_add-moved : goal.overflow_add-moved
overflow_add-moved c =
    let inv = c.loop-a.invariant in
    let more = c.loop-a-test.true in
    record { fits = moved_fits inv more _ c.take_page-t.ensures c.requires.cap_bound.0 }

pub loop-a-preserved : goal.loop-a-preserved
loop-a-preserved c =
    let inv = c.loop-a.invariant in
    let more = c.loop-a-test.true in
    unpacking_turn inv more _ c.take_page-t.ensures _ c.store_at.ensures

pub returns : goal.returns
returns c =
    (unpacked_moved c.loop-a.invariant c.loop-a-test.false, unpacked c.loop-a.invariant c.loop-a-test.false)
