-- `unions::laying::lay_both` meets its contract: the records of both are packed, and laid anew.
use mathlib.Core.Path.{◌∙◌}
use Prim.Native.Nat.{◌≤◌}
use native.Mathlib.Omega.{arith}
use Rattle.numbers.specs.Little.{Bytes}
use Rattle.unions.specs.Steps.Both.{both_of}
use Rattle.unions.proofs.Together.{Standing, all_room, both_stand}
use Rattle.unions.proofs.laying.lay_both.Goals as goal
use Rattle.unions.proofs.laying.lay_both.Lts as lts
use Rattle.unions.proofs.laying.lay_both.Reads as reads
use Rattle.unions.proofs.laying.lay_both.Tie as tie

pub pack_all-base-requires : goal.pack_all-base-requires
pack_all-base-requires c =
    let a = c.args in
    let q = c.requires in
    let p = c.pack_lacking-top.ensures in
    let r = all_room a.here a.area.now a.there a.other.now q.walkable.0 q.walkable.1 (λ i l. omega (arith, c.slice_known-1.given i)) (λ i l. omega (arith, c.shared_slice_known-1.given i)) q.fact.0 q.fact.1 _ p.value _ p.area_after in
    rw c.shape.ensures (q.walkable.1, r.0, r.1)

-- what stands once both are packed
standing : (c : lts.After-pack_all tie.the-claims reads.Pre reads.Post tie.handed_clauses)
    → let a = c.args in
    Standing a.here (both_of a.here a.area.now a.there a.other.now) c.pack_all-base.result c.pack_all-base.new.area
standing c =
    let a = c.args in
    let q = c.requires in
    let p = c.pack_lacking-top.ensures in
    let all = rw c.shape.ensures at c.pack_all-base.ensures in
    both_stand a.here a.area.now a.there a.other.now q.walkable.0 q.walkable.1 (λ i l. omega (arith, c.slice_known-1.given i)) (λ i l. omega (arith, c.shared_slice_known-1.given i)) q.fact.0 q.fact.1 _ p.value _ p.area_after
    _ all.value _ all.area_after

pub overflow_mul-records : goal.overflow_mul-records
overflow_mul-records c = omega (arith, c.cap-cap.ensures, c.requires.walkable.0.few)

pub overflow_sub-records : goal.overflow_sub-records
overflow_sub-records c = rw c.cap-cap.ensures (standing c.before.before.before).low

pub lay_anew-requires : goal.lay_anew-requires
lay_anew-requires c =
    let w = standing c.before.before.before.before in
    rw c.cap-cap.ensures (record { cap_bound = (c.requires.walkable.0.few, w.long, w.low, w.whole); fact = (w.once, w.room) })

pub overflow_cast-result : goal.overflow_cast-result
overflow_cast-result c =
    let w = standing c.before.before.before.before.before.before.before in
    rw c.cap-cap.ensures (omega (arith, w.many, w.few, c.requires.walkable.0.few))

pub returns : goal.returns
returns c =
    let w = standing c.before.before.before.before.before.before.before in
    rw c.cap-cap.ensures (w.many, (rw c.cap-cap.ensures at c.lay_anew.ensures).1 ∙ w.laid)
