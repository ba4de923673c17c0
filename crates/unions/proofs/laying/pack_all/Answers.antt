-- `unions::laying::pack_all` meets its contract: the pages are packed one below the other.
use mathlib.Core.Path.{◌≡◌}
use Prim.Native.Nat.{◌-◌}
use native.Mathlib.Omega.{arith}
use lib.ListN.{length}
use Rattle.pages.proofs.Memory.{page_records}
use Rattle.rebuild.specs.Steps.Rebuild.{packed}
use Rattle.rebuild.proofs.Tags.{page_few}
use Rattle.rebuild.proofs.Packing.{parts_held, above_start, above_length, turn_room, above_turn, packed_end}
use Rattle.unions.proofs.laying.pack_all.Goals as goal

pub loop-a-init : goal.loop-a-init
loop-a-init c = rw c.cap-a.ensures (above_start _ _ _ _ _)

pub parse_at-page-requires : goal.parse_at-page-requires
parse_at-page-requires c =
    let w = c.requires.0 in
    (omega (arith, c.loop-a.invariant.within, w.few), omega (arith, c.loop-a.invariant.within, w.long))

pub homes_under-homes-requires : goal.homes_under-homes-requires
homes_under-homes-requires c =
    let w = c.requires.0 in
    let i = c.loop-a.invariant.within in
    let t = c.loop-a-test.true in
    (omega (arith, i, w.few), omega (arith, t, i, w.long), c.parse_at-page.ensures, rw c.shape-own.ensures (w.known (c.loop-a.a - 1) (omega (arith, t, i))))

pub pack_page-at-requires : goal.pack_page-at-requires
unfolding packed
pack_page-at-requires c =
    let a = c.args in
    let i = c.loop-a.invariant in
    let long : length c.loop-a.area ≡ length a.area.now = above_length _ _ _ a.area.now _ _ _ c.loop-a.area c.requires.1 i in (
      page_few _ _ c.parse_at-page.ensures,
      omega (arith, i.within, c.requires.0.few),
      turn_room _ _ _ a.area.now _ _ _ c.loop-a.area c.requires.1 i c.loop-a-test.true _ (page_records _ _ c.parse_at-page.ensures) (rw (parts_held a.other.now a.site.cap 0) c.requires.2),
      omega (arith, long, i.begins, c.requires.1),
      c.homes_under-homes.ensures,
    )

pub loop-a-preserved : goal.loop-a-preserved
unfolding packed
loop-a-preserved c =
    let a = c.args in
    let i = c.loop-a.invariant in
    let page = page_records _ _ c.parse_at-page.ensures in
    let room = turn_room _ _ _ a.area.now _ _ _ c.loop-a.area c.requires.1 i c.loop-a-test.true _ page (rw (parts_held a.other.now a.site.cap 0) c.requires.2) in
    above_turn _ _ _ a.area.now _ c.loop-a.a c.loop-a.at c.loop-a.area c.requires.1 i c.loop-a-test.true c.parse_at-page.result page _ _ room c.pack_page-at.ensures.value c.pack_page-at.ensures.area_after

pub returns : goal.returns
returns c =
    let e = packed_end _ _ c.args.other.now c.args.area.now _ _ _ c.loop-a.area c.loop-a.invariant c.loop-a-test.false in
    record { value = e.0; area_after = e.1 }
