-- `unions::laying::pack_lacking` meets its contract: what is lacking of the pages is packed, one below the other.
use mathlib.Core.Path.{◌≡◌, ap, ◌∙◌}
use mathlib.Core.List.{List}
use Prim.Native.Nat.{ℕ, ◌+◌, ◌-◌, ◌*◌, ◌≤◌, ◌<◌}
use native.Mathlib.Omega.{arith}
use Rattle.layouts.specs.Layout.{in_use}
use Rattle.homes.specs.Homes.{home_in}
use Rattle.pages.specs.Page.{key, records_in}
use Rattle.pages.specs.Steps.Slots.{records_of}
use Rattle.pages.proofs.Memory.{page_records}
use Rattle.entries.specs.Steps.Entries.{row_bytes}
use Rattle.rebuild.proofs.Tags.{page_few}
use Rattle.rebuild.proofs.Packing.{above_start, above_turn, above_end, none_behind}
use Rattle.sites.specs.Steps.Sites.{look}
use Rattle.two_sets.specs.Steps.Lowest.{lacking}
use Rattle.unions.specs.Steps.Both.{lacking_entries}
use Rattle.unions.proofs.Together.{partly, partly_entries, still_long, still_stands, still_known, still_room}
use Rattle.unions.proofs.laying.pack_lacking.Goals as goal

pub overflow_mul-at : goal.overflow_mul-at
overflow_mul-at c = omega (arith, c.cap-cap.ensures, c.requires.0.few)

pub loop-a-init : goal.loop-a-init
loop-a-init c = rw c.cap-cap.ensures (above_start _ _ _ _ _)

pub parse_at-page-requires : goal.parse_at-page-requires
parse_at-page-requires c =
    let w = c.requires.0 in
    let i = c.loop-a.invariant in
    (omega (arith, i.within, w.few), omega (arith, i.within, still_long c.args.here c.args.area.now (look c.args.there c.args.other.now) w _ _ _ i))

pub homes_under-homes-requires : goal.homes_under-homes-requires
homes_under-homes-requires c =
    let w = c.requires.0 in
    let i = c.loop-a.invariant in
    let t = c.loop-a-test.true in
    let there = look c.args.there c.args.other.now in
    (omega (arith, i.within, w.few), omega (arith, t, i.within, still_long c.args.here c.args.area.now there w _ _ _ i), c.parse_at-page.ensures, rw c.shape-mine.ensures (still_known c.args.here c.args.area.now there w _ _ _ i t))

pub homes_under-sought-requires : goal.homes_under-sought-requires
homes_under-sought-requires c =
    let w = c.requires.0 in
    let i = c.loop-a.invariant in
    let t = c.loop-a-test.true in
    let there = look c.args.there c.args.other.now in
    (omega (arith, i.within, w.few), omega (arith, t, i.within, still_long c.args.here c.args.area.now there w _ _ _ i), c.parse_at-page.ensures, rw c.shape-mine.ensures (still_known c.args.here c.args.area.now there w _ _ _ i t))

pub sift-sifted-requires : goal.sift-sifted-requires
sift-sifted-requires c = (page_few _ _ c.parse_at-page.ensures, c.requires.1, rw c.shape-theirs.ensures at c.homes_under-sought.ensures)

pub pack_page-at-requires : goal.pack_page-at-requires
pack_page-at-requires c =
    let w = c.requires.0 in
    let i = c.loop-a.invariant in
    let f = c.sift-sifted.ensures in (
      f.few,
      omega (arith, i.within, w.few),
      still_room c.args.here c.args.area.now (look c.args.there c.args.other.now) w _ _ _ i c.loop-a-test.true _ f.few,
      omega (arith, still_long c.args.here c.args.area.now (look c.args.there c.args.other.now) w _ _ _ i, i.begins),
      rw c.shape-mine.ensures (f.homes (home_in c.args.here.shape) (rw c.shape-mine.ensures at c.homes_under-homes.ensures)),
    )

pub loop-a-preserved : goal.loop-a-preserved
loop-a-preserved c =
    let a = c.args in
    let w = c.requires.0 in
    let i = c.loop-a.invariant in
    let t = c.loop-a-test.true in
    let f = c.sift-sifted.ensures in
    let there = look a.there a.other.now in
    -- what is kept is what is lacking of the page that stood there
    let kept : records_of c.sift-sifted.result.page ≡ partly there a.area.now (c.loop-a.a - 1) =
    f.kept ∙ ap (lacking key there) (page_records _ _ c.parse_at-page.ensures) ∙ ap (λ (x : List ℕ). lacking key there (records_in in_use x)) (still_stands a.here a.area.now there w _ _ _ i (c.loop-a.a - 1) (omega (arith, t))) in
    above_turn _ _ _ a.area.now _ c.loop-a.a c.loop-a.at c.loop-a.area (omega (arith, w.long)) i t c.sift-sifted.result.page kept _ _ (still_room a.here a.area.now there w _ _ _ i t _ f.few)
    c.pack_page-at.ensures.value (rw c.shape-mine.ensures at c.pack_page-at.ensures.area_after)

pub returns : goal.returns
returns c =
    let a = c.args in
    let es = lacking_entries a.here a.area.now a.there a.other.now in
    let e = rw (partly_entries a.here a.area.now a.there a.other.now) at (above_end _ _ _ a.area.now _ _ _ c.loop-a.area c.loop-a.invariant c.loop-a-test.false) in
    record { value = e.0; area_after = e.1 ∙ rw (none_behind (row_bytes es) a.area.now (256 * a.here.cap) c.requires.0.long) }
