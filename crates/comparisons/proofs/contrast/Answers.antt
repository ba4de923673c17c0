-- `comparisons::contrast` meets its contract: the counts tell how long the list is, and the room takes it
-- or doesn't.
use mathlib.Core.Path.{refl, sym, ◌∙◌}
use native.Mathlib.Omega.{arith}
use lib.Seq.{length-take-le}
use Rattle.layouts.specs.Layout.{in_use}
use Rattle.pages.specs.Page.{key}
use Rattle.sites.specs.Held.{same, held_in}
use Rattle.sites.proofs.Known.{Known, known}
use Rattle.two_sets.specs.Differences.{differences}
use Rattle.comparisons.specs.Compare.{contrasted}
use Rattle.comparisons.proofs.Contrasting.{top_of, room_short, room-filled, walks_both, sorted_written, sortable_written}
use Rattle.comparisons.proofs.contrast.Goals as goal
use Rattle.comparisons.proofs.contrast.Lts as lts
use Rattle.comparisons.proofs.contrast.Reads as reads
use Rattle.comparisons.proofs.contrast.Tie as tie

-- what is known of the two files
first_known : (c : lts.After-count_all tie.the-claims reads.Pre reads.Post tie.handed_clauses) → Known c.args.first c.args.area.now
first_known c = known c.args.first c.args.area.now (λ i l. omega (arith, c.shared_slice_known-1.given i)) c.requires.0

second_known : (c : lts.After-count_all tie.the-claims reads.Pre reads.Post tie.handed_clauses) → Known c.args.second c.args.other.now
second_known c = known c.args.second c.args.other.now (λ i l. omega (arith, c.shared_slice_known-2-1.given i)) c.requires.1

pub returns-then-room-top : goal.returns-then-room-top
unfolding contrasted
returns-then-room-top c =
    let a = c.args in
    room_short (differences key same (held_in in_use a.first a.area.now) (held_in in_use a.second a.other.now)) c.count_all-n.result c.count_all-n.ensures.value _ a.room.now c.if-room-top.true

pub site_of-there-requires : goal.site_of-there-requires
site_of-there-requires c = c.requires.1.0

pub slice_bounds-write_list-end-2 : goal.slice_bounds-write_list-end-2
slice_bounds-write_list-end-2 c = sym (length-take-le (top_of c.count_all-n.result) _ (omega (arith, c.if-room-top.false)))

pub write_list-requires : goal.write_list-requires
write_list-requires c =
    let a = c.args in
    let n = c.before.before.before.before.before.before.before.before.before in
    let here = c.site_of-here.ensures in
    let there = c.site_of-there.ensures in
    let w = walks_both a.first a.area.now a.second a.other.now (first_known n) (second_known n) _ _ here there in
    record {
      walkable = (w.0, w.1, omega (arith, c.count_all-n.ensures.few));
      sortable = sortable_written a.first a.area.now a.second a.other.now (first_known n) (second_known n) _ _ here there c.count_all-n.result c.count_all-n.ensures.value a.room.now (omega (arith, c.if-room-top.false));
    }

pub returns : goal.returns
unfolding contrasted
returns c =
    let n = c.before.before.before.before.before.before.before.before.before.before.before.before.before.before.before.before in
    let a = c.args in
    let records = c.write_list.ensures ∙ sorted_written a.first a.area.now a.second a.other.now (first_known n) (second_known n) _ _ c.site_of-here.ensures c.site_of-there.ensures in
    room-filled (differences key same (held_in in_use a.first a.area.now) (held_in in_use a.second a.other.now)) c.count_all-n.result c.count_all-n.ensures.value _ a.room.now _ records _ refl c.if-room-top.false _ c.put_closing.ensures
