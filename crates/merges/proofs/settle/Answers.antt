-- `merges::settle` meets its contract: both are counted, and where no key clashes they fill the row.
use mathlib.Core.Path.{◌≡◌, sym, ap, ◌∙◌}
use native.Mathlib.Omega.{arith}
use lib.ListN.{length}
use Rattle.sites.specs.declared.Site.{Site}
use Rattle.sites.proofs.Known.{known}
use Rattle.unions.specs.Steps.Both.{clash_by}
use Rattle.merges.proofs.Joining.{none_left, clash_told, walkable, row_told}
use Rattle.merges.proofs.Ways.{settle_clash, settle_joins}
use Rattle.merges.proofs.settle.Goals as goal

pub tally-clash-requires : goal.tally-clash-requires
tally-clash-requires c =
    let a = c.args in
    let q = c.requires in
    let mine = known a.state a.area.now (λ i l. omega (arith, c.slice_known-1.given i)) q.0 in
    let theirs = known a.second a.other.now (λ i l. omega (arith, c.shared_slice_known-1.given i)) q.1 in
    let w = walkable a.state a.area.now a.second a.other.now mine theirs _ _ c.site_of-here.ensures c.site_of-there.ensures in
    let pages : c.site_of-here.result.cap ≡ a.state.cap = ap (λ (x : Site). x.cap) c.site_of-here.ensures in
    (w.0, w.1, rw pages q.3)

pub returns-in-Some : goal.returns-in-Some
returns-in-Some c =
    let a = c.args in
    let q = c.requires in
    let mine = known a.state a.area.now (λ i l. omega (arith, c.slice_known-1.given i)) q.0 in
    let theirs = known a.second a.other.now (λ i l. omega (arith, c.shared_slice_known-1.given i)) q.1 in
    let told = clash_told a.state a.area.now a.second a.other.now mine theirs _ _ c.site_of-here.ensures c.site_of-there.ensures c.tally-clash.result c.tally-clash.ensures.result_value in
    settle_clash a.state a.area.now a.row.now a.second a.other.now _ (sym (ap clash_by c.in-Some.is) ∙ told)

pub join-requires : goal.join-requires
join-requires c =
    let a = c.args in
    let q = c.requires in
    let mine = known a.state a.area.now (λ i l. omega (arith, c.slice_known-1.given i)) q.0 in
    let theirs = known a.second a.other.now (λ i l. omega (arith, c.shared_slice_known-1.given i)) q.1 in
    let told = clash_told a.state a.area.now a.second a.other.now mine theirs _ _ c.site_of-here.ensures c.site_of-there.ensures c.tally-clash.result c.tally-clash.ensures.result_value in
    let free = sym told ∙ none_left c.tally-clash.result c.in_default.not-Some in
    record {
      open_image = (q.0, q.1, free);
      row_value = c.fill_row.ensures ∙ row_told a.state a.area.now a.second a.other.now mine theirs free _ _ c.site_of-here.ensures c.site_of-there.ensures _ c.tally-clash.ensures.row_after;
    }

pub returns : goal.returns
returns c =
    let a = c.args in
    let q = c.requires in
    let mine = known a.state a.area.now (λ i l. omega (arith, c.slice_known-1.given i)) q.0 in
    let theirs = known a.second a.other.now (λ i l. omega (arith, c.shared_slice_known-1.given i)) q.1 in
    let told = clash_told a.state a.area.now a.second a.other.now mine theirs _ _ c.site_of-here.ensures c.site_of-there.ensures c.tally-clash.result c.tally-clash.ensures.result_value in
    let free = sym told ∙ none_left c.tally-clash.result c.in_default.not-Some in
    let filled = c.fill_row.ensures ∙ row_told a.state a.area.now a.second a.other.now mine theirs free _ _ c.site_of-here.ensures c.site_of-there.ensures _ c.tally-clash.ensures.row_after in
    settle_joins a.state a.area.now a.row.now a.second a.other.now (sym free) _ filled _ _ c.join.ensures
