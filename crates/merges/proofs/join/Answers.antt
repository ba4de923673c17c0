-- `merges::join` meets its contract: the row decides, and with room both are laid anew.
use mathlib.Core.Path.{ap}
use native.Mathlib.Omega.{arith}
use lib.ListN.{length}
use Rattle.layouts.specs.Layout.{in_use}
use Rattle.placing.proofs.Rows.{counts-length}
use Rattle.pages.specs.Page.{key, home_for}
use Rattle.state.specs.State.{homes}
use Rattle.state.proofs.Ranges.{ranged}
use Rattle.sites.specs.Held.{held_in}
use Rattle.sites.proofs.Known.{known}
use Rattle.two_sets.specs.Union.{union}
use Rattle.merges.proofs.Joining.{join_full, join_fits, join_laid}
use Rattle.merges.proofs.join.Goals as goal

pub has_room-fits-requires : goal.has_room-fits-requires
has_room-fits-requires c =
    let a = c.args in
    omega (
      arith,
      (ranged in_use a.state c.requires.open_image.0.0).cap_high,
      ap length c.requires.row_value,
      counts-length (home_for (homes a.state)) (union key (held_in in_use a.state a.area.now) (held_in in_use a.second a.other.now)) a.state.cap 0,
    )

pub returns-then-is_full : goal.returns-then-is_full
returns-then-is_full c =
    let a = c.args in
    let q = c.requires.open_image in
    let mine = known a.state a.area.now (λ i l. omega (arith, c.slice_known-1.given i)) q.0 in
    let theirs = known a.second a.other.now (λ i l. omega (arith, c.shared_slice_known-1.given i)) q.1 in
    join_full a.state a.area.now a.second a.other.now mine theirs q.2 _ c.requires.row_value _ c.has_room-fits.ensures _ c.if-is_full.true

pub lay_both-r-requires : goal.lay_both-r-requires
lay_both-r-requires c =
    let a = c.args in
    let q = c.requires.open_image in
    let mine = known a.state a.area.now (λ i l. omega (arith, c.slice_known-1.given i)) q.0 in
    let theirs = known a.second a.other.now (λ i l. omega (arith, c.shared_slice_known-1.given i)) q.1 in
    let all = join_fits a.state a.area.now a.second a.other.now mine theirs q.2 _ c.requires.row_value _ c.has_room-fits.ensures 0 c.if-is_full.false _ _ c.site_of-here.ensures c.site_of-there.ensures in
    record { walkable = all.0; fact = all.1 }

pub returns : goal.returns
returns c =
    let a = c.args in
    let q = c.requires.open_image in
    let mine = known a.state a.area.now (λ i l. omega (arith, c.slice_known-1.given i)) q.0 in
    let theirs = known a.second a.other.now (λ i l. omega (arith, c.shared_slice_known-1.given i)) q.1 in
    join_laid a.state a.area.now a.second a.other.now mine theirs q.2 _ c.requires.row_value _ c.has_room-fits.ensures _ c.if-is_full.false
    _ _ c.site_of-here.ensures c.site_of-there.ensures _ _ c.lay_both-r.ensures _ c.holding.ensures
