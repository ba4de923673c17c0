-- `slots::refill` meets its contract: without the record the page's bytes are well formed, so that
-- another is put into them.
use mathlib.Core.Path.{◌∙◌}
use native.Mathlib.Omega.{arith}
use borrow.Author.Rules.{rules}
use lib.ListN.{length}
use Rattle.homes.specs.Homes.{home_in}
use Rattle.placing.specs.Lay.{ranked}
use Rattle.pages.specs.Page.{rank, vacant, records_in}
use Rattle.pages.proofs.Read.{length_held}
use Rattle.pages.proofs.Places.{back_le}
use Rattle.slots.proofs.Moving.{page_shut}
use Rattle.slots.proofs.refill.Goals as goal

pub insert-requires : goal.insert-requires
insert-requires g c =
    let f = g.L.Layout.layout in
    let rs = records_in f c.take_out.new.part in
    let low = back_le (rank (home_in c.args.shape)) (ranked c.home.result c.args.x.key) vacant rs (length rs) in
    (search rules, omega (arith, c.place_back-place.ensures, low, length_held f c.take_out.new.part))

pub returns : goal.returns
returns g c a low w =
    let shut = page_shut g.L.Layout.layout a c.args.part.now _ c.args.at low c.requires (λ k h. omega (arith, c.slice_known-1.given k)) (c.take_out.ensures a w) in
    let place = rw (c.home.ensures.value, shut.0) at c.place_back-place.ensures in
    c.insert.ensures.fact a shut.1 ∙ rw (place, shut.0)
