-- `slots::push` meets its contract: the place behind the records that stand before it is the record's.
use mathlib.Core.Path.{◌≡◌, sym}
use native.Mathlib.Omega.{arith}
use Rattle.homes.specs.Homes.{home_in}
use Rattle.placing.specs.Lay.{ranked, ins}
use Rattle.pages.specs.Page.{rank, records_in}
use Rattle.pages.specs.Steps.Slots.{opened}
use Rattle.pages.proofs.Read.{length_held}
use Rattle.pages.proofs.Places.{ins-opened, ahead-le}
use Rattle.slots.proofs.push.Goals as goal

pub insert-requires : goal.insert-requires
insert-requires g c =
    let f = g.L.Layout.layout in
    let l = c.args.part.now in
    let low = ahead-le (rank (home_in c.args.shape)) (ranked c.home.result c.args.x.key) (records_in f l) in
    (c.requires, omega (arith, c.place_ahead-place.ensures, low, length_held f l))

pub returns : goal.returns
returns g c =
    let h = home_in c.args.shape in
    let x = c.args.x in
    let rs = records_in g.L.Layout.layout c.args.part.now in
    let place = rw c.home.ensures.value at c.place_ahead-place.ensures in
    let is : opened c.place_ahead-place.result x rs ≡ ins (rank h) x rs = rw place (sym (ins-opened (rank h) x rs)) in
    let e = c.insert.ensures in
    record { value = rw is at e.value; fact = λ a w. rw is at (e.fact a w) }
