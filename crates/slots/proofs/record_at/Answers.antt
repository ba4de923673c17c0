-- `slots::record_at` meets its contract: the part that is lent is the page's.
use mathlib.Core.Path.{◌≡◌}
use Rattle.pages.specs.Page.{vacant}
use Rattle.pages.proofs.Areas.{lent_part}
use Rattle.slots.proofs.record_at.Goals as goal

pub returns : goal.returns
returns g c =
    let e = c.default.ensures in
    let none : c.default.result ≡ vacant = λ i. record { key = e.0 i; value = e.1.0 i; run = e.1.1 i } in
    rw (lent_part c.args.area.now c.args.a, none) at c.record_or.ensures
