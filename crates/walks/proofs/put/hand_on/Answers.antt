-- `walks::hand_on` meets its contract: the front is the place of a record that stands before all.
use mathlib.Core.Path.{◌≡◌, sym, ◌∙◌}
use Rattle.homes.specs.Homes.{home_in}
use Rattle.placing.specs.Lay.{ins}
use Rattle.pages.specs.Page.{rank}
use Rattle.pages.specs.Steps.Slots.{opened}
use Rattle.pages.proofs.Places.{ins-opened}
use Rattle.walks.specs.Steps.Plans.{held}
use Rattle.walks.proofs.put.hand_on.Goals as goal

pub returns-then-front : goal.returns-then-front
returns-then-front c =
    let s = c.args in
    let h = home_in s.shape in
    let rs = held s.area.now s.a in
    let z = c.requires.a_value c.if-front.true in
    let is : opened 0 s.x rs ≡ ins (rank h) s.x rs = sym (ins-opened (rank h) s.x rs ∙ rw z) in
    rw is at c.insert_at.ensures
