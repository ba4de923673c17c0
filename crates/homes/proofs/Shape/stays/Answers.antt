-- `homes::Shape::stays` meets its contract.
use Rattle.homes.specs.Steps.Last.{stays_at}
use Rattle.homes.proofs.Shape.stays.Goals as goal

pub returns : goal.returns
unfolding stays_at
returns c = rw (← c.self.view_is, c.new_page-new.ensures)
