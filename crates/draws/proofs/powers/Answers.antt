-- `draws::powers` meets its contract: it is the table of its rule, as is computed.
use Rattle.draws.specs.Draws.{draw}
use Rattle.draws.specs.Steps.Powers.{power}
use Rattle.draws.proofs.Table.{at}
use Rattle.draws.proofs.powers.Goals as goal

pub returns : goal.returns
unfolding draw
returns c = at power 51
