-- `differences::unpacking::put_payload` meets its contract.
use Rattle.differences.proofs.InPlace.{payload_put}
use Rattle.differences.proofs.unpacking.put_payload.Goals as goal

pub returns : goal.returns
returns c = payload_put c.args.row.now _ c.args.at c.args.x c.put.ensures
