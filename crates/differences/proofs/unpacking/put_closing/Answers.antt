-- `differences::unpacking::put_closing` meets its contract: five numbers are the closing record.
use Rattle.differences.proofs.InPlace.{closing_put}
use Rattle.differences.proofs.unpacking.put_closing.Goals as goal

pub returns : goal.returns
returns c =
    let a = c.args in
    closing_put a.room.now _ _ _ _ _ a.at a.first a.second a.both c.requires c.put.ensures c.put-2.ensures c.put-3.ensures c.put-4.ensures c.put-5.ensures
