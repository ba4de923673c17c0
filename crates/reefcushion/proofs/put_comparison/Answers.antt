-- `reefcushion::put_comparison` meets its contract: seven numbers fill the bytes.
use Rattle.reefcushion.proofs.Telling.{comparison_stored}
use Rattle.reefcushion.proofs.put_comparison.Goals as goal

pub returns : goal.returns
returns c =
    comparison_stored c.args.n c.args.told.now _ _ _ _ _ _ _ c.requires
    c.put.ensures c.put-2.ensures c.put-3.ensures c.put-4.ensures c.put-5.ensures c.put-6.ensures c.put-7.ensures
