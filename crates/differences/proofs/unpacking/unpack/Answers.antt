-- `differences::unpacking::unpack` meets its contract: an entry is read before its record may cover it.
use Rattle.differences.proofs.InPlace.{next_fits, unpacking_turn, unpacking_end}
use Rattle.differences.proofs.unpacking.unpack.Goals as goal

pub put_record-to-requires : goal.put_record-to-requires
put_record-to-requires c = (c.requires.0, next_fits c.loop-from.invariant c.loop-from-test.true _ c.get_entry-e.ensures)

pub loop-from-preserved : goal.loop-from-preserved
loop-from-preserved c = unpacking_turn c.loop-from.invariant c.loop-from-test.true _ c.get_entry-e.ensures _ _ c.put_record-to.ensures.value c.put_record-to.ensures.row_after

pub returns : goal.returns
returns c = unpacking_end c.loop-from.invariant c.loop-from-test.false
