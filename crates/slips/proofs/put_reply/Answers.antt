-- `slips::put_reply` meets its contract: the answer's numbers, stored one after the other, are one
-- write of their bytes.
use native.Mathlib.Nat.{add_assoc}
use Rattle.numbers.proofs.Records.{puts-written}
use Rattle.slips.specs.Slips.{reply_fields}
use Rattle.slips.proofs.put_reply.Goals as goal

pub returns : goal.returns
returns c = cc (simp add_assoc at (puts-written (reply_fields c.args.told) c.args.bytes.now c.args.at c.requires))
