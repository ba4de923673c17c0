-- `pages::put_head` meets its contract: its fields, stored one after the other, are one write of
-- the head.
use native.Mathlib.Omega.{arith}
use Rattle.numbers.proofs.Records.{puts-written}
use Rattle.pages.specs.Page.{head}
use Rattle.pages.proofs.put_head.Goals as goal

pub returns : goal.returns
returns g c =
    cc (g.L.Layout.kind_is, puts-written (head g.L.Layout.layout c.args.address c.args.count) c.args.part.now 0 (omega arith))
