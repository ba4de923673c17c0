-- `records::reply` meets its contract: its fields, stored one after the other, are all of the
-- reply's bytes.
use mathlib.Core.Path.{◌≡◌, ap, ◌∙◌}
use Rattle.layouts.specs.Layout.{in_use}
use Rattle.state.specs.State.{is_due}
use Rattle.records.specs.Records.{bit}
use Rattle.records.proofs.Replying.{byte_bit, reply_stored}
use Rattle.records.proofs.reply.Goals as goal

pub returns : goal.returns
returns c =
    let d : c.from-due.result ≡ bit (is_due in_use c.args.state) = c.from-due.ensures ∙ byte_bit c.due.result ∙ ap bit c.due.ensures in
    reply_stored c.args.told c.args.state _ c.requires d c.put.ensures c.put-2.ensures c.put-3.ensures c.put-4.ensures c.put-5.ensures c.put-6.ensures c.put-7.ensures c.put-8.ensures c.put-9.ensures
