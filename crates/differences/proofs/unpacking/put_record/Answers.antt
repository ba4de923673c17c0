-- `differences::unpacking::put_record` meets its contract: the entry itself, or one with the second
-- value behind it.
use mathlib.Core.Path.{◌≡◌, sym, ap, ◌∙◌}
use Rattle.lookups.specs.Steps.Told.{held_by}
use Rattle.lookups.proofs.Looking.{by_told}
use Rattle.pages.specs.Page.{key}
use Rattle.sites.specs.Steps.Sites.{look}
use Rattle.differences.specs.Steps.Unpacked.{or_vacant}
use Rattle.differences.proofs.InPlace.{short_put, long_put}
use Rattle.differences.proofs.unpacking.put_record.Goals as goal

pub returns-then-e-unlike-clause-row_after : goal.returns-then-e-unlike-clause-row_after
returns-then-e-unlike-clause-row_after c =
    let a = c.args in
    (short_put (look a.site a.other.now) a.e a.row.now a.at c.requires.1 _ (λ q. c.if-e-unlike.true (q ∙ sym c.from-unlike.ensures)) c.put_entry.ensures).1

pub returns : goal.returns
returns c =
    let a = c.args in
    let l = look a.site a.other.now in
    -- the second record is what the other area tells of the key
    let second : c.record_of-second.result ≡ or_vacant (l (key a.e.held)) = c.record_of-second.ensures ∙ ap (λ x. or_vacant (held_by x)) c.seek-sought.ensures ∙ ap or_vacant (by_told (l (key a.e.held))) in
    let put = long_put l a.e a.row.now a.at c.requires.1 (c.if-e-unlike.false ∙ c.from-unlike.ensures) _ _ _ second (rw c.from-unlike.ensures at c.put_entry-2.ensures) c.put_payload.ensures in
    record { value = put.0; row_after = put.1 }
