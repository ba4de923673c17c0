use mathlib.Core.Path.{◌∙◌}
use Prim.Native.Nat.{◌<◌}
use native.Mathlib.Omega.{arith}
use borrow.Author.Rules.{rules}
use Rattle.layouts.specs.Layout.{slots_of}
use Rattle.pages.specs.Steps.Slots.{records_of}
use Rattle.pages.proofs.Held.{held}
use Rattle.pages.proofs.Write.{head_first, slot_turn, next_used, next_empty}
use Rattle.pages.proofs.store.Goals as goal
use Rattle.pages.proofs.store.Goals.{then-i-page, else-i-page}

pub loop-i-init : goal.loop-i-init
loop-i-init g c =
    (search rules, head_first g.L.Layout.layout _ _ _ _ _ _ _ (records_of c.args.page) c.requires.0 c.put_head.ensures (held c.args.page c.requires.2))

pub loop-i-preserved : goal.loop-i-preserved
loop-i-preserved g c =
    let l = c.loop-i in
    let p = c.args.page in
    let rs = records_of p in
    let f = g.L.Layout.layout in
    let h = held p c.requires.2 in
    let t : l.i < slots_of f = omega (arith, g.L.Layout.slots_is) in (
      search rules,
      slot_turn f l.part _ l.i _ rs t l.invariant.0 (rw c.slot_at.ensures at c.put.ensures)
          (elim c.if-i-page.branch [ then-i-page w ↦ next_used f _ _ _ _ _ _ h t _ w.if-i-page.true w.x-is | else-i-page w ↦ next_empty f _ _ _ _ _ _ h t _ w.if-i-page.false w.x-is ])
          ∙ l.invariant.1,
    )
