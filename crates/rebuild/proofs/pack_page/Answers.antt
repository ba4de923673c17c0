use mathlib.Core.Path.{sym}
use native.Mathlib.Omega.{arith}
use Rattle.numbers.proofs.Laws.{written-nil}
use Rattle.homes.specs.Homes.{home_in}
use Rattle.pages.specs.Steps.Slots.{records_of}
use Rattle.rebuild.proofs.Tags.{home_small}
use Rattle.rebuild.proofs.Packing.{page_turn, page_done}
use Rattle.rebuild.proofs.pack_page.Goals as goal

pub loop-i-init : goal.loop-i-init
loop-i-init c h e = sym (written-nil _ _)

pub overflow_cast-e : goal.overflow_cast-e
overflow_cast-e c = record { fits = home_small c.args.shape _ _ c.pages.ensures.ready (c.requires.4 c.loop-i.i (omega arith)) }

pub loop-i-preserved : goal.loop-i-preserved
loop-i-preserved c h e =
    let l = c.loop-i in
    page_turn c.args.area.now l.area _ h c.args.a _ l.i _ _ _ _ (omega arith) (l.invariant h e) (e l.i (omega arith)) c.put_entry.ensures

pub returns : goal.returns
unfolding records_of
returns c =
    let l = c.loop-i in
    let h = home_in c.args.shape in
    record { value = omega arith; area_after = page_done c.args.area.now l.area h c.args.a _ l.i _ _ _ _ _ (omega arith) (omega arith) (l.invariant h c.requires.4) }
