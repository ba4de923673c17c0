use native.Mathlib.Omega.{arith}
use Rattle.pages.proofs.Read.{ready}
use Rattle.register.proofs.Clearing.{clear_goes_on}
use Rattle.register.proofs.clear_pages.Goals as goal

pub store_at-requires : goal.store_at-requires
store_at-requires c =
    let l = c.loop-a in
    let r = ready _ _ c.blank-blank.ensures (omega arith) in
    (omega (arith, l.invariant.low), omega (arith, l.invariant.long), r.0, r.1)

pub loop-a-preserved : goal.loop-a-preserved
loop-a-preserved c = clear_goes_on c.loop-a.invariant c.loop-a-test.true _ c.blank-blank.ensures _ c.store_at.ensures
