use mathlib.Core.Path.{refl}
use mathlib.Core.Logic.{⊎_elim}
use native.Mathlib.Omega.{arith}
use borrow.Author.Rules.{rules}
use Rattle.register.specs.Files.{file_of}
use Rattle.pay_runs.proofs.Lookahead.{looks_anew, looks_kept, knows_first, home_here, knows_on}
use Rattle.pay_runs.proofs.Items.{goes_first, goes_on, goes_out}
use Rattle.pay_runs.proofs.put_each.Goals as goal

pub loop-i-init : goal.loop-i-init
loop-i-init c = (goes_first (file_of _ _) _ _ _ refl (omega arith) (search rules), knows_first _ _ _ _)

pub put_one-after-requires : goal.put_one-after-requires
put_one-after-requires c =
    let w = c.loop-i.invariant in
    let looked = ⊎_elim (λ v. looks_anew _ _ _ _ _ v.if-is_first.true _ v.look_ahead-ahead.ensures v.ahead-is) (λ v. looks_kept _ _ _ _ _ v.if-is_first.false v.ahead-is) c.if-is_first.branch-raw in
    (home_here w.1 w.0.within c.if-is_first.ahead looked c.loop-i-test.true, (search rules, search rules))

pub loop-i-preserved : goal.loop-i-preserved
loop-i-preserved c =
    let w = c.loop-i.invariant in (
      goes_on w.0 c.loop-i-test.true c.put_one-after.result _ _ c.put_one-after.ensures (search rules) (search rules),
      (
          let looked = ⊎_elim (λ v. looks_anew _ _ _ _ _ v.if-is_first.true _ v.look_ahead-ahead.ensures v.ahead-is) (λ v. looks_kept _ _ _ _ _ v.if-is_first.false v.ahead-is) c.if-is_first.branch-raw in
          knows_on w.1 w.0.within c.if-is_first.ahead looked _ _ c.put_one-after.result c.put_one-after.ensures.0
          ),
    )

pub returns : goal.returns
returns c = goes_out c.loop-i.invariant.0 c.loop-i-test.false
