-- `walks::plan_put` meets its contract: the pages that the walk meets decide, and from an ending
-- page that is full on the first page with room.
use mathlib.Core.Path.{◌≡◌, refl, ap, subst, ◌∙◌}
use native.Mathlib.Omega.{arith}
use Rattle.std.proofs.Common.{rules, Ok, Err}
use Rattle.homes.specs.Homes.{home_in}
use Rattle.walks.specs.Walks.{stopped}
use Rattle.walks.specs.Steps.Plans.{MetIn}
use Rattle.walks.proofs.PutPlan.{put_found, put_refused, put_past, put_at, put_here, put_on, put_placed, put_formed, put_reached, put_rises}
use Rattle.walks.proofs.Seams.{told_refused, told_met, told_full, rising_one}
use Rattle.walks.proofs.Formed.{one_page}
use Rattle.walks.proofs.put.plan_put.Goals as goal

pub returns-in_err-walk-clause-result_value : goal.returns-in_err-walk-clause-result_value
returns-in_err-walk-clause-result_value c =
    let is : c.from_residual.result ≡ Err c.in_err-walk.field-0.0 = search rules in
    rw is (put_refused (home_in c.args.shape) c.args.pages.bytes.now c.args.new c.args.pages.cap _ (told_refused (home_in c.args.shape) c.args.pages.bytes.now _ _ c.in_err-walk.ensures.value))

pub returns-then-count-lt-SLOTS-clause-result_value : goal.returns-then-count-lt-SLOTS-clause-result_value
returns-then-count-lt-SLOTS-clause-result_value c =
    let met = told_met (home_in c.args.shape) c.args.pages.bytes.now _ _ c.in_ok-walk.ensures.value ∙ ap Ok c.in-Ends.is in
    let w = subst (MetIn c.args.pages.cap) c.in-Ends.is c.in_ok-walk.ensures.within in
    put_here (home_in c.args.shape) c.args.pages.bytes.now c.args.new c.args.pages.cap _ _ _ _ met w.0 w.3 c.if-count-lt-SLOTS.true

pub returns-then-count-lt-SLOTS-clause-within : goal.returns-then-count-lt-SLOTS-clause-within
returns-then-count-lt-SLOTS-clause-within c =
    let a = c.args in
    let h = home_in a.shape in
    let met = told_met (home_in c.args.shape) c.args.pages.bytes.now _ _ c.in_ok-walk.ensures.value ∙ ap Ok c.in-Ends.is in
    let w = subst (MetIn a.pages.cap) c.in-Ends.is c.in_ok-walk.ensures.within in (
      (omega arith, w.0, w.1),
      (put_at h a.pages.bytes.now a.new a.pages.cap _ _ _ _ met).1,
      one_page a.pages.bytes.now c.in-Ends.page (put_formed h a.pages.bytes.now a.new a.pages.cap _ _ _ _ met),
      rising_one h a.pages.bytes.now c.in-Ends.page,
    )

pub reach-requires-clause-full_to : goal.reach-requires-clause-full_to
reach-requires-clause-full_to c =
    let a = c.args in
    let h = home_in a.shape in
    let met = told_met (home_in c.args.shape) c.args.pages.bytes.now _ _ c.in_ok-walk.ensures.value ∙ ap Ok c.in-Ends.is in
    let w = subst (MetIn a.pages.cap) c.in-Ends.is c.in_ok-walk.ensures.within in
    told_full h a.pages.bytes.now _ _ c.in_ok-walk.ensures.value _ c.in-Ends.is c.in-Ends.page c.in-Ends.count refl (put_at h a.pages.bytes.now a.new a.pages.cap _ _ _ _ met).0 c.if-count-lt-SLOTS.false w.2

pub returns-in-Found-clause-result_value : goal.returns-in-Found-clause-result_value
returns-in-Found-clause-result_value c =
    ap stopped c.again.ensures
    ∙ put_found (home_in c.args.shape) c.args.pages.bytes.now c.args.new c.args.pages.cap _ _ _ _ _ (told_met (home_in c.args.shape) c.args.pages.bytes.now _ _ c.in_ok-walk.ensures.value ∙ ap Ok c.in-Found.is)

pub returns-in-AtEnd-clause-result_value : goal.returns-in-AtEnd-clause-result_value
returns-in-AtEnd-clause-result_value c =
    put_past (home_in c.args.shape) c.args.pages.bytes.now c.args.new c.args.pages.cap _ (told_met (home_in c.args.shape) c.args.pages.bytes.now _ _ c.in_ok-walk.ensures.value ∙ ap Ok c.in-AtEnd.is)

pub returns-else-count-lt-SLOTS-clause-result_value : goal.returns-else-count-lt-SLOTS-clause-result_value
returns-else-count-lt-SLOTS-clause-result_value c =
    let met = told_met (home_in c.args.shape) c.args.pages.bytes.now _ _ c.in_ok-walk.ensures.value ∙ ap Ok c.in-Ends.is in
    let w = subst (MetIn c.args.pages.cap) c.in-Ends.is c.in_ok-walk.ensures.within in
    put_on (home_in c.args.shape) c.args.pages.bytes.now c.args.new c.args.pages.cap _ _ _ _ met w.0 w.3 c.if-count-lt-SLOTS.false _ c.reach.ensures.value

pub returns-else-count-lt-SLOTS-clause-within : goal.returns-else-count-lt-SLOTS-clause-within
returns-else-count-lt-SLOTS-clause-within c =
    let a = c.args in
    let h = home_in a.shape in
    let met = told_met (home_in c.args.shape) c.args.pages.bytes.now _ _ c.in_ok-walk.ensures.value ∙ ap Ok c.in-Ends.is in
    let is = c.reach.ensures.value in (
      c.reach.ensures.within,
      put_placed h a.pages.bytes.now a.new a.pages.cap _ _ _ _ met _ is,
      put_reached h a.pages.bytes.now a.new a.pages.cap _ _ _ _ met _ is,
      put_rises h a.pages.bytes.now a.new a.pages.cap _ _ _ _ met _ is,
    )
