-- `walks::plan_remove` meets its contract: one law for each thing that the walk to the key may
-- meet.
use mathlib.Core.Path.{◌≡◌, refl, ap, ◌∙◌}
use native.Mathlib.Omega.{arith}
use Rattle.std.proofs.Common.{rules, Ok, Err}
use Rattle.homes.specs.Homes.{home_in}
use Rattle.walks.proofs.Removing.{found_in, remove_met_lem, remove_short, remove_full, found_counted, found_formed, remove_formed, remove_rises}
use Rattle.walks.proofs.Seams.{told_refused, told_met, told_full, rising_one}
use Rattle.walks.proofs.Formed.{one_page}
use Rattle.walks.proofs.remove.plan_remove.Goals as goal

pub returns-in_err-walk-clause-result_value : goal.returns-in_err-walk-clause-result_value
returns-in_err-walk-clause-result_value c =
    let is : c.from_residual.result ≡ Err c.in_err-walk.field-0.0 = search rules in
    rw is (remove_met_lem _ _ _ _ _ (told_refused (home_in c.args.shape) c.args.pages.bytes.now _ _ c.in_err-walk.ensures.value))

pub returns-then-count-lt-SLOTS-clause-result_value : goal.returns-then-count-lt-SLOTS-clause-result_value
returns-then-count-lt-SLOTS-clause-result_value c =
    remove_short _ _ _ _ _ _ _ _ _ (told_met (home_in c.args.shape) c.args.pages.bytes.now _ _ c.in_ok-walk.ensures.value ∙ ap Ok c.in-Found.is) c.if-count-lt-SLOTS.true

pub returns-then-count-lt-SLOTS-clause-within : goal.returns-then-count-lt-SLOTS-clause-within
returns-then-count-lt-SLOTS-clause-within c =
    let m = found_in _ _ _ _ _ _ _ c.in-Found.is c.in_ok-walk.ensures.within in (
      (omega arith, omega arith, omega arith),
      one_page _ _ (found_formed _ _ _ _ _ _ _ _ _ (told_met (home_in c.args.shape) c.args.pages.bytes.now _ _ c.in_ok-walk.ensures.value ∙ ap Ok c.in-Found.is)),
      rising_one (home_in c.args.shape) c.args.pages.bytes.now c.in-Found.page,
    )

pub reach_back-requires-clause-full_to : goal.reach_back-requires-clause-full_to
reach_back-requires-clause-full_to c =
    let m = found_in _ _ _ _ _ _ _ c.in-Found.is c.in_ok-walk.ensures.within in
    told_full (home_in c.args.shape) c.args.pages.bytes.now _ _ c.in_ok-walk.ensures.value _ c.in-Found.is _ _ refl
    (found_counted _ _ _ _ _ _ _ _ _ (told_met (home_in c.args.shape) c.args.pages.bytes.now _ _ c.in_ok-walk.ensures.value ∙ ap Ok c.in-Found.is)) c.if-count-lt-SLOTS.false m.2

pub returns-else-count-lt-SLOTS-clause-result_value : goal.returns-else-count-lt-SLOTS-clause-result_value
returns-else-count-lt-SLOTS-clause-result_value c =
    let m = found_in _ _ _ _ _ _ _ c.in-Found.is c.in_ok-walk.ensures.within in
    remove_full _ _ _ _ _ _ _ _ _ (told_met (home_in c.args.shape) c.args.pages.bytes.now _ _ c.in_ok-walk.ensures.value ∙ ap Ok c.in-Found.is) _ c.if-count-lt-SLOTS.false (omega arith) (omega arith) c.reach_back.ensures.value

pub returns-else-count-lt-SLOTS-clause-within : goal.returns-else-count-lt-SLOTS-clause-within
returns-else-count-lt-SLOTS-clause-within c =
    let met = told_met (home_in c.args.shape) c.args.pages.bytes.now _ _ c.in_ok-walk.ensures.value ∙ ap Ok c.in-Found.is in (
      c.reach_back.ensures.within,
      remove_formed _ _ _ _ _ _ _ _ _ met _ c.reach_back.ensures.value,
      remove_rises _ _ _ _ _ _ _ _ _ met _ c.reach_back.ensures.value,
    )

pub returns-in-Ends-clause-result_value : goal.returns-in-Ends-clause-result_value
returns-in-Ends-clause-result_value c = remove_met_lem _ _ _ _ _ (told_met (home_in c.args.shape) c.args.pages.bytes.now _ _ c.in_ok-walk.ensures.value ∙ ap Ok c.in-Ends.is)

pub returns-in-AtEnd-clause-result_value : goal.returns-in-AtEnd-clause-result_value
returns-in-AtEnd-clause-result_value c = remove_met_lem _ _ _ _ _ (told_met (home_in c.args.shape) c.args.pages.bytes.now _ _ c.in_ok-walk.ensures.value ∙ ap Ok c.in-AtEnd.is)
