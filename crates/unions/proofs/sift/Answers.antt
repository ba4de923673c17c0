-- `unions::sift` meets its contract: each record is sought, weighed, and kept where nothing is found.
use mathlib.Core.Path.{◌≡◌, refl, ap, ◌∙◌}
use mathlib.Core.Bool.{not}
use native.Mathlib.Omega.{arith}
use Rattle.placing.specs.Rows.{is_there}
use Rattle.pages.specs.Steps.Slots.{records_of}
use Rattle.lookups.specs.Steps.Told.{held_by}
use Rattle.lookups.proofs.Looking.{by_told}
use Rattle.unions.proofs.Sifting.{one_most, sifting_on}
use Rattle.unions.proofs.sift.Goals as goal

pub loop-i-init : goal.loop-i-init
loop-i-init c = record {
  few = omega arith;
  long_keys = refl;
  long_values = refl;
  long_runs = refl;
  long_homes = refl;
  kept = refl;
  lowest = refl;
  told = λ h t j l. absurd (omega arith);
}

pub overflow_add-n : goal.overflow_add-n
overflow_add-n c = omega (arith, c.loop-i.invariant.few, c.loop-i-test.true, c.requires.0, c.absent-n.ensures, one_most (not (is_there (held_by c.seek-held.result))))

pub loop-i-preserved : goal.loop-i-preserved
loop-i-preserved c =
    sifting_on c.loop-i.invariant c.loop-i-test.true c.requires.0 _ refl c.seek-held.result (ap held_by c.seek-held.ensures ∙ by_told _) c.weigh-clash.result c.weigh-clash.ensures _ c.absent-n.ensures

pub returns : goal.returns
unfolding records_of
returns c =
    let v = c.loop-i.invariant in
    let e : c.loop-i.i ≡ c.args.page.count = omega (arith, c.loop-i.auto.i-end, c.loop-i-test.false) in
    record { few = omega (arith, v.few, e, c.requires.0); kept = rw (← e) v.kept; clash = rw (← e) v.lowest; homes = v.told }
