-- `unions::add_homes` meets its contract: each home is a place of the row.
use mathlib.Core.Path.{◌≡◌, ap, ◌∙◌}
use mathlib.Core.List.{map}
use native.Mathlib.Omega.{arith}
use lib.ListN.{length, get_or}
use Rattle.homes.specs.Homes.{home_in}
use Rattle.pages.specs.Page.{home_for}
use Rattle.pages.specs.Steps.Slots.{paired, records_of}
use Rattle.survey.specs.Steps.Looks.{tallied}
use Rattle.unions.proofs.Tallying.{home_inside, added_le, added_on}
use Rattle.unions.proofs.add_homes.Goals as goal

pub offset_bounds-row-homes : goal.offset_bounds-row-homes
offset_bounds-row-homes c =
    let r = c.requires.count_bound in
    omega (arith, home_inside c.args.shape r.1 c.loop-i.row (omega (arith, c.loop-i.auto.row, r.2)) _ _ (c.requires.by_index c.loop-i.i c.loop-i-test.true), c.loop-i.auto.row, r.3)

pub bounds-row-homes : goal.bounds-row-homes
bounds-row-homes c =
    let r = c.requires.count_bound in
    home_inside c.args.shape r.1 c.loop-i.row (omega (arith, c.loop-i.auto.row, r.2)) _ _ (c.requires.by_index c.loop-i.i c.loop-i-test.true)

pub overflow_add-row : goal.overflow_add-row
overflow_add-row c =
    let a = c.args in
    let to = get_or a.homes c.loop-i.i 0 in
    omega (arith, added_le (home_in a.shape) a.page a.row.now c.loop-i.row c.loop-i.i c.loop-i.invariant to, c.requires.count_bound.4 to, c.loop-i-test.true, c.requires.count_bound.0)

pub bounds-row-homes-in-loop-i : goal.bounds-row-homes-in-loop-i
bounds-row-homes-in-loop-i c =
    let r = c.requires.count_bound in
    home_inside c.args.shape r.1 c.loop-i.row (omega (arith, c.loop-i.auto.row, r.2)) _ _ (c.requires.by_index c.loop-i.i c.loop-i-test.true)

pub loop-i-preserved : goal.loop-i-preserved
loop-i-preserved c =
    let a = c.args in
    added_on (home_in a.shape) a.page a.row.now c.loop-i.row c.loop-i.i c.loop-i.invariant _ (c.requires.by_index c.loop-i.i c.loop-i-test.true)

pub returns : goal.returns
unfolding records_of
returns c =
    let p = c.args.page in
    let e : c.loop-i.i ≡ p.count = omega (arith, c.loop-i.auto.i-end, c.loop-i-test.false) in
    c.loop-i.invariant ∙ ap (λ n. tallied (map (home_for (home_in c.args.shape)) (paired n p.keys p.values p.runs)) c.args.row.now) e
