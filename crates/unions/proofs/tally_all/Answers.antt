-- `unions::tally_all` meets its contract: the pages are counted one by one.
use mathlib.Core.Path.{ap, ◌∙◌}
use mathlib.Core.List.{List, [], map}
use native.Mathlib.Omega.{arith}
use Rattle.layouts.specs.Layout.{in_use}
use Rattle.homes.specs.Homes.{home_in}
use Rattle.placing.specs.Image.{cat}
use Rattle.pages.specs.Page.{Record, home_for}
use Rattle.pages.proofs.Memory.{page_records}
use Rattle.pages.proofs.Read.{held_few}
use Rattle.survey.specs.Steps.Looks.{tallied}
use Rattle.rebuild.proofs.Tags.{page_few}
use Rattle.rebuild.proofs.Packing.{parts_held}
use Rattle.unions.proofs.Tallying.{counting_starts, counting_on, counting_ends}
use Rattle.unions.proofs.tally_all.Goals as goal

pub loop-a-init : goal.loop-a-init
loop-a-init c = counting_starts _ _ _ _

pub parse_at-page-requires : goal.parse_at-page-requires
parse_at-page-requires c =
    let w = c.requires.0 in
    (omega (arith, c.loop-a-test.true, c.cap-a-end.ensures, w.few), omega (arith, c.loop-a-test.true, c.cap-a-end.ensures, w.long))

pub homes_under-homes-requires : goal.homes_under-homes-requires
homes_under-homes-requires c =
    let w = c.requires.0 in
    let t = rw c.cap-a-end.ensures at c.loop-a-test.true in
    (omega (arith, t, w.few), omega (arith, t, w.long), c.parse_at-page.ensures, rw c.shape-own.ensures (w.known c.loop-a.a t))

pub add_homes-requires : goal.add_homes-requires
add_homes-requires c =
    let v = c.loop-a.invariant in
    let t = rw c.cap-a-end.ensures at c.loop-a-test.true in
    record {
      count_bound = (
        page_few _ _ c.parse_at-page.ensures,
        c.requires.1,
        omega (arith, v.long, c.requires.2),
        omega (arith, v.long, c.requires.3),
        λ k. omega (arith, v.small k, c.requires.4 k, t, c.requires.0.few),
      );
      by_index = c.homes_under-homes.ensures;
    }

pub loop-a-preserved : goal.loop-a-preserved
loop-a-preserved c =
    counting_on c.loop-a.invariant (rw c.cap-a-end.ensures at c.loop-a-test.true) (held_few in_use _) _
    (c.add_homes.ensures ∙ ap (λ (rs : List Record). tallied (map (home_for (home_in c.args.shape)) rs) c.loop-a.row) (page_records _ _ c.parse_at-page.ensures))

pub returns : goal.returns
returns c =
    let a = c.args in
    counting_ends c.loop-a.invariant (rw c.cap-a-end.ensures at c.loop-a-test.false)
    ∙ ap (λ (ps : List (List Record)). tallied (map (home_for (home_in a.shape)) (cat ps [])) a.row.now) (parts_held a.area.now a.site.cap 0)
