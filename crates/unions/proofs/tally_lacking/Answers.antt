-- `unions::tally_lacking` meets its contract: of each page what is lacking is counted, and clashes are weighed.
use mathlib.Core.Path.{ap, ◌∙◌}
use mathlib.Core.List.{List, map}
use native.Mathlib.Omega.{arith}
use Rattle.layouts.specs.Layout.{in_use}
use Rattle.homes.specs.Homes.{home_in}
use Rattle.pages.specs.Page.{Record, key, home_for}
use Rattle.pages.specs.Area.{part_at}
use Rattle.pages.proofs.Memory.{page_records}
use Rattle.pages.proofs.Read.{held_few}
use Rattle.survey.specs.Steps.Looks.{tallied}
use Rattle.rebuild.proofs.Tags.{page_few}
use Rattle.rebuild.proofs.Packing.{on_page}
use Rattle.sites.specs.Held.{same}
use Rattle.sites.specs.Steps.Sites.{look}
use Rattle.two_sets.specs.Steps.Lowest.{lowest_in, lacking}
use Rattle.two_sets.proofs.Lowest.{lacking-length}
use Rattle.unions.specs.Steps.Both.{clash_by}
use Rattle.unions.proofs.Tallying.{counting_starts, counting_on, counting_ends, lacking_parts, weighing_starts, weighing_on, weighing_ends}
use Rattle.unions.proofs.tally_lacking.Goals as goal

pub loop-a-init : goal.loop-a-init
loop-a-init c = (counting_starts _ _ _ _, weighing_starts _ _ _)

pub parse_at-page-requires : goal.parse_at-page-requires
parse_at-page-requires c =
    let w = c.requires.0 in
    (omega (arith, c.loop-a-test.true, c.cap-a-end.ensures, w.few), omega (arith, c.loop-a-test.true, c.cap-a-end.ensures, w.long))

pub homes_under-homes-requires : goal.homes_under-homes-requires
homes_under-homes-requires c =
    let w = c.requires.0 in
    let t = rw c.cap-a-end.ensures at c.loop-a-test.true in
    (omega (arith, t, w.few), omega (arith, t, w.long), c.parse_at-page.ensures, rw c.shape-mine.ensures (w.known c.loop-a.a t))

pub homes_under-sought-requires : goal.homes_under-sought-requires
homes_under-sought-requires c =
    let w = c.requires.0 in
    let t = rw c.cap-a-end.ensures at c.loop-a-test.true in
    (omega (arith, t, w.few), omega (arith, t, w.long), c.parse_at-page.ensures, rw c.shape-mine.ensures (w.known c.loop-a.a t))

pub sift-sifted-requires : goal.sift-sifted-requires
sift-sifted-requires c = (page_few _ _ c.parse_at-page.ensures, c.requires.1, rw c.shape-theirs.ensures at c.homes_under-sought.ensures)

pub add_homes-requires : goal.add_homes-requires
add_homes-requires c =
    let w = c.requires.0 in
    let v = c.loop-a.invariant.0 in
    let t = rw c.cap-a-end.ensures at c.loop-a-test.true in
    rw c.shape-mine.ensures (record {
      count_bound = (
        c.sift-sifted.ensures.few,
        w.ready,
        omega (arith, v.long, c.requires.2, w.grown),
        omega (arith, v.long, c.requires.2, w.few),
        λ k. omega (arith, v.small k, c.requires.3 k, t, w.few),
      );
      by_index = c.sift-sifted.ensures.homes (home_in c.args.here.shape) (rw c.shape-mine.ensures at c.homes_under-homes.ensures);
    })

pub loop-a-preserved : goal.loop-a-preserved
loop-a-preserved c =
    let a = c.args in
    let there = look a.there a.other.now in
    let page = page_records _ _ c.parse_at-page.ensures in
    let f = c.sift-sifted.ensures in
    let t = rw c.cap-a-end.ensures at c.loop-a-test.true in (
      counting_on c.loop-a.invariant.0 t (omega (arith, lacking-length key there (on_page a.area.now c.loop-a.a), held_few in_use (part_at a.area.now c.loop-a.a))) _
          (rw c.shape-mine.ensures at c.add_homes.ensures ∙ ap (λ (rs : List Record). tallied (map (home_for (home_in a.here.shape)) rs) c.loop-a.row) (f.kept ∙ ap (lacking key there) page)),
      weighing_on c.loop-a.invariant.1 t c.sift-sifted.result.clash (f.clash ∙ ap (λ (rs : List Record). lowest_in key same there rs (clash_by c.loop-a.clash)) page),
    )

pub returns : goal.returns
returns c =
    let a = c.args in
    let v = c.loop-a.invariant in
    let t = rw c.cap-a-end.ensures at c.loop-a-test.false in
    record {
      result_value = weighing_ends v.1 t;
      row_after = counting_ends v.0 t
          ∙ ap (λ (rs : List Record). tallied (map (home_for (home_in a.here.shape)) rs) a.row.now) (lacking_parts (look a.there a.other.now) a.area.now a.here.cap 0);
      few = λ k. omega (arith, v.0.small k, c.loop-a.auto.a-end, c.cap-a-end.ensures, c.requires.0.few);
    }
