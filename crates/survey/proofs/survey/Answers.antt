use mathlib.Core.Path.{◌≡◌}
use native.Mathlib.Omega.{arith}
use lib.ListN.{length, replicate}
use Rattle.std.proofs.Common.{rules}
use Rattle.homes.specs.Homes.{home_in}
use Rattle.pages.proofs.Judging.{judged_held}
use Rattle.pages.proofs.Read.{held_twelve}
use Rattle.survey.proofs.Looking.{survey_starts, survey_breaks, survey_goes_on, survey_ends}
use Rattle.survey.proofs.Counting.{count_starts, count_goes_on, count_ends, judged_places, judged_homes}
use Rattle.survey.proofs.survey.Goals as goal

pub loop-a-init : goal.loop-a-init
loop-a-init g c =
    let a = c.args in
    let f = g.L.Layout.layout in
    let h = home_in a.shape in
    let zeros : c.fill.new.self ≡ replicate (length a.row.now) 0 = search rules in
    (survey_starts f h a.pages.bytes.now a.pages.cap _ c.unseen-seen.ensures, rw zeros (count_starts f h a.pages.bytes.now a.pages.cap (length a.row.now)))

pub returns-in_default-clause-value : goal.returns-in_default-clause-value
returns-in_default-clause-value g c =
    let l = c.loop-a in
    let a = c.args in
    survey_breaks g.L.Layout.layout (home_in a.shape) a.pages.bytes.now a.pages.cap l.seen l.a c.loop-a-test.true l.invariant.0 _ c.judge.ensures c.in_default.is

pub look-seen-requires : goal.look-seen-requires
look-seen-requires g c =
    let j = judged_held _ _ _ _ _ _ c.judge.ensures c.in-Some.is in
    ((judged_places _ _ _ j (held_twelve _ _)).0, omega (arith, c.loop-a.invariant.0.3))

pub tally-requires : goal.tally-requires
tally-requires g c =
    let p = judged_places _ _ _ (judged_held _ _ _ _ _ _ c.judge.ensures c.in-Some.is) (held_twelve _ _) in
    (p.0, p.1, λ k. omega (arith, c.loop-a.invariant.1.small k))

pub loop-a-preserved : goal.loop-a-preserved
loop-a-preserved g c =
    let t = c.loop-a-test.true in
    let l = c.loop-a in
    let a = c.args in
    let j = judged_held _ _ _ _ _ _ c.judge.ensures c.in-Some.is in (
      survey_goes_on g.L.Layout.layout (home_in a.shape) a.pages.bytes.now a.pages.cap l.seen l.a t l.invariant.0 _ c.judge.ensures _ c.in-Some.is _ c.look-seen.ensures,
      count_goes_on l.invariant.1 _ (judged_homes _ _ _ j) t c.tally.ensures,
    )

pub returns-clause-value : goal.returns-clause-value
returns-clause-value g c =
    let a = c.args in
    let l = c.loop-a in
    survey_ends g.L.Layout.layout (home_in a.shape) a.pages.bytes.now a.pages.cap l.seen l.a (omega arith) l.invariant.0

pub returns-clause-counted : goal.returns-clause-counted
returns-clause-counted g c = count_ends c.loop-a.invariant.1 (omega arith)
