use mathlib.Core.Path.{◌≡◌, sym, ap, ◌∙◌}
use Prim.Native.Nat.{ℕ, ◌+◌, ◌%◌, ◌≤◌, ◌<◌}
use native.Mathlib.Omega.{arith}
use lib.Dec.{leb}
use lib.ListN.{get_or}
use Rattle.homes.specs.Homes.{mover}
use Rattle.homes.specs.Steps.Lanes.{InGroup, address_of}
use Rattle.homes.specs.Steps.Sweeps.{sweeps_of}
use Rattle.homes.proofs.Addresses.{regroup_address, regroup_fits}
use Rattle.homes.proofs.Turn.{Leads, stepping_first, few, size_next, groups_same, groups_twice, stepping_on, home_by_lem, leads_home, draws, mover_by}
use Rattle.homes.proofs.Beginning.{First, first_is, start_is, start_by, lane_is, leads_begin, sweeps_are, sweeps_fit, sweeps_twice, page_fits}
use Rattle.homes.proofs.Homes.{home_below}
use Rattle.homes.proofs.Together.{lane_on, step_fits}
use Rattle.homes.proofs.Shape.home.Goals as goal
use Rattle.homes.proofs.Shape.home.Lts as lts
use Rattle.homes.proofs.Shape.home.Reads as reads
use Rattle.homes.proofs.Shape.home.Tie as tie

-- the numbers of the first step
first : (c : goal.After-first-stage) → First c.self.inside.params.n c.first-stage.result
first c = first_is c.self.inside.params _ _ c.self.invariant (rw (← c.self.view_is) at c.first-stage.ensures.value)

-- the page that the key starts from
page : (c : goal.After-page) → (c.page.result ≡ c.args.key % c.first-stage.result.f) × (c.page.result < c.first-stage.result.f)
page c =
    let by = start_by _ _ c.new-start.ensures in
    (c.page.ensures.value ∙ ap (λ (n : ℕ). c.args.key % n) by, omega (arith, c.page.ensures.within, by))

-- the sweeps' number
sweeps : (c : lts.At-loop tie.the-claims reads.Pre reads.Post goal.the-invariant-loop-stage goal.the-decreases-loop-stage tie.handed_clauses) → (c.new-sweeps.result.s ≡ c.self.inside.params.s) × (c.loop-stage.sweeps.s ≡ c.new-sweeps.result.s) × (c.loop-stage.sweeps ≡ sweeps_of c.loop-stage.sweeps.s c.loop-stage.stage.g)
sweeps c =
    let own = sweeps_are _ _ _ c.loop-stage.invariant.3 in
    ((sweeps_are _ _ _ c.new-sweeps.ensures).0, own.0, own.1)

-- below size p a step is one of the forty, so the table has its power
small : (c : goal.In-loop-stage) → (c.loop-stage.stage.f < 4096) × (c.loop-stage.x + c.later-later.result < 51) × (c.loop-stage.stage.np < 8)
small c =
    let at = c.before.before in
    let ranges = at.self.invariant in
    let below : at.loop-stage.stage.f < 4096 = omega (arith, c.loop-stage-test.true, ranges.p_high) in
    (below, omega (arith, few at.loop-stage.invariant.0 below, at.later-later.ensures.within), omega (arith, at.loop-stage.invariant.0.sound, ranges.n0_high))

-- The same, where what is read is not known to be there yet.
small-unread : (c : goal.In-loop-stage-unread) → (c.loop-stage.stage.f < 4096) × (c.loop-stage.x + c.later-later.result < 51) × (c.loop-stage.stage.np < 8)
small-unread c =
    let at = c.before.before in
    let ranges = at.self.invariant in
    let below : at.loop-stage.stage.f < 4096 = omega (arith, c.loop-stage-test.true, ranges.p_high) in
    (below, omega (arith, few at.loop-stage.invariant.0 below, at.later-later.ensures.within), omega (arith, at.loop-stage.invariant.0.sound, ranges.n0_high))

-- whether the key is a mover
moves : (c : goal.After-draw) → let at = c.before.before.before in leb c.draw.result (get_or at.limits-limits.result at.loop-stage.stage.np 0) ≡ mover at.later-later.result at.self.inside.params.n0 at.args.key at.loop-stage.x
moves c =
    let at = c.before.before.before in
    let fits = small c.before in
    mover_by _ _ _ _ _ _ _ _ _ (at.powers-powers.ensures (at.loop-stage.x + at.later-later.result) fits.1) at.twice_seed-seed.ensures c.draw.ensures (at.limits-limits.ensures at.loop-stage.stage.np fits.2) at.loop-stage.invariant.0.np_is

-- the lane after the step fits
fits : (c : goal.After-step-lane) → InGroup c.loop-stage.stage.g c.step-lane.result
fits c =
    let at = c.before.before.before.before in
    let own = sweeps at in
    let low : 1 ≤ at.loop-stage.sweeps.s = omega (arith, own.0, own.1, at.self.invariant.s_low) in
    rw c.step-lane.ensures (step_fits _ _ at.loop-stage.stage _ at.loop-stage.lane low (small c.before.before).2 at.loop-stage.invariant.2)

-- and the next step leads home from its page
leads : (c : lts.After-next tie.the-claims reads.Pre reads.Post goal.the-invariant-loop-stage goal.the-decreases-loop-stage tie.handed_clauses) → let at = c.before.before.before.before.before in Leads at.later-later.result at.self.inside.params.n0 at.first-stage.result.g at.new-sweeps.result.s at.self.inside.p at.args.key (at.loop-stage.x + 1) c.next-next.result (address_of at.loop-stage.stage.g c.step-lane.result)
leads c =
    let at = c.before.before.before.before.before in
    lane_on at.loop-stage.invariant.0 c.next-next.ensures.after _ _ _ _ _ _ at.loop-stage.lane _ c.loop-stage-test.true (moves c.before.before) at.loop-stage.invariant.2 (rw (← (sweeps at).1) c.step-lane.ensures) at.loop-stage.invariant.1

pub new-start-requires : goal.new-start-requires
new-start-requires c = ((first c).low, (first c).high)

pub page-requires : goal.page-requires
page-requires c = start_is _ _ c.new-start.ensures (first c.before).low (first c.before).high

pub overflow_cast-page : goal.overflow_cast-page
overflow_cast-page c = omega (arith, (page c).1, (first c.before.before).high)

pub new-lane-requires : goal.new-lane-requires
new-lane-requires c =
    let ranges = c.self.invariant in
    (ranges.n_low, omega (arith, ranges.n_high), omega (arith, (page c).1, (first c.before.before).four))

pub new-sweeps-requires : goal.new-sweeps-requires
new-sweeps-requires c =
    let ranges = c.self.invariant in
    (ranges.s_low, ranges.s_high, omega (arith, ranges.n_high))

pub loop-stage-init : goal.loop-stage-init
loop-stage-init c =
    let at = c.before.before in
    let stage = at.before.before in
    let ranges = stage.self.invariant in
    let value = rw (← stage.self.view_is) at stage.first-stage.ensures.value in
    let lane = lane_is _ _ _ _ (first stage).groups c.new-lane.ensures ranges.n_low (omega (arith, (page at).1, (first stage).four)) in
    (stepping_first _ _ _ ranges value (rw (← stage.self.view_is) at stage.first-stage.ensures.sound), leads_begin _ _ _ _ _ _ _ _ value (lane.0 ∙ (page at).0), lane.1, (sweeps_are _ _ _ (c.new-sweeps.ensures ∙ ap (sweeps_of _) (sym (first stage).groups))).1)

pub draw-requires : goal.draw-requires
draw-requires c =
    let at = c.before.before in
    draws at.args.key (at.loop-stage.x + at.later-later.result) _ _ (at.powers-powers.ensures (at.loop-stage.x + at.later-later.result) (small c).1) at.twice_seed-seed.ensures

pub bounds-limits-stage : goal.bounds-limits-stage
bounds-limits-stage c = (small c.before).2

pub step-lane-requires : goal.step-lane-requires
step-lane-requires c =
    let at = c.before.before.before in
    let ranges = at.self.invariant in
    let own = sweeps at in
    let sound = at.loop-stage.invariant.0.sound in
    record { le_s = (omega (arith, own.0, own.1, ranges.s_low), omega (arith, own.0, own.1, ranges.s_high), own.2); g_le_f = (sound.1, (small c.before).0, (small c.before).2, at.loop-stage.invariant.2) }

pub overflow_add-x-in-loop-stage : goal.overflow_add-x-in-loop-stage
overflow_add-x-in-loop-stage c = omega (arith, small c.before.before)

pub next-next-requires : goal.next-next-requires
next-next-requires c =
    let at = c.before.before.before.before in
    (at.loop-stage.invariant.0.sound, at.self.invariant.n0_high, (small c.before.before).0)

pub overflow_cast-stage : goal.overflow_cast-stage
overflow_cast-stage c = omega (arith, c.loop-stage.invariant.0.sound, (small c.before.before.before.before.before.before.before).0)

pub regroup-lane-requires : goal.regroup-lane-requires
regroup-lane-requires c =
    let step = c.before.before.before.before.before in
    (omega (arith, step.loop-stage.invariant.0.sound, (small step.before.before).0), fits step)

pub doubled-sweeps-requires : goal.doubled-sweeps-requires
doubled-sweeps-requires c =
    let at = c.before.before.before.before.before.before.before.before.before.before in
    let ranges = at.self.invariant in
    let s = (sweeps at).0 in
    sweeps_fit _ _ _ at.loop-stage.invariant.3 (omega (arith, s, ranges.s_low)) (omega (arith, s, ranges.s_high)) (omega (arith, at.loop-stage.invariant.0.sound, (small c.before.before.before.before.before.before.before.before).0))

pub loop-stage-smaller-then-stage-next : goal.loop-stage-smaller-then-stage-next
loop-stage-smaller-then-stage-next c =
    let next = c.before.before.before.before.before.before in
    let on = next.loop-stage.invariant.0 in
    omega (arith, size_next on next.next-next.ensures.after, on.sound, next.loop-stage-test.true)

pub loop-stage-preserved-then-stage-next : goal.loop-stage-preserved-then-stage-next
loop-stage-preserved-then-stage-next c =
    let next = c.before.before.before.before.before.before in
    let at = next.before.before.before.before.before in
    let on = at.loop-stage.invariant.0 in
    let after = next.next-next.ensures.after in
    let twice = groups_twice on after c.if-stage-next.true in
    let l = next.step-lane.result in
    let page : address_of next.next-next.result.g c.regroup-lane.result ≡ address_of at.loop-stage.stage.g l = rw (twice, c.regroup-lane.ensures) (regroup_address at.loop-stage.stage.g l) in (
      stepping_on on after at.self.invariant.n0_low (small next.before.before.before).0 next.next-next.ensures.sound,
      rw page (leads next),
      rw (twice, c.regroup-lane.ensures) (regroup_fits at.loop-stage.stage.g l (fits next.before)),
      sweeps_twice _ _ _ _ _ at.loop-stage.invariant.3 c.doubled-sweeps.ensures twice,
    )

pub loop-stage-smaller : goal.loop-stage-smaller
loop-stage-smaller c =
    let next = c.before.before.before in
    let on = next.loop-stage.invariant.0 in
    omega (arith, size_next on next.next-next.ensures.after, on.sound, next.loop-stage-test.true)

pub loop-stage-preserved : goal.loop-stage-preserved
loop-stage-preserved c =
    let next = c.before.before.before in
    let at = next.before.before.before.before.before in
    let on = at.loop-stage.invariant.0 in
    let after = next.next-next.ensures.after in
    let same = groups_same on after c.if-stage-next.false in
    let l = next.step-lane.result in
    let page : address_of next.next-next.result.g l ≡ address_of at.loop-stage.stage.g l = ap (λ (g : ℕ). address_of g l) same in (
      stepping_on on after at.self.invariant.n0_low (small next.before.before.before).0 next.next-next.ensures.sound,
      rw page (leads next),
      rw same (fits next.before),
      rw same at.loop-stage.invariant.3,
    )

pub overflow_mul-result : goal.overflow_mul-result
overflow_mul-result c =
    let inv = c.loop-stage.invariant in
    omega (arith, page_fits _ _ _ (omega (arith, inv.0.sound, inv.0.small)) inv.2.0 inv.2.1)

pub overflow_add-result : goal.overflow_add-result
overflow_add-result c =
    let inv = c.loop-stage.invariant in
    omega (arith, page_fits _ _ _ (omega (arith, inv.0.sound, inv.0.small)) inv.2.0 inv.2.1)

pub returns : goal.returns
returns c =
    let at = c.before.before.before.before.before in
    let self = at.self.inside in
    let same = home_by_lem self.params _ _ _ self.p at.args.key at.later-later.ensures.value (first at.before.before.before.before.before).groups (sweeps at).0 in
    let is = leads_home _ _ _ _ _ _ _ at.loop-stage.stage _ c.loop-stage-test.false at.loop-stage.invariant.1 ∙ same in
    rw (← at.self.view_is) (record { value = is; within = omega (arith, is, home_below self.params self.p at.args.key at.self.invariant) })

pub overflow_add-x : goal.overflow_add-x
overflow_add-x c = omega (arith, small-unread c)

pub bounds-powers-x : goal.bounds-powers-x
bounds-powers-x c = (small-unread c).1
