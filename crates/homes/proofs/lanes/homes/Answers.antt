use mathlib.Core.Path.{◌≡◌, refl, sym, ap, ◌∙◌}
use mathlib.Core.Logic.{inl}
use Prim.Native.Nat.{ℕ, ◌+◌, ◌*◌, ◌%◌, ◌<◌}
use native.Mathlib.Omega.{arith}
use borrow.Author.Rules.{rules}
use lib.ListN.{length, get_or}
use Rattle.homes.specs.declared.Stage.{Stage}
use Rattle.homes.specs.Homes.{home_in, shape_of}
use Rattle.homes.specs.Steps.Lanes.{picked}
use Rattle.homes.specs.Steps.Sweeps.{sweeps_of}
use Rattle.homes.proofs.Turn.{Leads, stepping_first, few, size_next, stepping_on, home_by, home_by_lem, leads_home, draws, mover_by}
use Rattle.homes.proofs.Beginning.{First, first_is, leads_begin, sweeps_are, sweeps_fit, sweeps_twice}
use Rattle.homes.proofs.Together.{kept_over, picks, all_on, all_below, moves_told, rounding_on, round_goes, round_stops, mapped}
use Rattle.homes.proofs.lanes.homes.Goals as goal
use Rattle.homes.proofs.lanes.homes.Lts as lts
use Rattle.homes.proofs.lanes.homes.Reads as reads
use Rattle.homes.proofs.lanes.homes.Tie as tie

-- the numbers of the first step
first : (c : goal.After-first-stage) → First c.shape.inside.params.n c.first-stage.result
first c = first_is c.shape.inside.params _ _ c.shape.invariant (rw (← c.shape.view_is) at c.first-stage.ensures.value)

-- the sweeps' number
sweeps : (c : lts.At-loop tie.the-claims reads.Pre reads.Post goal.the-invariant-loop-stage-2 goal.the-decreases-loop-stage-2 goal.the-invariant-loop-stage goal.the-decreases-loop-stage tie.handed_clauses) → c.new-sweeps.result.s ≡ c.shape.inside.params.s
sweeps c = (sweeps_are _ _ _ c.new-sweeps.ensures).0

-- below size p a step is one of the forty, so the table has its power
small : (c : goal.In-loop-stage-2) → let at = c.before.before.before in (at.loop-stage-2.stage.g ≡ at.loop-stage.stage.g) × (at.loop-stage-2.stage.f < at.shape.inside.p) × (at.loop-stage-2.stage.f < 4096) × (at.loop-stage-2.x + at.later-later.result < 51) × (at.loop-stage-2.stage.np < 8)
small c =
    let at = c.before.before.before in
    let ranges = at.shape.invariant in
    let t = at.loop-stage-2.stage in
    let goes = round_goes t.g at.loop-stage.stage.g t.f at.shape.inside.p c.loop-stage-2-test.true in
    let below : at.loop-stage-2.stage.f < 4096 = omega (arith, goes.1, ranges.p_high) in
    (goes.0, goes.1, below, omega (arith, few at.loop-stage-2.invariant.0 below, at.later-later.ensures.within), omega (arith, at.loop-stage-2.invariant.0.sound, ranges.n0_high))

-- The same, where what is read is not known to be there yet.
small-2 : (c : goal.In-loop-stage-2-unread-2) → let at = c.before.before.before in (at.loop-stage-2.stage.g ≡ at.loop-stage.stage.g) × (at.loop-stage-2.stage.f < at.shape.inside.p) × (at.loop-stage-2.stage.f < 4096) × (at.loop-stage-2.x + at.later-later.result < 51) × (at.loop-stage-2.stage.np < 8)
small-2 c =
    let at = c.before.before.before in
    let ranges = at.shape.invariant in
    let t = at.loop-stage-2.stage in
    let goes = round_goes t.g at.loop-stage.stage.g t.f at.shape.inside.p c.loop-stage-2-test.true in
    let below : at.loop-stage-2.stage.f < 4096 = omega (arith, goes.1, ranges.p_high) in
    (goes.0, goes.1, below, omega (arith, few at.loop-stage-2.invariant.0 below, at.later-later.ensures.within), omega (arith, at.loop-stage-2.invariant.0.sound, ranges.n0_high))

-- The same, where what is read is not known to be there yet.
small-unread : (c : goal.In-loop-stage-2-unread) → let at = c.before.before.before in (at.loop-stage-2.stage.g ≡ at.loop-stage.stage.g) × (at.loop-stage-2.stage.f < at.shape.inside.p) × (at.loop-stage-2.stage.f < 4096) × (at.loop-stage-2.x + at.later-later.result < 51) × (at.loop-stage-2.stage.np < 8)
small-unread c =
    let at = c.before.before.before in
    let ranges = at.shape.invariant in
    let t = at.loop-stage-2.stage in
    let goes = round_goes t.g at.loop-stage.stage.g t.f at.shape.inside.p c.loop-stage-2-test.true in
    let below : at.loop-stage-2.stage.f < 4096 = omega (arith, goes.1, ranges.p_high) in
    (goes.0, goes.1, below, omega (arith, few at.loop-stage-2.invariant.0 below, at.later-later.ensures.within), omega (arith, at.loop-stage-2.invariant.0.sound, ranges.n0_high))

pub begin-begun-requires : goal.begin-begun-requires
begin-begun-requires c = ((first c).low, (first c).high)

pub place-lanes-requires : goal.place-lanes-requires
place-lanes-requires c =
    let begin = c.before.before in
    let stage = first begin.before in
    let ranges = begin.shape.invariant in
    (ranges.n_low, omega (arith, ranges.n_high), λ i h. omega (arith, begin.begin-begun.ensures.fit i h, stage.four))

pub new-sweeps-requires : goal.new-sweeps-requires
new-sweeps-requires c =
    let ranges = c.shape.invariant in
    (ranges.s_low, ranges.s_high, omega (arith, ranges.n_high))

pub loop-stage-init : goal.loop-stage-init
loop-stage-init c =
    let begin = c.before.before.before.before in
    let stage = begin.before in
    let value = rw (← stage.shape.view_is) at stage.first-stage.ensures.value in
    let bounded = rw (← stage.shape.view_is) at stage.first-stage.ensures.sound in
    let placed = c.place-lanes.ensures in (
      stepping_first _ _ _ stage.shape.invariant value bounded,
      λ i N K h q l. l,
      λ l i h. rw (first stage).groups (placed i h).0,
      λ i h. rw (placed i h).1 (begin.begin-begun.ensures.fit i h),
      λ l. (sweeps_are _ _ _ (c.new-sweeps.ensures ∙ ap (sweeps_of _) (sym (first stage).groups))).1,
    )

pub overflow_cast-g : goal.overflow_cast-g
overflow_cast-g c = omega (arith, c.loop-stage.invariant.0.sound, c.loop-stage-test.true, c.shape.invariant.p_high)

pub loop-stage-2-init : goal.loop-stage-2-init
loop-stage-2-init c =
    let at = c.before.before.before in
    (at.loop-stage.invariant.0, λ i N K h q l. l, at.loop-stage.invariant.2 c.loop-stage-test.true, at.loop-stage.invariant.3, inl (refl, omega arith))

pub overflow_cast-g-in-loop-stage-2 : goal.overflow_cast-g-in-loop-stage-2
overflow_cast-g-in-loop-stage-2 c = omega (arith, c.loop-stage.invariant.0.sound, c.loop-stage-test.true, c.shape.invariant.p_high)

pub movers-moves-requires : goal.movers-moves-requires
movers-moves-requires c =
    let at = c.before.before.before in
    λ i h. draws _ (at.loop-stage-2.x + at.later-later.result) _ _ (at.powers-powers.ensures (at.loop-stage-2.x + at.later-later.result) (small c).3) (at.begin-begun.ensures.by_index i h).0

pub overflow_cast-stage : goal.overflow_cast-stage
overflow_cast-stage c = omega (arith, small c.before.before.before)

pub step_all-lanes-requires : goal.step_all-lanes-requires
step_all-lanes-requires c =
    let at = c.before.before.before.before.before.before in
    let outer = at.before.before.before.before in
    let ranges = outer.shape.invariant in
    let began = at.loop-stage-test.true in
    let own = sweeps_are _ _ _ (outer.loop-stage.invariant.4 began) in
    let s = sweeps outer in
    record { le_s = (omega (arith, own.0, s, ranges.s_low), omega (arith, own.0, s, ranges.s_high), own.1, omega (arith, outer.loop-stage.invariant.0.sound, began, ranges.p_high), (small c.before.before.before).4); by_index = λ i h. (at.loop-stage-2.invariant.2 i h).0 }

pub next-stage-requires : goal.next-stage-requires
next-stage-requires c =
    let at = c.before.before.before.before.before.before.before in
    let fits = small c.before.before.before.before in
    (at.loop-stage-2.invariant.0.sound, at.shape.invariant.n0_high, fits.2)

pub overflow_add-x-in-loop-stage-2 : goal.overflow_add-x-in-loop-stage-2
overflow_add-x-in-loop-stage-2 c = omega (arith, small c.before.before.before.before.before)

pub loop-stage-2-smaller : goal.loop-stage-2-smaller
loop-stage-2-smaller c =
    let on = c.loop-stage-2.invariant.0 in
    omega (arith, size_next on c.next-stage.ensures.after, on.sound, (small c.before.before.before.before.before).1)

pub loop-stage-2-preserved : goal.loop-stage-2-preserved
loop-stage-2-preserved c =
    let step = c.step_all-lanes.ensures in
    let at = c.before.before.before.before.before.before.before.before in
    let outer = at.before.before.before.before in
    let on = at.loop-stage-2.invariant.0 in
    let after = c.next-stage.ensures.after in
    let fits = small c.before.before.before.before.before in
    let placed = at.loop-stage-2.invariant.2 in
    let below = at.loop-stage-2.invariant.3 in
    let x = at.loop-stage-2.x in
    let d = outer.later-later.result in
    let np = at.loop-stage-2.stage.np in
    let low = (sweeps_are _ _ _ (outer.loop-stage.invariant.4 at.loop-stage-test.true)).0 in
    let moves = c.movers-moves.ensures in (
      stepping_on on after outer.shape.invariant.n0_low fits.2 c.next-stage.ensures.sound,
      λ i N K h q l. all_on on after _ _ _ _ _ _ _ fits.0 (placed i (omega arith)).0 (placed i (omega arith)).1 (below i (omega arith)) (step.by_index_2 i (omega arith)) (step.fit i (omega arith)).1 d N _ K _ fits.1 (moves_told _ _ (moves i h) ∙ mover_by d _ _ _ _ _ _ _ _ (outer.powers-powers.ensures (x + d) fits.3) q refl (outer.limits-limits.ensures np fits.4) on.np_is) (at.loop-stage-2.invariant.1 i N K h q l),
      step.fit,
      λ i h. all_below on after _ _ _ _ _ _ _ fits.0 (placed i h).0 (placed i h).1 (below i h) (step.by_index_2 i h) (step.fit i h).1 (omega (arith, low, sweeps outer, outer.shape.invariant.s_low)),
      rounding_on on after outer.loop-stage.stage.g outer.loop-stage.stage fits.0 at.loop-stage-2.invariant.4,
    )

-- what a round has come to when it stops
stops : (c : goal.After-loop-stage-2) → let at = c.before.before.before in let t₀ = at.loop-stage.stage in (t₀.f < at.loop-stage-2.stage.f) × (at.loop-stage-2.stage.f < at.shape.inside.p → at.loop-stage-2.stage.g ≡ 2 * t₀.g)
stops c =
    let at = c.before.before.before in
    let outer = at.before.before.before.before in
    round_stops outer.loop-stage.stage.g outer.shape.inside.p outer.loop-stage.stage at.loop-stage-2.stage at.loop-stage-test.true at.loop-stage-2.invariant.4 c.loop-stage-2-test.false

pub regroup-lanes-requires : goal.regroup-lanes-requires
regroup-lanes-requires c =
    let at = c.before.before.before in
    let outer = at.before.before.before.before in
    (omega (arith, outer.loop-stage.invariant.0.sound, at.loop-stage-test.true, outer.shape.invariant.p_high), at.loop-stage-2.invariant.2)

pub doubled-sweeps-requires : goal.doubled-sweeps-requires
doubled-sweeps-requires c =
    let at = c.before.before.before.before in
    let outer = at.before.before.before.before in
    let ranges = outer.shape.invariant in
    let began = at.loop-stage-test.true in
    let s = sweeps outer in
    sweeps_fit _ _ _ (outer.loop-stage.invariant.4 began) (omega (arith, s, ranges.s_low)) (omega (arith, s, ranges.s_high)) (omega (arith, outer.loop-stage.invariant.0.sound, began, ranges.p_high))

pub loop-stage-smaller : goal.loop-stage-smaller
loop-stage-smaller c =
    let at = c.before.before.before.before.before in
    omega (arith, (stops c.before.before).0, at.loop-stage-test.true)

pub loop-stage-preserved : goal.loop-stage-preserved
loop-stage-preserved c =
    let at = c.before.before.before.before.before in
    let outer = at.before.before.before.before in
    let group = c.regroup-lanes.ensures in
    let began = at.loop-stage-test.true in
    let own = (sweeps_are _ _ _ (outer.loop-stage.invariant.4 began)).0 in
    let twice = (stops c.before.before).1 in
    let begin = outer.begin-begun.result in (
      at.loop-stage-2.invariant.0,
      kept_over outer.later-later.result outer.shape.inside.params.n0 outer.new-sweeps.result.s outer.loop-stage.sweeps.s outer.shape.inside.p begin.seeds 1 outer.loop-stage.x at.loop-stage-2.x outer.first-stage.result outer.loop-stage.stage at.loop-stage-2.stage outer.place-lanes.result.pages begin.pages outer.loop-stage.lanes.pages outer.loop-stage.before at.loop-stage-2.lanes.pages at.loop-stage-2.before c.regroup-lanes.result.pages own outer.loop-stage.invariant.1 at.loop-stage-2.invariant.1 (λ i h. (group i (omega arith)).1),
      λ l i h. rw (twice l) (group i h).0,
      λ i h. rw (group i h).1 (at.loop-stage-2.invariant.3 i h),
      λ l. sweeps_twice _ _ _ _ _ (outer.loop-stage.invariant.4 began) c.doubled-sweeps.ensures (twice l),
    )

pub overflow_cast-p : goal.overflow_cast-p
overflow_cast-p c = omega (arith, c.shape.invariant.p_high)

-- there are twelve keys
twelve : (c : lts.Start tie.the-claims reads.Pre reads.Post goal.the-invariant-loop-stage-2 goal.the-decreases-loop-stage-2 goal.the-invariant-loop-stage goal.the-decreases-loop-stage tie.handed_clauses) → length c.args.keys ≡ 12
twelve c = search rules

pub returns : goal.returns
returns c =
    let at = c.before.before.before.before in
    let start = at.before.before.before.before.before.before.before.before.before.before.before in
    let stage = at.before.before.before.before.before.before in
    let begun = at.begin-begun.ensures in
    let own = start.shape.inside in
    let shape = shape_of own.params own.p in
    let value = rw (← stage.shape.view_is) at stage.first-stage.ensures.value in
    let keys = start.args.keys in
    let p = shape.p in
    let s = at.new-sweeps.result.s in
    let d = at.later-later.result in
    let same : (K : ℕ) → home_by d shape.params.n0 stage.first-stage.result.g s p K ≡ home_in shape K = λ K. home_by_lem shape.params _ _ _ p K at.later-later.ensures.value (first stage).groups (sweeps at) in
    let page : (i : ℕ) → i < 12 → picked p (get_or at.place-lanes.result.pages i 0) (get_or at.begin-begun.result.pages i 0) ≡ get_or keys i 0 % stage.first-stage.result.f = λ i h. picks p _ _ (omega (arith, (at.place-lanes.ensures i (omega arith)).1, begun.fit i (omega arith), start.shape.invariant.p_low, ap (λ (t : Stage). t.f) value)) ∙ (at.place-lanes.ensures i (omega arith)).1 ∙ (begun.by_index i h).1 in
    let leads : (i : ℕ) → i < 12 → Leads d shape.params.n0 stage.first-stage.result.g s p (get_or keys i 0) at.loop-stage.x at.loop-stage.stage (picked p (get_or at.loop-stage.lanes.pages i 0) (get_or at.loop-stage.before i 0)) = λ i h. at.loop-stage.invariant.1 i stage.first-stage.result.g (get_or keys i 0) h (begun.by_index i h).0 (leads_begin d shape.params.n0 shape.params.n s p (get_or keys i 0) _ stage.first-stage.result value (page i h)) in
    let each : (i : ℕ) → i < 12 → get_or c.pick.result i 0 ≡ home_in shape (get_or keys i 0) = λ i h. c.pick.ensures.by_index i h ∙ leads_home _ _ _ _ _ _ _ at.loop-stage.stage _ c.loop-stage-test.false (leads i h) ∙ same (get_or keys i 0) in
    rw (← at.shape.view_is) (mapped (home_in shape) c.pick.result keys (c.pick.ensures.long ∙ sym (twelve start.before.before)) (λ i h. each i (omega (arith, c.pick.ensures.long))))

pub overflow_add-x : goal.overflow_add-x
overflow_add-x c = omega (arith, small-unread c)

pub offset_bounds-powers-x : goal.offset_bounds-powers-x
offset_bounds-powers-x c = omega (arith, small-unread c)

pub bounds-powers-x : goal.bounds-powers-x
bounds-powers-x c = (small-unread c).3

pub offset_bounds-limits-stage : goal.offset_bounds-limits-stage
offset_bounds-limits-stage c = omega (arith, small-2 c)

pub bounds-limits-stage : goal.bounds-limits-stage
bounds-limits-stage c = (small-2 c).4
