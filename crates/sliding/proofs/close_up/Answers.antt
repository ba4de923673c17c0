use mathlib.Core.Path.{refl, sym, ◌∙◌}
use Prim.Native.Nat.{◌-◌}
use native.Mathlib.Omega.{arith}
use Rattle.homes.specs.Homes.{home_in}
use Rattle.sliding.proofs.Closing.{closing_start, joined, over_few, own_low, want_is, over_next, closing_end}
use Rattle.sliding.proofs.Sinking.{stands_here, storable, moved_fits, sinking_turn}
use Rattle.sliding.proofs.Untouched.{calm_keeps, untouched_turn}
use Rattle.sliding.proofs.close_up.Goals as goal
use Rattle.sliding.proofs.close_up.Goals.{else-calm, then-calm}

pub loop-a-init : goal.loop-a-init
loop-a-init c = closing_start _ _ _ _ _ _ c.requires.leaving c.requires.cap_bound.1

pub overflow_add-waiting : goal.overflow_add-waiting
overflow_add-waiting c =
    let n = c.requires.cap_bound in
    record { fits = omega (arith, over_few c.requires.leaving c.loop-a.invariant n.0, own_low c.args.counts.now (c.args.shape.p - 1) c.loop-a.a n.5, rw c.pages.ensures.value at c.own.ensures) }

pub pull-pulled-requires : goal.pull-pulled-requires
pull-pulled-requires c =
    let i = c.loop-a.invariant in
    (c.requires.cap_bound.0, i.long, omega (arith, c.min-want.ensures), stands_here c.requires.leaving i c.loop-a-test.true)

pub store_at-requires : goal.store_at-requires
store_at-requires c =
    let g = c.requires.leaving in
    let i = c.loop-a.invariant in
    let t = c.pull-pulled.ensures in
    storable g i c.loop-a-test.true _ (want_is g i _ _ _ (rw c.pages.ensures.value at c.own.ensures) refl c.min-want.ensures) _ (t.by_index (home_in c.args.shape)) t.within c.requires.cap_bound.0

pub overflow_add-moved : goal.overflow_add-moved
overflow_add-moved c =
    let g = c.requires.leaving in
    let i = c.loop-a.invariant in
    let t = c.pull-pulled.ensures in
    record { fits = moved_fits g i c.loop-a-test.true _ (want_is g i _ _ _ (rw c.pages.ensures.value at c.own.ensures) refl c.min-want.ensures) _ (t.by_index (home_in c.args.shape)) t.within c.requires.cap_bound.0 }

pub loop-a-preserved : goal.loop-a-preserved
loop-a-preserved c =
    let g = c.requires.leaving in
    let i = c.loop-a.invariant in
    let more = c.loop-a-test.true in
    let is = want_is g i _ _ _ (rw c.pages.ensures.value at c.own.ensures) refl c.min-want.ensures in
    let on = over_next g i _ _ _ (rw c.pages.ensures.value at c.own.ensures) refl c.min-want.ensures in
    elim c.if-calm.branch [
      | then-calm w ↦ joined (untouched_turn g i more _ (calm_keeps g i more _ _ c.count_at-count.ensures is (sym c.calm.ensures ∙ w.if-calm.true)) _ on) w.area-is (w.place-is ∙ w.past-place.ensures) w.moved-is
      | else-calm w ↦ joined (sinking_turn g i more _ is _ (w.pull-pulled.ensures.by_index (home_in c.args.shape)) w.pull-pulled.ensures.within _ w.store_at.ensures _ on) w.area-is w.place-is w.moved-is
    ]

pub returns : goal.returns
returns c = closing_end c.requires.leaving c.loop-a.invariant c.loop-a-test.false
