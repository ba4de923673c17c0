use mathlib.Core.Path.{ap, ◌∙◌}
use Prim.Native.Nat.{◌-◌}
use native.Mathlib.Omega.{arith}
use Rattle.homes.specs.declared.Stage.{Stage}
use Rattle.homes.specs.Steps.Last.{last_from}
use Rattle.homes.proofs.Turn.{size_next, few}
use Rattle.homes.proofs.Last.{seek_starts, seek_on, seek_ends}
use Rattle.homes.proofs.Shape.last.Goals as goal

pub loop-stage-init : goal.loop-stage-init
loop-stage-init c =
    let is = c.self.view_is in
    seek_starts c.self.inside.params _ _ c.self.invariant (rw (← is) at c.requires) (rw (← is) at c.first-stage.ensures.value) (rw (← is) at c.first-stage.ensures.sound)

pub next-stage-requires : goal.next-stage-requires
next-stage-requires c =
    let ranges = c.self.invariant in
    (c.loop-stage.invariant.on.sound, ranges.n0_high, omega (arith, c.loop-stage.invariant.below, ranges.p_high))

pub overflow_add-x : goal.overflow_add-x
overflow_add-x c =
    omega (arith, few c.loop-stage.invariant.on (omega (arith, c.loop-stage.invariant.below, c.self.invariant.p_high)))

pub loop-stage-smaller : goal.loop-stage-smaller
loop-stage-smaller c =
    let on = c.loop-stage.invariant.on in
    omega (arith, size_next on c.next-stage.ensures.after, on.sound, c.loop-stage.invariant.below)

pub loop-stage-preserved : goal.loop-stage-preserved
loop-stage-preserved c =
    let ranges = c.self.invariant in
    seek_on _ _ _ _ _ _ c.loop-stage.invariant ranges.n0_low ranges.p_high c.loop-stage-test.true c.next-stage.ensures.after c.next-stage.ensures.sound

pub returns : goal.returns
returns c =
    let is = c.self.view_is in
    let own = c.self.inside in
    let start = ap (λ (t : Stage). last_from own.params.n0 own.p (own.p - t.f) 1 t) (rw (← is) at c.first-stage.ensures.value) in
    let end = seek_ends _ _ _ _ _ c.loop-stage.invariant c.self.invariant.p_high c.loop-stage-test.false in
    let sound = end.1.sound in
    rw (← is) (record { value = end.0 ∙ start; sound = end.1; within = (sound.0, sound.1, omega (arith, end.1.below, c.self.invariant.p_high)) })

pub overflow_add-stage : goal.overflow_add-stage
overflow_add-stage c = omega (arith, c.loop-stage.invariant.on.sound, c.loop-stage.invariant.on.small)
