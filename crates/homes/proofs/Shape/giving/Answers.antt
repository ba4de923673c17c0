-- `homes::Shape::giving` meets its contract.
use Prim.Native.Nat.{◌+◌}
use native.Mathlib.Omega.{arith}
use Rattle.homes.specs.Homes.{shape_of}
use Rattle.homes.proofs.Given.{giving_is}
use Rattle.homes.proofs.Shape.giving.Goals as goal

pub returns : goal.returns
returns c =
    let is = c.self.view_is in
    let own = c.self.inside in
    let ranges = c.self.invariant in
    let last = c.last-last.result in
    let value = rw (← is) at c.last-last.ensures.value in
    let sound = rw (← is) at c.last-last.ensures.sound in
    let later = c.later-later in
    let power = c.powers-powers.ensures (last.x + later.result) (omega (arith, sound.few, later.ensures.within)) in
    let limit = c.limits-limits.ensures last.stage.np (omega (arith, sound.sound, ranges.n0_high)) in
    let all = giving_is (shape_of own.params own.p) last _ _ _ ranges value sound later.ensures.value power limit in
    rw (← is) (record { value = all.0; gives = all.1 })
