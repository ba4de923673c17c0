use mathlib.Core.Path.{◌≡◌, sym}
use Prim.Native.Nat.{◌-◌}
use native.Mathlib.Omega.{arith}
use borrow.Author.Rules.{rules}
use Rattle.slots.proofs.Shifting.{moved_none, moved_down}
use Rattle.slots.proofs.shift_down.Goals as goal

pub loop-i-init : goal.loop-i-init
loop-i-init c =
    let a = c.args in
    (search rules, search rules, search rules, sym (moved_none a.part.now (a.start - a.by) a.start a.start (omega arith)))

pub loop-i-preserved : goal.loop-i-preserved
loop-i-preserved c =
    let a = c.args in
    let l = c.loop-i in
    (omega arith, omega arith, search rules, moved_down a.part.now a.start a.by c.requires.0 l.part l.i l.invariant.0 (omega arith) l.invariant.3)

pub shape_of-part : goal.shape_of-part
shape_of-part c = c.loop-i.invariant.2

pub returns : goal.returns
returns c =
    let l = c.loop-i in
    let z : l.i ≡ c.args.end = omega arith in
    rw (← z) l.invariant.3
