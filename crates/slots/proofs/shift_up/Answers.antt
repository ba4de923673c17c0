use mathlib.Core.Path.{◌≡◌, sym}
use Prim.Native.Nat.{◌+◌, ◌-◌}
use native.Mathlib.Omega.{arith}
use borrow.Author.Rules.{rules}
use Rattle.slots.proofs.Shifting.{moved_none, moved_up}
use Rattle.slots.proofs.shift_up.Goals as goal

pub loop-i-init : goal.loop-i-init
loop-i-init c =
    let a = c.args in
    (search rules, search rules, search rules, sym (moved_none a.part.now (a.end + a.by) a.end a.end (omega arith)))

pub loop-i-preserved : goal.loop-i-preserved
loop-i-preserved c =
    let a = c.args in
    let l = c.loop-i in
    (omega arith, omega arith, search rules, moved_up a.part.now a.end a.by c.requires.1 l.part l.i (l.i - 1) (omega arith) l.invariant.1 l.invariant.3)

pub shape_of-part : goal.shape_of-part
shape_of-part c = c.loop-i.invariant.2

pub returns : goal.returns
returns c =
    let l = c.loop-i in
    let z : l.i ≡ c.args.start = omega arith in
    rw (← z) l.invariant.3
