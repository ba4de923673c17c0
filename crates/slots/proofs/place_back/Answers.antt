use mathlib.Core.Path.{◌≡◌, sym, ap, ◌∙◌}
use Prim.Native.Nat.{◌+◌, ◌-◌}
use native.Mathlib.Omega.{arith}
use borrow.Author.Rules.{rules}
use Rattle.homes.specs.Homes.{home_in}
use Rattle.placing.specs.Lay.{ranked}
use Rattle.pages.specs.Page.{records_in}
use Rattle.pages.proofs.Read.{length_held}
use Rattle.slots.proofs.Seeking.{key_test, back, back_here, back_turn}
use Rattle.slots.proofs.place_back.Goals as goal

pub loop-i-init : goal.loop-i-init
loop-i-init g c =
    let a = c.args in
    ap (back (home_in a.shape) (ranked a.home a.key) (records_in g.L.Layout.layout a.part.now)) (c.count_in-i.ensures ∙ sym (length_held g.L.Layout.layout a.part.now))

pub returns-then-lt : goal.returns-then-lt
returns-then-lt g c =
    let a = c.args in
    let l = c.loop-i in
    let h = home_in a.shape in
    let r = ranked a.home a.key in
    let rs = records_in g.L.Layout.layout a.part.now in
    let z : l.i - 1 + 1 ≡ l.i = omega arith in
    z ∙ sym (back_here h r rs l.i (omega arith) (key_test h r rs (l.i - 1) _ _ _ _ c.if-lt.true c.key_in-other.ensures c.home.ensures.value (search rules))) ∙ l.invariant

pub loop-i-preserved : goal.loop-i-preserved
loop-i-preserved g c =
    let a = c.args in
    let l = c.loop-i in
    let h = home_in a.shape in
    let r = ranked a.home a.key in
    let rs = records_in g.L.Layout.layout a.part.now in
    back_turn h r rs l.i (omega arith) (key_test h r rs (l.i - 1) _ _ _ _ c.if-lt.false c.key_in-other.ensures c.home.ensures.value (search rules)) ∙ l.invariant

pub returns : goal.returns
returns g c =
    let z : c.loop-i.i ≡ 0 = omega arith in
    rw z at c.loop-i.invariant
