use mathlib.Core.Path.{sym, ◌∙◌}
use Prim.Native.Nat.{◌+◌}
use native.Mathlib.Omega.{arith}
use Rattle.homes.specs.Homes.{home_in}
use Rattle.walks.proofs.Seams.{rising_at}
use Rattle.walks.proofs.Pouring.{stored_length, stored_same}
use Rattle.walks.proofs.Draw.{draw_turn}
use Rattle.walks.proofs.remove.draw_back.Goals as goal

pub fill_up-requires-clause-a_value : goal.fill_up-requires-clause-a_value
fill_up-requires-clause-a_value c =
    let l = c.loop-a in
    let g = c.args in
    λ t. rw (l.invariant.1 l.a (omega arith), l.invariant.1 (l.a + 1) (omega arith)) (rising_at (home_in g.shape) g.area.now g.change.first g.change.last l.a (sym c.requires.formed.1 ∙ t) (omega arith) (omega arith))

pub loop-a-preserved : goal.loop-a-preserved
loop-a-preserved c =
    let l = c.loop-a in
    let s = c.args in
    let e = c.fill_up.ensures in (
      stored_length _ _ _ _ e (omega arith) ∙ l.invariant.0,
      stored_same _ _ _ _ e (omega arith) _ l.invariant.1,
      draw_turn (home_in s.shape) s.area.now l.area _ s.change.last l.a l.slot l.invariant.1 e (omega arith) ∙ l.invariant.2,
      omega arith,
    )
