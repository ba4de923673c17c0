-- `homes::lane::Lane::step` meets its contract: one law for each way out.
--
use mathlib.Core.Path.{◌≡◌, refl, ◌∙◌}
use mathlib.Core.Bool.{Bool, true, false}
use Prim.Native.Nat.{ℕ, ◌+◌, ◌-◌, ◌≤◌, ◌<◌}
use native.Mathlib.Omega.{arith}
use borrow.Author.Tests.{lt-ltb, le-ltb, not-true, not-false}
use Rattle.homes.specs.declared.Stage.{Stage}
use Rattle.homes.specs.declared.lane.Lane.{Lane}
use Rattle.homes.specs.Homes.{swept}
use Rattle.homes.specs.Steps.Lanes.{aimed, stepped_to}
use Rattle.homes.proofs.Rowed.{same}
use Rattle.homes.proofs.lane.Lane.step.Goals as goal

module _ (s P : ℕ) (t : Stage) (moves : Bool) (l : Lane) where
  -- how far behind the size the new page is
  abbrev to : ℕ
  to = swept s 0 t.g (t.g - 1 - l.group)

  -- A key that is no mover stays,
  stays : moves ≡ false → l ≡ stepped_to s P t moves l
  unfolding stepped_to
  stays e = rw e

  -- a mover goes to a page that is there,
  goes : moves ≡ true → t.f + to < P → aimed s t.g t.np l ≡ stepped_to s P t moves l
  unfolding stepped_to
  goes e h = rw (e, lt-ltb (t.f + to) P h)

  -- and stays where it isn't.
  past : moves ≡ true → P ≤ t.f + to → l ≡ stepped_to s P t moves l
  unfolding stepped_to
  past e h = rw (e, le-ltb (t.f + to) P h)

pub returns-then-not-moves : goal.returns-then-not-moves
returns-then-not-moves c = stays _ _ _ _ _ (not-true _ c.if-not-moves.true-raw)

pub returns-then-stage-group : goal.returns-then-stage-group
returns-then-stage-group c =
    let to = c.target-group.ensures.value in
    same refl to ∙ goes _ _ _ _ _ (not-false _ c.if-not-moves.false-raw) (omega arith)

pub returns-else-stage-group : goal.returns-else-stage-group
returns-else-stage-group c =
    let to = c.target-group.ensures.value in
    past _ _ _ _ _ (not-false _ c.if-not-moves.false-raw) (omega arith)
