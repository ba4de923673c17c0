-- `homes::lane::turn_of` meets its contract: three tests count the turns.
--
use mathlib.Core.Path.{◌≡◌, refl}
use mathlib.Core.Bool.{Bool, true, false}
use Prim.Native.Nat.{ℕ, ◌+◌, ◌-◌, ◌*◌, ◌/◌, ◌≤◌, ◌<◌}
use native.Mathlib.Omega.{arith}
use mir.Val.{bool_byte}
use lib.Dec.{leb}
use borrow.Author.Tests.{leb-true, leb-false}
use Rattle.homes.proofs.Quotients.{parts}
use Rattle.homes.proofs.lane.turn_of.Goals as goal

module _ (a g : ℕ) where
  -- between q and q + 1 times g the quotient is q
  between : (q : ℕ) → q * g ≤ a → a < q * g + g → q ≡ a / g
  between q l h = (parts a g q (a - q * g) (omega arith) (omega arith)).0

  -- three tests count it
  counted : 1 ≤ g → a < 4 * g → bool_byte (leb g a) + bool_byte (leb (2 * g) a) + bool_byte (leb (3 * g) a) ≡ a / g
  counted low high = go (leb g a) (leb (2 * g) a) (leb (3 * g) a) refl refl refl
    where
      go : (u v w : Bool) → leb g a ≡ u → leb (2 * g) a ≡ v → leb (3 * g) a ≡ w → bool_byte u + bool_byte v + bool_byte w ≡ a / g
      go false false false e f k = between 0 (omega arith) (omega (arith, leb-false g a e))
      go true false false e f k = between 1 (omega (arith, leb-true g a e)) (omega (arith, leb-false (2 * g) a f))
      go true true false e f k = between 2 (omega (arith, leb-true (2 * g) a f)) (omega (arith, leb-false (3 * g) a k))
      go true true true e f k = between 3 (omega (arith, leb-true (3 * g) a k)) (omega arith)
      go false true w e f k = absurd (omega (arith, leb-false g a e, leb-true (2 * g) a f))
      go false false true e f k = absurd (omega (arith, leb-false g a e, leb-true (3 * g) a k))
      go true false true e f k = absurd (omega (arith, leb-false (2 * g) a f, leb-true (3 * g) a k))

pub returns : goal.returns
returns c = rw (c.from.ensures, c.from-2.ensures, c.from-3.ensures) (counted c.args.page c.args.g c.requires.0 c.requires.2)
