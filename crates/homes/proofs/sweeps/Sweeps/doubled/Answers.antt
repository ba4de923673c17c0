-- `homes::sweeps::Sweeps::doubled` meets its contract: twice the groups are twice each sweep's and
-- twice the rest, which is one more for each sweep where it is s or more.
--
use mathlib.Core.Path.{◌≡◌, refl, ap, ◌∙◌}
use mathlib.Core.Bool.{Bool, true, false, cond}
use Prim.Native.Nat.{ℕ, ◌+◌, ◌-◌, ◌*◌, ◌/◌, ◌%◌, ◌<◌}
use native.Mathlib.Nat.{div-add-mod'}
use native.Mathlib.Omega.{arith}
use mir.Val.{bool_byte}
use lib.Dec.{leb}
use borrow.Author.Tests.{leb-true, leb-false}
use Rattle.homes.specs.declared.sweeps.Sweeps.{Sweeps}
use Rattle.homes.proofs.Quotients.{parts}
use Rattle.homes.proofs.sweeps.Sweeps.doubled.Goals as goal
use Rattle.homes.proofs.sweeps.Sweeps.doubled.Goals.{else-over, then-over}

-- twice a number by twice its quotient and its remainder
twice : (s g each more less : ℕ) → each ≡ g / s → more ≡ g % s → more < s → less ≡ cond (leb s (2 * more)) s 0 → (2 * each + bool_byte (leb s (2 * more)) ≡ 2 * g / s) × (2 * more - less ≡ 2 * g % s)
twice s g each more less a b h = go (leb s (2 * more)) refl
  where
    whole : each * s + more ≡ g
    whole = rw (a, b) (div-add-mod' g s)

    go : (t : Bool) → leb s (2 * more) ≡ t → less ≡ cond t s 0 → (2 * each + bool_byte t ≡ 2 * g / s) × (2 * more - less ≡ 2 * g % s)
    go true e l =
        parts (2 * g) s (2 * each + 1) (2 * more - less) (omega (arith, leb-true s (2 * more) e)) (omega (arith, whole, leb-true s (2 * more) e))
    go false e l =
        parts (2 * g) s (2 * each + 0) (2 * more - less) (omega (arith, leb-false s (2 * more) e)) (omega (arith, whole, leb-false s (2 * more) e))

pub returns : goal.returns
returns c g e =
    let self = c.args.self in
    let less : c.if-over.less ≡ cond (leb self.s (2 * self.more)) self.s 0 = elim c.if-over.branch [ then-over w ↦ w.less-is ∙ rw w.if-over.true-raw | else-over w ↦ w.less-is ∙ rw w.if-over.false-raw ] in
    let new = twice self.s g self.each self.more c.if-over.less (ap (λ (w : Sweeps). w.each) e) (ap (λ (w : Sweeps). w.more) e) c.requires.1 less in
    let each : 2 * self.each + c.from.result ≡ 2 * g / self.s = rw c.from.ensures new.0 in
    λ i. record { s = self.s; share = (e i).share; each = each i; more = new.1 i }
