-- A quotient, and what it leaves.
--
use mathlib.Core.Path.{◌≡◌, sym}
use Prim.Native.Nat.{ℕ, zero, suc, ◌+◌, ◌-◌, ◌*◌, ◌/◌, ◌%◌, ◌≤◌, ◌<◌}
use native.Mathlib.Nat.{div-add-mod'}
use native.Mathlib.Omega.{arith}
use lib.Arith.{digits_div, digits_mod}

-- A quotient times the divisor is no more than the number, and leaves the remainder.
pub remains : (a g q : ℕ) → q ≡ a / g → (q * g ≤ a) × (a - q * g ≡ a % g)
remains a g q e =
    let low : q * g ≤ a = rw e (omega (arith, div-add-mod' a g)) in
    let left : a - q * g ≡ a % g = rw e (omega (arith, div-add-mod' a g)) in
    (low, left)

-- What is left below the divisor is the remainder, and the rest the quotient.
pub parts : (a g q r : ℕ) → r < g → a ≡ q * g + r → (q ≡ a / g) × (r ≡ a % g)
parts a g q r h e = rw e (sym (digits_div q h), sym (digits_mod q h))

-- A number times 65535 / s has at bit 16 the quotient by s of the number before it, where it is at
-- most 4,096 and s at most 8.
pub by_share : (next share s : ℕ) → 1 ≤ s → s ≤ 8 → share ≡ 65535 / s → 1 ≤ next → next ≤ 4096 → next * share / 65536 ≡ (next - 1) / s
by_share next share zero h l e a b = absurd (omega arith)
by_share next share (suc zero) h l e a b = rw e (omega arith)
by_share next share (suc (suc zero)) h l e a b = rw e (omega arith)
by_share next share (suc (suc (suc zero))) h l e a b = rw e (omega arith)
by_share next share (suc (suc (suc (suc zero)))) h l e a b = rw e (omega arith)
by_share next share (suc (suc (suc (suc (suc zero))))) h l e a b = rw e (omega arith)
by_share next share (suc (suc (suc (suc (suc (suc zero)))))) h l e a b = rw e (omega arith)
by_share next share (suc (suc (suc (suc (suc (suc (suc zero))))))) h l e a b = rw e (omega arith)
by_share next share (suc (suc (suc (suc (suc (suc (suc (suc zero)))))))) h l e a b = rw e (omega arith)
by_share next share (suc (suc (suc (suc (suc (suc (suc (suc (suc s))))))))) h l e a b = absurd (omega arith)
