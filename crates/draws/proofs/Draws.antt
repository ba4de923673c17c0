-- The draws of a key, by the powers of 16807: draw x is power x times the seed, modulo 2147483647.
-- No draw is 0.
--
use mathlib.Core.Path.{◌≡◌, sym, ap, ◌∙◌}
use mathlib.Core.Logic.{⊎_elim}
use Prim.Native.Nat.{ℕ, zero, suc, ◌+◌, ◌-◌, ◌*◌, ◌/◌, ◌%◌, ◌<◌}
use native.Mathlib.Nat.{add-mul, mul_assoc, mul_comm, mul_right_comm, mod-add-div', add-mul-mod_self_right, le-div_iff_mul-le, div-lt_iff_lt-mul}
use native.Mathlib.Omega.{arith}
use borrow.Author.Tests.{le-leb, lt-leb}
use lib.Dec.{leb}
use Rattle.draws.specs.Draws.{seed_of, draw}
use Rattle.draws.specs.Steps.Powers.{power, limit, Drawable}
use Rattle.draws.proofs.Split.{split}

-- Every draw is below its modulus, the seed too.
pub draw_below : (K x : ℕ) → draw (seed_of K) x < 2147483647
unfolding draw
draw_below K zero = omega arith
draw_below K (suc x) = omega arith

-- 16807 has an inverse, so no draw but 0 is followed by 0.
next_pos : (d : ℕ) → 0 < d → d < 2147483647 → 0 < 16807 * d % 2147483647
next_pos d l h =
    ⊎_elim
    (λ pos. pos)
    (λ none. let times : d ≡ 2147483647 * (1407677000 * (16807 * d / 2147483647) - 11017 * d) = omega arith in absurd (omega arith))
    (split 0 (16807 * d % 2147483647))

-- No draw is 0.
pub draw_pos : (K x : ℕ) → 0 < draw (seed_of K) x
unfolding draw
draw_pos K zero = omega arith
draw_pos K (suc x) = next_pos (draw (seed_of K) x) (draw_pos K x) (draw_below K x)

-- Every power is below the modulus.
pub power_below : (x : ℕ) → power x < 2147483647
unfolding draw
power_below zero = omega arith
power_below (suc x) = omega arith

-- A factor may be replaced by its remainder.
mod-mul-mod : (a b m : ℕ) → a % m * b % m ≡ a * b % m
mod-mul-mod a b m =
    let parts : a * b ≡ a % m * b + a / m * b * m = ap (λ (z : ℕ). z * b) (sym (mod-add-div' a m)) ∙ add-mul (a % m) (a / m * m) b ∙ ap (λ (z : ℕ). a % m * b + z) (mul_right_comm (a / m) m b) in
    sym (ap (λ (z : ℕ). z % m) parts ∙ add-mul-mod_self_right (a % m * b) (a / m * b) m)

-- A power times the seed leaves the draw.
pub by_table : (K x : ℕ) → power x * seed_of K % 2147483647 ≡ draw (seed_of K) x
unfolding draw
by_table K zero = omega arith
by_table K (suc x) =
    let z = power x * seed_of K in
    rw (mod-mul-mod (16807 * power x) (seed_of K) 2147483647, mul_assoc 16807 (power x) (seed_of K), mul_comm 16807 z, ← mod-mul-mod z 16807 2147483647, by_table K x)
    (ap (λ (y : ℕ). y % 2147483647) (mul_comm (draw (seed_of K) x) 16807))

-- The same of the doubled seed, of which draws are made,
pub drawn : (K x : ℕ) → power x * (2 * seed_of K / 2) % 2147483647 ≡ draw (seed_of K) x
drawn K x = let half : 2 * seed_of K / 2 ≡ seed_of K = omega arith in rw half (by_table K x)

-- and every power may be used with it.
pub drawable : (K x : ℕ) → Drawable (2 * seed_of K) (power x)
drawable K x = (omega arith, omega arith, power_below x, rw (drawn K x) (draw_pos K x))

-- A draw is at most the limit where its product with n + 1 is at most the modulus.
pub limit_is : (d n : ℕ) → leb d (limit n) ≡ leb (d * (n + 1)) 2147483647
limit_is d n =
    ⊎_elim
    (λ over. lt-leb d (limit n) over ∙ sym (lt-leb (d * (n + 1)) 2147483647 ((div-lt_iff_lt-mul (omega arith)).0 over)))
    (λ within. le-leb d (limit n) within ∙ sym (le-leb (d * (n + 1)) 2147483647 ((le-div_iff_mul-le (omega arith)).0 within)))
    (split (limit n) d)
