-- Remainders by a number m of at most 256, without a division by it.
--
use mathlib.Core.Path.{◌≡◌, refl, sym, ap, ◌∙◌}
use Prim.Native.Nat.{ℕ, ◌+◌, ◌-◌, ◌*◌, ◌/◌, ◌%◌, ◌≤◌, ◌<◌}
use native.Mathlib.Nat.{le_trans, mul-le-mul, mul-le-mul_left, mul-le-mul_right, le_of_mul-le-mul_right, mul-add, add-mul, one-mul, mul_assoc, mul_comm, mul_right_comm, mod-lt, mod-add-div', div-mul-le_self, lt-div-mul-add, div-eq_of_lt-le, mod-eq-sub-div-mul, add-mul-mod_self_right}
use native.Mathlib.Omega.{arith}
use Rattle.homes.specs.declared.starts.Start.{Start}
use Rattle.homes.specs.Steps.Starts.{start_of}

-- Of a number m, and of `by` = (2^34 - 1) / m:
module _ (m by : ℕ) (low : 1 ≤ m) (is : by ≡ 17179869183 / m) where
  -- `by` times m is below 2^34,
  by_below : by * m ≤ 17179869183
  by_below = rw is (div-mul-le_self 17179869183 m)

  -- and at most m away from it.
  by_near : 17179869184 ≤ by * m + m
  by_near = rw is (lt-div-mul-add low)

  module _ (high : m ≤ 256) (x : ℕ) (small : x < 67108864) where
    -- The product of x + 1 with `by` is below what the next quotient has at bit 34,
    upper : (x + 1) * by ≤ (x / m + 1) * 17179869183
    upper =
        let past : x + 1 ≤ (x / m + 1) * m = rw (add-mul (x / m) 1 m, one-mul m) (omega (arith, lt-div-mul-add {a = x} {b = m} low)) in
        le_trans (mul-le-mul_right by past) (rw (mul_assoc (x / m + 1) m by, mul_comm m by) (mul-le-mul_left (x / m + 1) by_below))

    -- and not below what the quotient of x has there.
    lower : x / m * 17179869184 ≤ (x + 1) * by
    lower =
        let near : (x + 1) * 17179869184 ≤ (x + 1) * (by * m) + (x + 1) * m = rw (← mul-add (x + 1) (by * m) m) (mul-le-mul_left (x + 1) by_near) in
        let wide : (x + 1) * m ≤ 67108864 * 256 = mul-le-mul {n₂ = 67108864} {m₂ = 256} (omega arith) high in
        let times : x / m * 17179869184 * m ≤ (x + 1) * by * m = rw (mul_right_comm (x / m) 17179869184 m, mul_assoc (x + 1) by m) (omega (arith, div-mul-le_self x m)) in
        le_of_mul-le-mul_right times low

    -- So it has the quotient of x by m there,
    pub quotient : (x + 1) * by / 17179869184 ≡ x / m
    quotient = div-eq_of_lt-le 17179869184 lower (omega (arith, upper))

    -- and what this leaves of x is the remainder.
    pub remainder : x - (x + 1) * by / 17179869184 * m ≡ x % m
    remainder = rw quotient (sym (mod-eq-sub-div-mul x m))

-- A number leaves the same where each b in it counts w, which is b less some times m.
kept : (k b w t m : ℕ) → b ≡ w + t * m → (k % b + k / b * w) % m ≡ k % m
kept k b w t m e =
    let high : k / b * b ≡ k / b * w + k / b * t * m = ap (λ (z : ℕ). k / b * z) e ∙ mul-add (k / b) w (t * m) ∙ ap (λ (z : ℕ). k / b * w + z) (sym (mul_assoc (k / b) t m)) in
    let parts : k ≡ k % b + k / b * w + k / b * t * m = omega (arith, mod-add-div' k b) in
    sym (ap (λ (z : ℕ). z % m) parts ∙ add-mul-mod_self_right (k % b + k / b * w) (k / b * t) m)

-- Of the remainder of a key:
module _ (s : Start) (ready : (1 ≤ s.m) × (s.m ≤ 256) × (s ≡ start_of s.m)) (key : ℕ) (fits : key < 18446744073709551616) where
  -- What 2^34 counts is 2^34 less some times m,
  of_34 : 17179869184 ≡ s.of_34 + 17179869183 / s.m * s.m
  of_34 = omega (arith, ap (λ (u : Start). u.of_34) ready.2, div-mul-le_self 17179869183 s.m)

  -- and what 2^24 counts is 2^24 less some times m.
  of_24 : 16777216 ≡ s.of_24 + 16777216 / s.m * s.m
  of_24 = omega (arith, ap (λ (u : Start). u.of_24) ready.2, mod-add-div' 16777216 s.m)

  -- the key with its 2^34s counted so
  abbrev pub near : ℕ
  near = key % 17179869184 + key / 17179869184 * s.of_34

  -- and then with its 2^24s counted so
  abbrev pub nearer : ℕ
  nearer = near % 16777216 + near / 16777216 * s.of_24

  -- The first product
  pub near_high : key / 17179869184 * s.of_34 ≤ 1073741824 * 256
  near_high = mul-le-mul {n₂ = 1073741824} {m₂ = 256} (omega arith) (omega (arith, of_34, by_near s.m _ ready.0 refl))

  -- and the second are small,
  pub nearer_high : near / 16777216 * s.of_24 ≤ 17408 * 256
  nearer_high = mul-le-mul {n₂ = 17408} {m₂ = 256} (omega (arith, near_high)) (omega (arith, ap (λ (u : Start). u.of_24) ready.2, mod-lt 16777216 ready.0))

  -- and the remainder stays.
  pub nearer_same : nearer % s.m ≡ key % s.m
  nearer_same = kept near 16777216 s.of_24 _ s.m of_24 ∙ kept key 17179869184 s.of_34 _ s.m of_34
