-- Draws from a table of powers. A step between code and definition.
use Rattle.std.specs.Prelude.{ℕ, ◌+◌, ◌*◌, ◌/◌, ◌%◌, ◌<◌, ◌≡◌}
use Rattle.draws.specs.Draws.{draw}

-- power x of 16807: power 0 is 1, and each next 16807 times the last, modulo 2147483647. So it is
-- draw x of the seed 1.
abbrev pub power : ℕ → ℕ
power x = draw 1 x

-- the largest draw d with d times (np + 1) at most 2147483647
abbrev pub limit : ℕ → ℕ
limit np = 2147483647 / (np + 1)

-- A doubled seed and a power below the modulus, whose draw isn't 0.
abbrev pub Drawable : (twice power : ℕ) → Type 0
Drawable twice p = (twice % 2 ≡ 0) × (twice < 4294967296) × (p < 2147483647) × (0 < p * (twice / 2) % 2147483647)
