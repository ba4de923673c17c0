-- The draws of a key (01, 'Where a key lives'), and which of them a step takes in each edition (02,
-- request 4). What is quoted is 01's, or 02's where that is said.
use Rattle.std.specs.Prelude.{ℕ, zero, suc, ◌+◌, ◌*◌, ◌%◌, cond, eqb}

-- "seed = (K mod 2147483646) + 1"
abbrev pub seed_of : ℕ → ℕ
seed_of K = K % 2147483646 + 1

-- "draw 1 = 16807 x seed mod 2147483647, each next draw 16807 times the last, same modulus"; draw 0
-- is the seed
unfoldable pub draw : ℕ → ℕ → ℕ
draw seed zero = seed
draw seed (suc x) = 16807 * draw seed x % 2147483647

-- 02, request 4: "From the new edition on, step x uses draw x + 10", and in edition 1 draw x: how
-- many draws after draw x
abbrev pub later : (edition : ℕ) → ℕ
later edition = cond (eqb edition 2) 10 0
