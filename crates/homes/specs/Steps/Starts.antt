-- Remainders by m without a division by it. A step between code and definition.
use Rattle.std.specs.Prelude.{ℕ, ◌-◌, ◌*◌, ◌/◌, ◌%◌}
use Rattle.homes.specs.declared.starts.Start.{Start}

-- how they are found: 2^34 - 1 by m, what m leaves of 2^24, and what it leaves of 2^34, or m where
-- that is 0
abbrev pub start_of : ℕ → Start
start_of m = record { m = m; by = 17179869183 / m; of_24 = 16777216 % m; of_34 = 17179869184 - 17179869183 / m * m }
