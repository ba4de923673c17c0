-- The sweeps over a step's groups as the code holds them. A step between code and definition.
use Rattle.std.specs.Prelude.{ℕ, ◌/◌, ◌%◌}
use Rattle.homes.specs.declared.sweeps.Sweeps.{Sweeps}

-- s sweeps over G groups: "G div s" and "G mod s", and a number for division by s
abbrev pub sweeps_of : (s G : ℕ) → Sweeps
sweeps_of s G = record { s = s; share = 65535 / s; each = G / s; more = G % s }
