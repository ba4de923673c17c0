-- Which of the two files an answer is about, in numbers.
use Rattle.std.specs.Prelude.{ℕ}
use Rattle.sites.specs.declared.Which.{Which}
use Rattle.sites.specs.declared.Which.TheVariants.{First, Second}

abbrev pub file_of : Which → ℕ
file_of First = 1
file_of Second = 2
