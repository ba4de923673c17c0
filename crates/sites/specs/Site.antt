-- A file as a search takes it.
use Rattle.std.specs.Prelude.{ℕ}
use Rattle.homes.specs.Homes.{Shape}

-- the pages lent, and what the homes of its keys depend on
pub record Site : Type 0 where
  pub cap : ℕ
  pub shape : Shape
