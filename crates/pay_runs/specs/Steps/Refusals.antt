-- The numbers of a run's refusals in the code.
use Rattle.std.specs.Prelude.{ℕ}
use Rattle.pay_runs.specs.declared.RunRefusal.{RunRefusal}
use Rattle.pay_runs.specs.declared.RunRefusal.TheVariants.{NotPuts, NoRoom}

abbrev pub refusal_of : RunRefusal → ℕ
refusal_of NotPuts = 10
refusal_of NoRoom = 15
