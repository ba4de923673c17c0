-- Those of a list that pass a test, in their order.
use Rattle.std.specs.Prelude.{Bool, cond, List, [], ◌∷◌}

abbrev pub keep : {R : Type 0} → (R → Bool) → List R → List R
keep passes [] = []
keep passes (x ∷ s) = cond (passes x) (x ∷ keep passes s) (keep passes s)
