-- `homes::giving::Giving::first` meets its contract. The loop's invariant: a group that grows into
-- the added page is still to come.
use mathlib.Core.Path.{◌≡◌}
use Prim.Native.Nat.{ℕ, ◌-◌, ◌≤◌, ◌<◌}
use Rattle.homes.specs.Homes.{swept}
use Rattle.homes.proofs.giving.Giving.first.Given as goal

abbrev pub invariant-loop-group : goal.invariant-loop-group
invariant-loop-group l = (a : ℕ) × (a < l.groups) × (swept l.sweeps.s 0 l.groups (l.groups - 1 - a) ≡ l.behind) × (l.group ≤ a)
