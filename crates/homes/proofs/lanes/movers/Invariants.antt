-- `homes::lanes::movers` meets its contract. The loop's invariant: the places below i are 1 for the
-- movers.
use mathlib.Core.Bool.{cond}
use Prim.Native.Nat.{ℕ, ◌*◌, ◌/◌, ◌%◌}
use lib.Dec.{leb}
use lib.ListN.{get_or}
use Rattle.homes.proofs.Rowed.{Passed}
use Rattle.homes.proofs.lanes.movers.Given as goal

-- 1 for a doubled seed whose draw is at most the limit
abbrev pub moves_at : (power limit twice : ℕ) → ℕ
moves_at p l d = cond (leb (p * (d / 2) % 2147483647) l) 1 0

abbrev pub invariant-loop-i : goal.invariant-loop-i
invariant-loop-i l = Passed 16 (λ j. moves_at l.power l.limit (get_or l.seeds j 0)) l.moves l.i
