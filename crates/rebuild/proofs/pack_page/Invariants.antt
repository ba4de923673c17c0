-- The entries of the first i records are written. It is said of any homes that stand in the row, since the
-- loop doesn't see the shape.
use mathlib.Core.Path.{◌≡◌}
use Prim.Native.Nat.{ℕ, ◌<◌}
use lib.ListN.{get_or}
use Rattle.numbers.specs.Little.{written}
use Rattle.rebuild.proofs.Packing.{rows}
use Rattle.rebuild.proofs.pack_page.Given as goal

abbrev pub invariant-loop-i : goal.invariant-loop-i
invariant-loop-i l = (h : ℕ → ℕ) → ((j : ℕ) → j < l.page.count → get_or l.homes j 0 ≡ h (get_or l.page.keys j 0))
    → l.area ≡ written l.initial.area l.at (rows h l.a l.i l.page.keys l.page.values l.page.runs)
