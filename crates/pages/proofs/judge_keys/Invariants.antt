-- `pages::judge_keys` meets its contract. The loop's invariant says what is left to judge, and to
-- store of homes, for any records with these keys.
use mathlib.Core.Path.{◌≡◌}
use mathlib.Core.List.{List, map}
use Prim.Native.Nat.{ℕ, ◌<◌, ◌^◌}
use lib.ListN.{length}
use Rattle.placing.specs.Lay.{ranked}
use Rattle.pages.specs.Page.{Record, key, padded}
use Rattle.pages.proofs.Judging.{Found, ToJudge}
use Rattle.pages.proofs.judge_keys.Given as goal

abbrev pub invariant-loop-i : goal.invariant-loop-i
invariant-loop-i l = (l.last.key < 2 ^ 64)
    × ((rs : List Record) → l.count ≡ length rs → l.keys ≡ padded (map key rs) → (h : ℕ → ℕ) → Found h l.count l.keys l.found
    → ToJudge h l.address rs l.homes (ranked l.last.home l.last.key) l.i)
