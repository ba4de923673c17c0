-- `merges::merge_open` meets its contract.
use mathlib.Core.Path.{◌≡◌, refl, sym, ap, ◌∙◌}
use mathlib.Core.List.{List, ◌∷◌}
use Prim.Native.Nat.{ℕ, zero, suc, ◌≤◌}
use native.Mathlib.Omega.{arith}
use lib.ListN.{length, take, replicate, length-replicate}
use Rattle.layouts.specs.Layout.{in_use}
use Rattle.state.proofs.Ranges.{ranged}
use Rattle.merges.proofs.merge_open.Goals as goal
use Rattle.merges.proofs.merge_open.Lts as lts
use Rattle.merges.proofs.merge_open.Reads as reads
use Rattle.merges.proofs.merge_open.Tie as tie

-- the counts that are lent are so many zeros
zeros : (m n : ℕ) → n ≤ m → take n (replicate m 0) ≡ replicate {A = ℕ} n 0
zeros m zero l = refl
zeros zero (suc n) l = absurd (omega arith)
zeros (suc m) (suc n) l = ap (λ (s : List ℕ). 0 ∷ s) (zeros m n (omega arith))

pub slice_bounds-counts-end : goal.slice_bounds-counts-end
slice_bounds-counts-end c =
    let s = c.before.before.before.before.before.before.before in
    (ranged in_use s.args.state s.requires.0.0).cap_high

-- as many as there are pages
lent : (c : lts.After-counts tie.the-claims reads.Pre reads.Post) → let s = c.before.before.before.before.before.before.before in take s.args.state.cap (replicate 4096 0) ≡ replicate {A = ℕ} s.args.state.cap 0
lent c =
    let s = c.before.before.before.before.before.before.before in
    zeros 4096 s.args.state.cap (ranged in_use s.args.state s.requires.0.0).cap_high

pub slice_bounds-settle-end : goal.slice_bounds-settle-end
slice_bounds-settle-end c = sym (ap length (lent c.before) ∙ length-replicate _ 0)

pub settle-requires : goal.settle-requires
settle-requires c =
    let s = c.before.before.before.before.before.before.before.before in
    (s.requires.0, s.requires.1, s.requires.2, lent c.before)
