-- `homes::sweeps::Sweeps::target` meets its contract: the row is the order of growth by s, and the
-- rest is the sweeps' sum.
--
use mathlib.Core.Path.{◌≡◌, ap, ◌∙◌}
use Prim.Native.Nat.{ℕ, ◌+◌, ◌-◌, ◌*◌, ◌/◌, ◌%◌, ◌≤◌, ◌<◌, min}
use native.Mathlib.Omega.{arith}
use Rattle.homes.specs.declared.sweeps.Sweeps.{Sweeps}
use Rattle.homes.specs.Homes.{swept}
use Rattle.homes.proofs.New.{swept_high}
use Rattle.homes.proofs.Quotients.{remains, by_share}
use Rattle.homes.proofs.sweeps.Sweeps.target.Goals as goal
use Rattle.homes.proofs.sweeps.Sweeps.target.Goals.{After-row_before-row, After-min-least}

-- The sum is the sweeps', and below g.
sums : (s g each more k row w least : ℕ) → 0 < s → k < g → each ≡ g / s → more ≡ g % s → row ≡ k / s → w ≡ k % s → least ≡ min w more → (w * each + least + row ≡ swept s 0 g k) × (w * each + least + row < g)
unfolding swept
sums s g each more k row w least h l a b c d e =
    let least_is : least ≡ min (k % s) (g % s) = rw (← d, ← b) e in
    let is : w * each + least + row ≡ swept s 0 g k = rw (a, c, d, least_is) (omega arith) in
    (is, omega (arith, swept_high s 0 g k h l))

-- A row of the number before `next`, and what is left of it there.
rest : (s k next row : ℕ) → next ≡ k + 1 → row ≡ (next - 1) / s → (row ≡ k / s) × (row * s ≤ k) × (next - row * s - 1 ≡ k % s)
rest s k next row e r =
    let before : next - 1 ≡ k = omega arith in
    let row_is : row ≡ k / s = rw before at r in
    let left = remains k s row row_is in
    (row_is, left.0, omega (arith, left))

-- the number of the group in order of growth
abbrev order : After-row_before-row → ℕ
order c = c.args.g - 1 - c.args.group

-- what is left of it in its row
abbrev over : After-row_before-row → ℕ
over c = c.args.g - c.args.group - c.row_before-row.result * c.args.self.s - 1

-- the row that the call gives is the right one
row_is : (c : After-row_before-row) → let s = c.args.self.s in let row = c.row_before-row.result in (row ≡ order c / s) × (row * s ≤ order c) × (over c ≡ order c % s)
row_is c = rest c.args.self.s (order c) (c.args.g - c.args.group) c.row_before-row.result (omega arith) (c.row_before-row.ensures ∙ by_share _ _ _ c.requires.0 c.requires.1 (ap (λ (w : Sweeps). w.share) c.requires.2) (omega arith) (omega arith))

-- the result
result_is : (c : After-min-least) → let at = c.args in let t = c.before.before in let r = over t * at.self.each + c.min-least.result + c.row_before-row.result in (r ≡ swept at.self.s 0 at.g (order t)) × (r < at.g)
result_is c =
    let t = c.before.before in
    let self = c.args.self in
    let e = c.requires.2 in
    sums self.s c.args.g self.each self.more (order t) t.row_before-row.result (over t) c.min-least.result c.requires.0 (omega arith) (ap (λ (w : Sweeps). w.each) e) (ap (λ (w : Sweeps). w.more) e) (row_is t).0 (row_is t).2 c.min-least.ensures

pub overflow_mul-result : goal.overflow_mul-result
overflow_mul-result c = omega (arith, result_is c.before)

pub returns : goal.returns
returns c = let all = result_is c.before in record { value = all.0; within = all.1 }

pub overflow_sub-w : goal.overflow_sub-w
overflow_sub-w c = omega (arith, row_is c.before)

pub overflow_sub-w-2 : goal.overflow_sub-w-2
overflow_sub-w-2 c = omega (arith, row_is c.before)

pub overflow_add-result : goal.overflow_add-result
overflow_add-result c = omega (arith, result_is c.before)

pub overflow_add-result-2 : goal.overflow_add-result-2
overflow_add-result-2 c = omega (arith, result_is c.before)
