use mathlib.Core.Path.{◌≡◌}
use mathlib.Core.List.{List}
use Prim.Native.Nat.{ℕ, ◌≤◌, ◌<◌, ◌+◌, ◌-◌, ◌*◌, ◌^◌}
use native.Mathlib.Nat.{sub_self, pow-suc, pow-le-pow_right}
use native.Mathlib.Numerals.{add-one}
use native.Mathlib.Omega.{arith}
use lib.ListN.{length, get_or}
use Rattle.numbers.specs.Little.{little, number_at}
use Rattle.numbers.proofs.Laws.{number_cons}
use Rattle.numbers.proofs.get_bytes.Goals as goal

pub loop-i-init : goal.loop-i-init
unfolding number_at little
loop-i-init c = (rw sub_self (omega arith), rw sub_self)

-- before a turn the number has seven bytes at most
room : (r n : ℕ) → n < 8 → r < 256 ^ n → r < 256 ^ 7
room r n h b =
    let p : 256 ^ n ≤ 256 ^ 7 = pow-le-pow_right (omega arith) {j = 7} (omega arith) in
    omega arith

pub overflow_mul-r : goal.overflow_mul-r
overflow_mul-r c = omega (arith, room c.loop-i.r _ (omega arith) c.loop-i.invariant.0)

-- so there is room for one byte more
pub overflow_add-r-in-loop-i : goal.overflow_add-r-in-loop-i
overflow_add-r-in-loop-i c =
    omega (arith, room c.loop-i.r _ (omega arith) c.loop-i.invariant.0, c.type_inv.s (c.args.at + (c.loop-i.i - 1)))

-- a turn puts one byte more in front
turn : (s : List ℕ) (at i n r : ℕ) → 0 < i → at + i ≤ length s → r ≡ number_at n s (at + i)
    → r * 256 + get_or s (at + (i - 1)) 0 ≡ number_at (n + 1) s (at + (i - 1))
turn s at i n r t h e =
    let j : at + (i - 1) + 1 ≡ at + i = omega arith in
    rw (number_cons n s (at + (i - 1)) (omega arith), j) (omega arith)

pub loop-i-preserved : goal.loop-i-preserved
loop-i-preserved c =
    let l = c.loop-i in
    let n : ℕ = c.args.width - l.i in
    let e : c.args.width - (l.i - 1) ≡ n + 1 = omega arith in
    let p : 256 ^ (n + 1) ≡ 256 ^ n * 256 = rw add-one (pow-suc 256 n) in
    rw e (omega (arith, p, c.type_inv.s (c.args.at + (l.i - 1))), turn c.args.s.now c.args.at l.i n l.r (omega arith) (omega arith) l.invariant.1)
