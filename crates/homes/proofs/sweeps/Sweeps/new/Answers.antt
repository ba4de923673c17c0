-- `homes::sweeps::Sweeps::new` meets its contract: the table is that of its rule, as is computed,
-- and the row before g + 1 is g by s.
--
use mathlib.Core.Path.{◌≡◌, ◌∙◌}
use mathlib.Core.List.{List}
use Prim.Native.Nat.{ℕ, ◌+◌, ◌-◌, ◌*◌, ◌/◌, ◌%◌, ◌≤◌}
use native.Mathlib.Omega.{arith}
use lib.ListN.{get_or}
use Rattle.homes.proofs.Quotients.{remains, by_share}
use Rattle.draws.proofs.Table.{table, at}
use Rattle.homes.proofs.sweeps.Sweeps.new.Goals as goal

-- the table
abbrev shares : List ℕ
shares = table (λ s. 65535 / s) 9

-- its entry for s is 65535 by s
share_is : (s : ℕ) → s ≤ 8 → get_or shares s 0 ≡ 65535 / s
share_is s l = at (λ k. 65535 / k) 9 s (omega arith)

-- the groups of each sweep
each_is : (c : goal.After-row_before-each) → c.row_before-each.result ≡ c.args.g / c.args.s
each_is c =
    let at = c.args in
    let one : at.g + 1 - 1 ≡ at.g = omega arith in
    rw one at (c.row_before-each.ensures ∙ by_share (at.g + 1) _ at.s c.requires.0 c.requires.1 (share_is at.s c.requires.1) (omega arith) (omega arith))

-- and what they leave
leaves : (c : goal.After-row_before-each) → let at = c.args in let q = c.row_before-each.result in (q * at.s ≤ at.g) × (at.g - q * at.s ≡ at.g % at.s)
leaves c = remains c.args.g c.args.s c.row_before-each.result (each_is c)

pub overflow_mul-result : goal.overflow_mul-result
overflow_mul-result c = omega (arith, leaves c)

pub overflow_sub-result : goal.overflow_sub-result
overflow_sub-result c = (leaves c).0

pub returns : goal.returns
returns c =
    let share : get_or shares c.args.s 0 ≡ 65535 / c.args.s = share_is c.args.s c.requires.1 in
    λ i. record { s = c.args.s; share = share i; each = each_is c i; more = (leaves c).1 i }
