-- `homes::lane::Lane::new` meets its contract: the group is what the turn leaves of the page.
--
use mathlib.Core.Path.{◌≡◌}
use Prim.Native.Nat.{◌-◌, ◌*◌, ◌%◌, ◌≤◌}
use native.Mathlib.Omega.{arith}
use Rattle.homes.proofs.Quotients.{remains}
use Rattle.homes.proofs.Rowed.{same}
use Rattle.homes.proofs.lane.Lane.new.Goals as goal

-- what the turn leaves
leaves : (c : goal.After-turn_of-turn) → let at = c.args in let q = c.turn_of-turn.result in (q * at.g ≤ at.page) × (at.page - q * at.g ≡ at.page % at.g)
leaves c = remains c.args.page c.args.g c.turn_of-turn.result c.turn_of-turn.ensures

pub overflow_mul-result : goal.overflow_mul-result
overflow_mul-result c = omega (arith, leaves c)

pub overflow_sub-result : goal.overflow_sub-result
overflow_sub-result c = (leaves c).0

pub returns : goal.returns
returns c = same c.turn_of-turn.ensures (leaves c).1
