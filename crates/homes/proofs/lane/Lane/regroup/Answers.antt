-- `homes::lane::Lane::regroup` meets its contract. The new group is below twice g, so it fits.
--
use Prim.Native.Nat.{◌*◌}
use native.Mathlib.Omega.{arith}
use Rattle.homes.specs.Steps.Lanes.{InGroup, regrouped}
use Rattle.homes.proofs.Addresses.{regroup_fits}
use Rattle.homes.proofs.lane.Lane.regroup.Goals as goal
use Rattle.homes.proofs.lane.Lane.regroup.Lts as lts
use Rattle.homes.proofs.lane.Lane.regroup.Reads as reads

-- the lane that comes of it
fits : (c : lts.Start reads.Pre reads.Post) → InGroup (2 * c.args.g) (regrouped c.args.g c.args.self)
fits c = regroup_fits c.args.g c.args.self c.requires.1

pub overflow_mul-result : goal.overflow_mul-result
overflow_mul-result c = omega (arith, fits c.before.before)

pub overflow_add-result : goal.overflow_add-result
overflow_add-result c = omega (arith, fits c.before.before.before)
