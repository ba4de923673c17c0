-- `homes::giving::Giving::takes` meets its contract.
use mathlib.Core.Path.{◌≡◌}
use Prim.Native.Nat.{◌*◌, ◌/◌}
use native.Mathlib.Omega.{arith}
use Rattle.draws.specs.Draws.{seed_of}
use Rattle.homes.specs.Steps.Giving.{takes_key}
use Rattle.homes.proofs.Turn.{draws}
use Rattle.homes.proofs.giving.Giving.takes.Goals as goal

pub draw-requires : goal.draw-requires
draw-requires c = draws c.args.key c.requires.number _ _ c.requires.power_is c.twice_seed.ensures

pub returns : goal.returns
unfolding takes_key
returns c =
    let key = c.args.key in
    let half : 2 * seed_of key / 2 ≡ seed_of key = omega arith in
    rw (c.draw.ensures, c.twice_seed.ensures, half)
