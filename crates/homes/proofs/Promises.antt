-- What is promised of the homes holds.
--
use Prim.Native.Nat.{ℕ, ◌+◌, ◌*◌}
use mathlib.Core.Path.{◌≡◌, refl}
use native.Mathlib.Omega.{arith}
use lib.Dec.{leb}
use Rattle.draws.specs.Draws.{seed_of, draw, later}
use Rattle.homes.specs.Homes.{np, mover}
use Rattle.homes.specs.Promises.{HomesPromises}
use Rattle.homes.proofs.New.{new_low, new_high}
use Rattle.homes.proofs.Filled.{new_one, new_onto}
use Rattle.draws.proofs.Draws.{by_table}
use Rattle.homes.proofs.Forty as Forty
use Rattle.homes.proofs.Homes as Homes

mover_1 : (n0 K x : ℕ) → mover (later 1) n0 K x ≡ leb (draw (seed_of K) x * (np n0 x + 1)) 2147483647
unfolding mover
mover_1 n0 K x = let e : x + 0 ≡ x = omega arith in rw e

mover_2 : (n0 K x : ℕ) → mover (later 2) n0 K x ≡ leb (draw (seed_of K) (x + 10) * (np n0 x + 1)) 2147483647
unfolding mover
mover_2 n0 K x = refl

pub homes_promises : HomesPromises
homes_promises =
    record {
      one_step = by_table;
      edition_1 = mover_1;
      edition_2 = mover_2;
      whole_loop = Forty.whole;
      forty = Forty.forty;
      home_below = Homes.home_below;
      home_grown = Homes.home_grown;
      new_range = λ s F G a hs h_g. (new_low s F G a, new_high s F G a hs h_g);
      new_differ = new_one;
      new_fill = new_onto;
    }
