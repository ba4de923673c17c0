-- How a file grows into its last page: a key goes there exactly where its page gives and the step
-- takes it.
--
use mathlib.Core.Path.{◌≡◌, ap, ◌∙◌}
use mathlib.Core.Bool.{cond, ◌&&◌}
use lib.Dec.{leb}
use Prim.Native.Nat.{ℕ, ◌+◌, ◌-◌, ◌*◌, ◌%◌}
use native.Mathlib.Omega.{arith}
use Rattle.draws.specs.Draws.{seed_of, draw, later}
use Rattle.draws.specs.Steps.Powers.{power, limit}
use Rattle.draws.proofs.Draws.{by_table, limit_is}
use Rattle.homes.specs.declared.Params.{Params}
use Rattle.homes.specs.declared.Shape.{Shape}
use Rattle.homes.specs.declared.giving.Numbered.{Numbered}
use Rattle.homes.specs.Homes.{np, mover, home, InRange, Ready, shape_of}
use Rattle.homes.specs.Steps.Last.{last_of, Lasts}
use Rattle.homes.specs.Steps.Giving.{made_by, giving_of, Gives, gives_at, takes_key}
use Rattle.homes.proofs.Homes.{home_more}

-- By its last step, and the power and the limit from the tables, a file's last page is told.
pub giving_is : (shape : Shape) (last : Numbered) (d p l : ℕ) → Ready shape → last ≡ last_of shape → Lasts shape.params.n0 shape.p last → d ≡ later shape.params.edition → p ≡ power (last.x + d) → l ≡ limit last.stage.np → let t = made_by shape last p l in (t ≡ giving_of shape) × Gives t
unfolding giving_of
giving_is shape last d p l ranges e w later_is power_is is_limit =
    let power_by : p ≡ power (last.x + later shape.params.edition) = rw (← later_is) power_is in
    let limit_by : l ≡ limit (np shape.params.n0 last.x) = is_limit ∙ ap limit w.np_is in (
      rw (power_by, limit_by, e),
      record {
        s_low = ranges.s_low;
        s_high = ranges.s_high;
        groups = w.sound.0;
        more = w.sound.1;
        small = omega (arith, w.below, ranges.p_high);
        low = omega (arith, w.below);
        high = omega (arith, w.below, w.reach);
        number = last.x + d;
        power_is = power_is;
      },
    )

-- The step's draw by its power, and its limit, make those keys movers that 01 says.
takes_mover : (d n0 K x : ℕ) → leb (power (x + d) * seed_of K % 2147483647) (limit (np n0 x)) ≡ mover d n0 K x
unfolding mover
takes_mover d n0 K x = rw (by_table K (x + d)) (limit_is (draw (seed_of K) (x + d)) (np n0 x))

-- With page P more, a key's home becomes P where its home gives and the key is taken; else it stays.
pub given : (q : Params) (P K : ℕ) → InRange q P → home q (P + 1) K ≡ cond (gives_at (giving_of (shape_of q (P + 1))) (home q P K) && takes_key (giving_of (shape_of q (P + 1))) K) P (home q P K)
unfolding giving_of gives_at takes_key
given q P K r =
    let added : P + 1 - 1 ≡ P = omega arith in
    rw (added, takes_mover (later q.edition) q.n0 K (last_of (shape_of q (P + 1))).x) (home_more q P K r)
