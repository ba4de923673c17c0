-- What format and grow come to where they are refused by numbers, and where the records decide.
use mathlib.Core.Path.{◌≡◌, refl}
use mathlib.Core.Bool.{Bool, true, false}
use mathlib.Core.List.{List}
use Prim.Native.Nat.{ℕ, ◌*◌, ◌≤◌, ◌<◌}
use native.Mathlib.Omega.{arith}
use lib.ListN.{length}
use Rattle.std.proofs.Common.{Err}
use Rattle.layouts.specs.Layout.{in_use}
use Rattle.homes.specs.declared.Params.{Params}
use Rattle.homes.specs.Homes.{first_pages}
use Rattle.state.specs.declared.State.{State}
use Rattle.state.specs.declared.Refusal.TheVariants.{OutOfRange, NoRoom}
use Rattle.state.specs.Done.{done}
use Rattle.state.specs.State.{in_range, fresh, grown}
use Rattle.state.specs.Promises.{Ranged}
use Rattle.state.proofs.Ranges.{ranged}
use Rattle.register.specs.Calls.{formatted, has_room, remade, grow_open}
use Rattle.gates.proofs.Gating.{range_shut}

-- more pages than 16 bits count are out of range
wide_range : (q : Params) (cap : ℕ) → 65535 < first_pages q → cap < 65536 → in_range in_use (fresh q cap) ≡ false
wide_range q cap w l = go (in_range in_use (fresh q cap)) refl
  where
    go : (u : Bool) → in_range in_use (fresh q cap) ≡ u → u ≡ false
    go false e = refl
    go true e = absurd (let r : Ranged in_use (fresh q cap) = ranged in_use (fresh q cap) e in omega (arith, r.p_high))

-- past its gate a format has pages to clear
pub fresh_fits : (q : Params) (cap n : ℕ) (f : State) → f ≡ fresh q cap → in_range in_use f ≡ true → n ≡ 256 * f.cap → (cap ≤ 4096) × (n ≡ 256 * cap)
fresh_fits q cap n f k e l =
    let r : Ranged in_use f = ranged in_use f e in
    let c : f.cap ≡ cap = rw k in
    (omega arith, omega arith)

-- and so a format of them gives back the old state and the old area
pub format_wide : (old : State) (q : Params) (cap : ℕ) (area : List ℕ) → 65535 < first_pages q → cap < 65536
    → let o = formatted in_use old q cap area in (done old (Err OutOfRange) ≡ o.done) × (area ≡ o.area)
format_wide old q cap area w l = rw (← range_shut in_use (fresh q cap) (length area) (wide_range q cap w l)) (refl, refl)

-- a growth of an image, by what there is room for
module _ (s : State) (area : List ℕ) where
  pub grows_full : has_room in_use s (grown s) area ≡ false → let o = grow_open in_use s area in (done s (Err (NoRoom s.cap)) ≡ o.done) × (area ≡ o.area)
  unfolding grow_open
  grows_full r = rw r (refl, refl)

  pub grows_on : has_room in_use s (grown s) area ≡ true → grow_open in_use s area ≡ remade in_use s (grown s) area
  unfolding grow_open
  grows_on r = rw r
