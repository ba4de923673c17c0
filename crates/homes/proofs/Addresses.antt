-- The lane of a page, and the page of a lane.
--
use mathlib.Core.Path.{◌≡◌, refl, sym}
use Prim.Native.Nat.{ℕ, ◌+◌, ◌*◌, ◌/◌, ◌%◌, ◌≤◌, ◌<◌}
use native.Mathlib.Nat.{mod-lt, div-add-mod', div-lt_iff_lt-mul, mul-le-mul_right, mul_assoc, add-mul}
use native.Mathlib.Omega.{arith}
use Rattle.homes.specs.declared.lane.Lane.{Lane}
use Rattle.homes.specs.Steps.Lanes.{lane_at, address_of, InGroup, regrouped}

-- The lane of a page below four times the groups is one of theirs,
pub at_fits : (G a : ℕ) → 1 ≤ G → a < 4 * G → InGroup G (lane_at G a)
at_fits G a h l =
    let turns : a / G < 4 = (div-lt_iff_lt-mul h).1 l in
    (omega arith, mod-lt a h)

-- and has that page.
pub at_address : (G a : ℕ) → a ≡ address_of G (lane_at G a)
at_address G a = sym (div-add-mod' a G)

-- A lane regrouped is one of twice as many groups,
pub regroup_fits : (G : ℕ) (l : Lane) → InGroup G l → InGroup (2 * G) (regrouped G l)
regroup_fits G l fits =
    let most : l.turn % 2 * G ≤ 1 * G = mul-le-mul_right G (omega arith) in
    (omega arith, omega (arith, most))

-- and has the same page.
pub regroup_address : (G : ℕ) (l : Lane) → address_of (2 * G) (regrouped G l) ≡ address_of G l
regroup_address G l =
    let halves : l.turn / 2 * (2 * G) + l.turn % 2 * G ≡ l.turn * G = rw (← mul_assoc (l.turn / 2) 2 G, ← add-mul (l.turn / 2 * 2) (l.turn % 2) G, div-add-mod' l.turn 2) refl in
    omega (arith, halves)
