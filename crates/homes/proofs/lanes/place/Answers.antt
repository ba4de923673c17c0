use mathlib.Core.Path.{◌≡◌, refl, ap}
use Prim.Native.Nat.{ℕ, ◌*◌, ◌≤◌, ◌<◌}
use Rattle.homes.specs.declared.lane.Lane.{Lane}
use Rattle.homes.specs.Steps.Lanes.{lane_at, address_of, InGroup}
use Rattle.homes.proofs.Addresses.{at_fits, at_address}
use Rattle.homes.proofs.Rowed.{none, one, over, same}
use Rattle.homes.proofs.lanes.place.Goals as goal

-- a lane that is a page's is one of the groups', and has that page
placed : (G a : ℕ) (l : Lane) → 1 ≤ G → a < 4 * G → l ≡ lane_at G a → InGroup G l × (a ≡ address_of G l)
placed G a l h k e = rw e (at_fits G a h k, at_address G a)

pub loop-i-init : goal.loop-i-init
loop-i-init c = (none _ _ refl, none _ _ refl)

pub new-lane-requires : goal.new-lane-requires
new-lane-requires c =
    let start = c.before.before in
    (start.requires.0, start.requires.1, start.requires.2 c.loop-i.i c.loop-i-test.true)

pub loop-i-preserved : goal.loop-i-preserved
loop-i-preserved c =
    let inv = c.loop-i.invariant in
    let h = c.loop-i-test.true in
    let e = c.new-lane.ensures in
    (one _ _ _ _ inv.0 h (ap (λ (l : Lane). l.turn) e), one _ _ _ _ inv.1 h (ap (λ (l : Lane). l.group) e))

pub returns : goal.returns
returns c i h =
    let start = c.before.before in
    let inv = c.loop-i.invariant in
    let end = c.loop-i-test.false in
    (placed _ _ _ start.requires.0 (start.requires.2 i h) (same (over inv.0 end i h) (over inv.1 end i h)), refl)
