use mathlib.Core.Path.{◌≡◌, refl, sym, ap, ◌∙◌}
use Prim.Native.Nat.{ℕ, ◌*◌}
use Rattle.homes.specs.declared.lane.Lane.{Lane}
use Rattle.homes.specs.Steps.Lanes.{address_of, InGroup, regrouped}
use Rattle.homes.proofs.Addresses.{regroup_fits, regroup_address}
use Rattle.homes.proofs.Rowed.{none, one, over, same}
use Rattle.homes.proofs.lanes.regroup.Goals as goal

-- a lane that is another's regrouped is one of twice the groups, and has that page
placed : (G a : ℕ) (l r : Lane) → InGroup G l × (a ≡ address_of G l) → r ≡ regrouped G l → InGroup (2 * G) r × (a ≡ address_of (2 * G) r)
placed G a l r h e = rw e (regroup_fits G l h.0, h.1 ∙ sym (regroup_address G l))

pub loop-i-init : goal.loop-i-init
loop-i-init c = (none _ _ refl, none _ _ refl)

pub regroup-new-requires : goal.regroup-new-requires
regroup-new-requires c =
    let start = c.before.before.before.before.before in
    (start.requires.0, (start.requires.1 c.loop-i.i c.loop-i-test.true).0)

pub loop-i-preserved : goal.loop-i-preserved
loop-i-preserved c =
    let inv = c.loop-i.invariant in
    let h = c.loop-i-test.true in
    let e = c.regroup-new.ensures in
    (one _ _ _ _ inv.0 h (ap (λ (l : Lane). l.turn) e), one _ _ _ _ inv.1 h (ap (λ (l : Lane). l.group) e))

pub returns : goal.returns
returns c i h =
    let start = c.before.before.before.before.before in
    let inv = c.loop-i.invariant in
    let end = c.loop-i-test.false in
    (placed _ _ _ _ (start.requires.1 i h) (same (over inv.0 end i h) (over inv.1 end i h)), refl)
