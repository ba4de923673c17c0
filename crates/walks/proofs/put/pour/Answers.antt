use mathlib.Core.Path.{◌≡◌, refl, sym, ◌∙◌}
use mathlib.Core.Bool.{true}
use Prim.Native.Nat.{◌+◌, ◌*◌, ◌≤◌}
use native.Mathlib.Omega.{arith}
use lib.ListN.{length}
use Rattle.layouts.specs.Layout.{in_use}
use Rattle.homes.specs.Homes.{home_in}
use Rattle.pages.specs.Page.{rank}
use Rattle.pages.specs.Places.{ahead}
use Rattle.pages.specs.Area.{part_at}
use Rattle.pages.proofs.Read.{length_held, held_few}
use Rattle.pages.proofs.Places.{ahead-le}
use Rattle.walks.specs.Steps.Plans.{held, seam}
use Rattle.walks.proofs.Seams.{rising_at, to_front}
use Rattle.walks.proofs.Pouring.{Untouched, stored_length, stored_same, still_formed, pour_first, pour_turn, pour_front, pour_ends}
use Rattle.walks.proofs.put.pour.Goals as goal

pub insert_at-x-requires : goal.insert_at-x-requires
insert_at-x-requires c =
    let s = c.args in
    let h = home_in s.shape in
    let low = ahead-le (rank h) (rank h s.new) (held s.area.now s.change.first) in
    (omega arith, omega arith, omega (arith, c.requires.at_value.0, low, length_held in_use (part_at s.area.now s.change.first)), c.requires.at_value.1 s.change.first (omega arith) c.requires.first_le_last.0)

pub loop-a-init : goal.loop-a-init
loop-a-init c =
    let s = c.args in
    let h = home_in s.shape in
    let area = s.area.now in
    let f = s.change.first in
    let e = stored_same _ _ _ _ c.insert_at-x.ensures.area_after (omega arith) _ (λ b l. refl) in
    let front : (s.change.rises ≡ true → f + 1 ≤ s.change.last → ahead (rank h) (rank h c.insert_at-x.result) (held c.insert_at-x.new.area (f + 1)) ≡ 0) =
    λ t l. rw (e (f + 1) (omega arith))
    (to_front h (held area f) (held area (f + 1)) (held_few in_use (part_at area f)) (rising_at h area f s.change.last f (sym c.requires.at_value.2 ∙ t) (omega arith) (omega arith)) s.change.at s.new _ c.requires.first_le_last.3 c.insert_at-x.ensures.value) in
    (refl, (λ b l. refl), refl, front)

pub hand_on-x-requires : goal.hand_on-x-requires
hand_on-x-requires c =
    let l = c.loop-a in
    let s = c.args in
    let e : Untouched s.area.now c.insert_at-x.new.area (s.change.first + 1) = stored_same _ _ _ _ c.insert_at-x.ensures.area_after (omega arith) _ (λ b l. refl) in
    let same : Untouched s.area.now l.area l.a = λ b k. l.invariant.1 b k ∙ e b (omega arith) in record { a_bound = (omega arith, omega (arith, c.insert_at-x.auto.area), still_formed _ _ _ _ _ l.a c.requires.at_value.1 same (omega arith) (omega arith) (omega arith)); a_value = (λ t. rw (l.invariant.1 l.a (omega arith)) (l.invariant.3 t (omega arith))) }

pub loop-a-preserved : goal.loop-a-preserved
loop-a-preserved c =
    let l = c.loop-a in
    let s = c.args in
    let h = home_in s.shape in
    let area = s.area.now in
    let start = c.insert_at-x.new.area in
    let fits : 256 * (l.a + 1) ≤ length l.area = omega (arith, c.insert_at-x.auto.area) in
    let e = c.hand_on-x.ensures in
    let r : Untouched area start (s.change.first + 1) = stored_same _ _ _ _ c.insert_at-x.ensures.area_after (omega arith) _ (λ b l. refl) in
    let joined : (s.change.rises ≡ true → l.a + 1 ≤ s.change.last → seam h (held start l.a) (held start (l.a + 1)) ≡ true) =
    λ t k. rw (r l.a (omega arith), r (l.a + 1) (omega arith)) (rising_at h area s.change.first s.change.last l.a (sym c.requires.at_value.2 ∙ t) (omega arith) (omega arith)) in (
      stored_length _ _ _ _ e.area_after fits ∙ l.invariant.0,
      stored_same _ _ _ _ e.area_after fits _ l.invariant.1,
      pour_turn h l.area _ l.a s.change.last l.x _ (omega arith) e.value e.area_after _ l.invariant.1 ∙ l.invariant.2,
      (λ t k. pour_front h start l.area l.a l.x _ l.invariant.1 (joined t k) (l.invariant.3 t (omega arith)) e.value),
    )

pub returns : goal.returns
returns c =
    let l = c.loop-a in
    let a = c.args in
    let e = c.insert_at-x.ensures in
    sym (pour_ends (home_in a.shape) c.insert_at-x.new.area l.area a.change.last l.a l.x (omega arith))
    ∙ l.invariant.2
    ∙ pour_first (home_in a.shape) a.area.now _ a.change.first a.change.last a.new _ c.requires.first_le_last.0 a.change.at c.requires.at_value.0 e.value e.area_after (omega arith)
