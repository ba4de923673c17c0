use mathlib.Core.Path.{◌≡◌, refl, ◌∙◌}
use mathlib.Core.Bool.{Bool, true, false, cond}
use Prim.Native.Nat.{ℕ, ◌+◌, ◌-◌, ◌*◌, ◌<◌}
use native.Mathlib.Omega.{arith}
use lib.Dec.{eqb}
use lib.ListN.{get_or}
use Rattle.homes.specs.declared.lane.Lane.{Lane}
use Rattle.homes.specs.Homes.{swept}
use Rattle.homes.specs.Steps.Lanes.{InGroup, address_of, aimed, gone_to}
use Rattle.homes.proofs.Beginning.{page_fits}
use Rattle.homes.proofs.Rowed.{none, one, over, same}
use Rattle.homes.proofs.Together.{gone_fits}
use Rattle.homes.proofs.lanes.step_all.Reads as reads
use Rattle.homes.proofs.lanes.step_all.Lts as lts
use Rattle.homes.proofs.lanes.step_all.Invariants.{after}
use Rattle.homes.proofs.lanes.step_all.Goals as goal
use Rattle.homes.proofs.lanes.step_all.Goals.{else-goes, else-goes-2, then-goes, then-goes-2}
use Rattle.homes.proofs.lanes.step_all.Lts as lts
use Rattle.homes.proofs.lanes.step_all.Reads as reads
use Rattle.homes.proofs.lanes.step_all.Tie as tie

-- it has turn np and the group of the new page where it goes, and else its own
after_is : (s g np m u r to x y : ℕ) → to ≡ swept s 0 g (g - 1 - r) → x ≡ cond (eqb m 1) np u → y ≡ cond (eqb m 1) to r → (x ≡ (after s g np m u r).turn) × (y ≡ (after s g np m u r).group)
unfolding gone_to
after_is s g np m u r to x y q = go (eqb m 1)
  where
    go : (t : Bool) → x ≡ cond t np u → y ≡ cond t to r → let l = cond t (aimed s g np (record { turn = u; group = r })) (record { turn = u; group = r }) in (x ≡ l.turn) × (y ≡ l.group)
    go true e f = (e, f ∙ q)
    go false e f = (e, f)

-- the page of a lane, by its numbers
page_is : (g t r : ℕ) (l : Lane) → t ≡ l.turn → r ≡ l.group → t * g + r ≡ address_of g l
page_is g t r l e f = rw (e, f)

-- a lane that is one that fits does, with its page
placed : (g page : ℕ) (l a : Lane) → a ≡ l → InGroup g l → page ≡ address_of g l → InGroup g a × (page ≡ address_of g a)
placed g page l a e fits p = rw e (fits, p)

-- what a turn makes of its place: the lane after the step, and a page that fits
made : (c : lts.Joined2 tie.the-claims reads.Pre reads.Post goal.the-invariant-loop-i goal.the-decreases-loop-i tie.handed_clauses) → let at = c.args in let i = c.loop-i.i in let l = after at.sweeps.s at.g at.np (get_or at.moves i 0) (get_or at.lanes.turns i 0) (get_or at.lanes.groups i 0) in (c.if-goes.turn ≡ l.turn) × (c.if-goes-2.group ≡ l.group) × (c.if-goes.turn * at.g + c.if-goes-2.group < 65536)
made c =
    let call = c.before.before in
    let loop = call.before.before in
    let start = loop.before.before.before in
    let at = start.args in
    let m = get_or at.moves loop.loop-i.i 0 in
    let u = get_or at.lanes.turns loop.loop-i.i 0 in
    let r = get_or at.lanes.groups loop.loop-i.i 0 in
    let l = after at.sweeps.s at.g at.np m u r in
    let turn : c.if-goes.turn ≡ cond (eqb m 1) at.np u = elim c.if-goes.branch [ then-goes w ↦ w.turn-is ∙ rw w.if-goes.true-raw | else-goes w ↦ w.turn-is ∙ rw w.if-goes.false-raw ] in
    let group : c.if-goes-2.group ≡ cond (eqb m 1) call.target-to.result r = elim c.if-goes-2.branch [ then-goes-2 w ↦ w.group-is ∙ rw w.if-goes-2.true-raw | else-goes-2 w ↦ w.group-is ∙ rw w.if-goes-2.false-raw ] in
    let is = after_is at.sweeps.s at.g at.np m u r _ _ _ call.target-to.ensures.value turn group in
    let fits : InGroup at.g l = gone_fits at.sweeps.s at.g at.np m (record { turn = u; group = r }) start.requires.le_s.0 start.requires.le_s.4 (start.requires.by_index loop.loop-i.i call.loop-i-test.true) in
    (is.0, is.1, page_fits _ _ _ (omega (arith, start.requires.le_s.3)) (omega (arith, is.0, fits.0)) (omega (arith, is.1, fits.1)))

pub loop-i-init : goal.loop-i-init
loop-i-init c = (none _ _ refl, none _ _ refl, none _ _ refl)

pub target-to-requires : goal.target-to-requires
target-to-requires c =
    let start = c.before.before.before.before in
    (start.requires.le_s.0, start.requires.le_s.1, start.requires.le_s.2, (start.requires.by_index c.loop-i.i c.loop-i-test.true).1, start.requires.le_s.3)

pub overflow_mul-pages : goal.overflow_mul-pages
overflow_mul-pages c = omega (arith, (made c.before.before).2)

pub overflow_add-pages : goal.overflow_add-pages
overflow_add-pages c = omega (arith, (made c.before.before).2)

pub loop-i-preserved : goal.loop-i-preserved
loop-i-preserved c =
    let pages = c.before in
    let new = made pages.before in
    let at = pages.before.before.before.before.before in
    let inv = at.loop-i.invariant in
    let h = pages.loop-i-test.true in
    (one _ _ _ _ inv.0 h new.0, one _ _ _ _ inv.1 h new.1, one _ _ _ _ inv.2 h (page_is _ _ _ _ new.0 new.1))

pub returns : goal.returns
returns c =
    let start = c.before.before.before.before in
    let inv = c.loop-i.invariant in
    let end = c.loop-i-test.false in
    let each : (i : ℕ) → i < 16 → _ = λ i h. same (over inv.0 end i h) (over inv.1 end i h) in
    record { by_index_2 = each; fit = λ i h. placed _ _ _ _ (each i h) (gone_fits _ _ _ _ _ start.requires.le_s.0 start.requires.le_s.4 (start.requires.by_index i h)) (over inv.2 end i h) }
