use mathlib.Core.Path.{◌≡◌, ◌∙◌}
use borrow.Author.Rules.{rules}
use lib.ListN.{get_or}
use Rattle.homes.specs.Homes.{home_in}
use Rattle.pages.specs.Steps.Slots.{records_of}
use Rattle.pages.proofs.Homing.{homing_starts, home_here, homing_goes_on, homing_ends}
use Rattle.pages.proofs.known.homes_on.Goals as goal
use Rattle.pages.proofs.known.homes_on.Goals.{else-here, then-here}

pub loop-i-init : goal.loop-i-init
unfolding records_of
loop-i-init c =
    let b = c.args in
    homing_starts (home_in b.shape) b.a b.page.count b.page.keys b.page.values b.page.runs b.known _ _ c.requires.0 (search rules) (search rules) c.requires.1

-- known or worked out, it is the home
home_is : (c : goal.Joined-here) → c.if-here.home ≡ home_in c.args.shape (get_or c.args.page.keys c.loop-i.i 0)
home_is c =
    let b = c.args in
    let l = c.loop-i in
    elim c.if-here.branch [ then-here w ↦ w.home-is ∙ home_here (home_in b.shape) b.a b.page.count b.page.keys b.page.values b.page.runs _ l.homes l.here l.i c.loop-i-test.true l.invariant w.if-here.true | else-here w ↦ w.home-is ∙ w.home-home.ensures.value ]

pub loop-i-preserved : goal.loop-i-preserved
loop-i-preserved c =
    let b = c.args in
    let l = c.loop-i in
    homing_goes_on (home_in b.shape) b.a b.page.count b.page.keys b.page.values b.page.runs _ l.homes l.here l.i c.loop-i-test.true l.invariant c.if-here.home (home_is c)

pub returns : goal.returns
unfolding records_of
returns c =
    let b = c.args in
    let l = c.loop-i in
    homing_ends (home_in b.shape) b.a b.page.count b.page.keys b.page.values b.page.runs _ l.homes l.here l.i c.loop-i-test.false l.invariant
