-- `survey::look` meets its contract: the order of ranks is that of (home, key).
use mathlib.Core.Bool.{and_assoc}
use mathlib.Core.Path.{◌≡◌, ◌∙◌}
use borrow.Author.Tests.{ne_eqb}
use borrow.Author.Rules.{rules}
use lib.Dec.{ltb}
use lib.ListN.{get_or}
use Rattle.layouts.specs.Layout.{slots_of}
use Rattle.placing.specs.Lay.{ranked}
use Rattle.survey.proofs.look.Goals as goal
use Rattle.survey.proofs.look.Goals.{in-None, in-Some}

pub returns : goal.returns
returns g c =
    let slots : c.SLOTS.result ≡ slots_of g.L.Layout.layout = c.SLOTS.ensures ∙ g.L.Layout.slots_is in
    elim c.match-seen.branch [
      | in-None w ↦ rw (ne_eqb _ 0 c.if-judged-eq0.false, slots, w.rising-is, w.in-None.is) (simp and_assoc)
      | in-Some w ↦
          let a = c.args in
          let here : w.lt-rising.result ≡ ltb (ranked w.in-Some.last.home w.in-Some.last.key) (ranked (get_or a.judged.homes 0 0) (get_or a.judged.keys 0 0)) = search rules in
          rw (ne_eqb _ 0 c.if-judged-eq0.false, slots, w.rising-is, w.in-Some.is, here) (simp and_assoc)
    ]
