use mathlib.Core.Path.{◌≡◌, sym, ◌∙◌}
use native.Mathlib.Nat.{sub-zero}
use native.Mathlib.Omega.{arith}
use borrow.Author.Rules.{rules}
use Rattle.homes.specs.Homes.{home_in}
use Rattle.placing.specs.Lay.{ranked}
use Rattle.pages.specs.Page.{records_in}
use Rattle.pages.proofs.Read.{length_held}
use Rattle.slots.proofs.Seeking.{passed_turn, passed_here, passed_all, rank_at, key_test, records_ahead}
use Rattle.slots.proofs.place_ahead.Goals as goal

pub loop-i-init : goal.loop-i-init
loop-i-init g c =
    let a = c.args in
    rw sub-zero (records_ahead (home_in a.shape) (ranked a.home a.key) (records_in g.L.Layout.layout a.part.now) _ (c.count_in-count.ensures ∙ sym (length_held g.L.Layout.layout a.part.now)))

pub returns-then-not-is_before : goal.returns-then-not-is_before
returns-then-not-is_before g c =
    let l = c.loop-i in
    sym (passed_here _ c.count_in-count.result l.i _ (omega arith) (key_test (home_in c.args.shape) (ranked c.args.home c.args.key) (records_in g.L.Layout.layout c.args.part.now) l.i _ _ _ _ c.if-not-is_before.true c.key_in-other.ensures c.home.ensures.value (search rules))) ∙ l.invariant

pub loop-i-preserved : goal.loop-i-preserved
loop-i-preserved g c =
    let l = c.loop-i in
    passed_turn _ c.count_in-count.result l.i _ (omega arith) (key_test (home_in c.args.shape) (ranked c.args.home c.args.key) (records_in g.L.Layout.layout c.args.part.now) l.i _ _ _ _ c.if-not-is_before.false c.key_in-other.ensures c.home.ensures.value (search rules)) ∙ l.invariant

pub returns : goal.returns
returns g c =
    let a = c.args in
    let l = c.loop-i in
    let z : c.count_in-count.result ≡ l.i = omega arith in
    z ∙ sym (passed_all (rank_at (home_in a.shape) (records_in g.L.Layout.layout a.part.now)) c.count_in-count.result l.i (ranked a.home a.key) (omega arith)) ∙ l.invariant
