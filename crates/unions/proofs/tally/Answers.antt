-- `unions::tally` meets its contract: those that the first file alone holds are counted, and then all of the
-- second.
use mathlib.Core.Path.{◌≡◌, ap, ◌∙◌}
use mathlib.Core.List.{map}
use Prim.Native.Nat.{ℕ}
use native.Mathlib.Omega.{arith}
use lib.ListN.{length, get_or, length-replicate}
use Rattle.homes.specs.Homes.{home_in}
use Rattle.pages.specs.Page.{home_for}
use Rattle.pages.proofs.Write.{zeros}
use Rattle.survey.specs.Steps.Looks.{tallied}
use Rattle.survey.proofs.Counting.{tally_length}
use Rattle.sites.specs.Steps.Sites.{on_pages}
use Rattle.unions.specs.Steps.Both.{lacking_on}
use Rattle.unions.proofs.Tallying.{both_counted}
use Rattle.unions.proofs.tally.Goals as goal

pub tally_lacking-clash-requires : goal.tally_lacking-clash-requires
tally_lacking-clash-requires c =
    let a = c.args in
    let n : length a.row.now ≡ a.here.cap = ap length c.requires.2 ∙ length-replicate a.here.cap 0 in
    let empty : (k : ℕ) → get_or a.row.now k 0 ≡ 0 = λ k. rw c.requires.2 (zeros a.here.cap k) in
    (c.requires.0, c.requires.1, n, λ k. omega (arith, empty k))

pub tally_all-requires : goal.tally_all-requires
tally_all-requires c =
    let a = c.args in
    let w = c.requires.0 in
    let t = c.tally_lacking-clash in
    let n : length t.new.row ≡ a.here.cap = ap length t.ensures.row_after ∙ tally_length (map (home_for (home_in a.here.shape)) (lacking_on a.here a.area.now a.there a.other.now)) a.row.now ∙ ap length c.requires.2 ∙ length-replicate a.here.cap 0 in
    let empty : (k : ℕ) → get_or a.row.now k 0 ≡ 0 = λ k. rw c.requires.2 (zeros a.here.cap k) in
    rw c.shape.ensures (
      c.requires.1,
      w.ready,
      omega (arith, n, w.grown),
      omega (arith, n, w.few),
      λ k. omega (arith, t.ensures.few k, empty k),
    )

pub returns : goal.returns
returns c =
    let a = c.args in
    let t = c.tally_lacking-clash in
    let home = home_for (home_in a.here.shape) in record {
      result_value = t.ensures.result_value;
      row_after = rw c.shape.ensures at c.tally_all.ensures
          ∙ ap (tallied (map home (on_pages a.there a.other.now))) (t.ensures.row_after ∙ ap (tallied (map home (lacking_on a.here a.area.now a.there a.other.now))) c.requires.2)
          ∙ both_counted a.here a.area.now a.there a.other.now home a.here.cap;
    }
