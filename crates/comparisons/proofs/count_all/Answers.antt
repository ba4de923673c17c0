-- `comparisons::count_all` meets its contract: one pass over the first file tells all three counts.
use native.Mathlib.Omega.{arith}
use Rattle.layouts.specs.Layout.{in_use}
use Rattle.pages.specs.Page.{key}
use Rattle.sites.specs.Held.{same, held_in}
use Rattle.sites.proofs.Known.{Known, known}
use Rattle.two_sets.specs.Differences.{differences}
use Rattle.comparisons.proofs.Counting.{Counted, counted}
use Rattle.comparisons.proofs.count_all.Goals as goal
use Rattle.comparisons.proofs.count_all.Lts as lts
use Rattle.comparisons.proofs.count_all.Reads as reads
use Rattle.comparisons.proofs.count_all.Tie as tie

-- what is known of the two files
first_known : (c : lts.After-shared_slice_known2 tie.the-claims reads.Pre reads.Post tie.handed_clauses) → Known c.args.first c.args.area.now
first_known c = known c.args.first c.args.area.now (λ i l. omega (arith, c.shared_slice_known-1.given i)) c.requires.0

second_known : (c : lts.After-shared_slice_known2 tie.the-claims reads.Pre reads.Post tie.handed_clauses) → Known c.args.second c.args.other.now
second_known c = known c.args.second c.args.other.now (λ i l. omega (arith, c.shared_slice_known-2-1.given i)) c.requires.1

pub pass-t-requires : goal.pass-t-requires
pass-t-requires c =
    let b = c.before.before.before.before in
    ((first_known b).range.cap_high, c.requires.0.1, rw c.site_of-site.ensures (second_known b).walks, omega arith)

-- what the pass told
told : (c : lts.After-pass tie.the-claims reads.Pre reads.Post tie.handed_clauses)
    → let a = c.args in
    Counted a.first a.second (differences key same (held_in in_use a.first a.area.now) (held_in in_use a.second a.other.now)) c.pass-t.result.absent c.pass-t.result.unlike
told c =
    let b = c.before.before.before.before in
    let a = c.args in
    counted a.first a.area.now a.second a.other.now (first_known b) (second_known b) _ c.site_of-site.ensures _ _ _ _ c.pass-t.ensures

pub overflow_sub-result : goal.overflow_sub-result
overflow_sub-result c = omega (arith, (told c.before.before.before.before).low)

pub overflow_sub-result-2 : goal.overflow_sub-result-2
overflow_sub-result-2 c = omega (arith, (told c.before.before.before.before.before).fits)

pub returns : goal.returns
returns c = let n = told c.before.before.before.before.before in record { value = n.is; few = n.few }
