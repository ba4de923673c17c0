-- `walks::fill_up` meets its contract: the end is the place of a record that stands behind all.
use mathlib.Core.Path.{sym, ap, ◌∙◌}
use native.Mathlib.Omega.{arith}
use Prim.Native.Nat.{◌+◌}
use Rattle.layouts.specs.Layout.{in_use}
use Rattle.homes.specs.Homes.{home_in}
use Rattle.pages.specs.Area.{part_at, with_page}
use Rattle.pages.proofs.Read.{length_held, held_few}
use Rattle.walks.specs.Steps.Plans.{held}
use Rattle.walks.proofs.Seams.{before_seam, to_end}
use Rattle.walks.proofs.remove.fill_up.Goals as goal

pub exchange_at-requires : goal.exchange_at-requires
exchange_at-requires c =
    let l = c.args.area.now in
    let a = c.args.a in
    let full = (before_seam (home_in c.args.shape) (held l a) (held l (a + 1)) (held_few in_use (part_at l a)) (c.requires.a_value c.if-behind.true)).0 in
    (omega arith, omega arith, c.requires.a_bound.2, sym (length_held in_use (part_at l a)) ∙ full, c.requires.a_bound.3)

pub returns-then-behind : goal.returns-then-behind
returns-then-behind c =
    let l = c.args.area.now in
    let a = c.args.a in
    rw c.record_at-next.ensures at c.exchange_at.ensures
    ∙ ap (with_page in_use l a) (to_end (home_in c.args.shape) (held l a) (held l (a + 1)) (held_few in_use (part_at l a)) (c.requires.a_value c.if-behind.true) c.args.slot c.requires.a_bound.2)

pub returns : goal.returns
returns c = rw c.record_at-next.ensures at c.refill_at.ensures
