-- The entries are gathered, and laid anew.
use mathlib.Core.Path.{◌∙◌}
use native.Mathlib.Omega.{arith}
use borrow.Author.Rules.{rules}
use Rattle.rebuild.proofs.Anew.{gathered, begins, base_whole, long, once, room, moved, laid}
use Rattle.rebuild.proofs.rebuild.Goals as goal

pub lay_anew-requires : goal.lay_anew-requires
lay_anew-requires c =
    let pre = c.requires in
    let g = gathered c.args.new _ _ _ _ pre.cap_bound.0 pre.cap_bound.1 pre.cap_bound.2.ready (search rules) pre.fact.0 c.pack-base.ensures.value c.pack-base.ensures.area_after in
    record { cap_bound = (pre.cap_bound.0, long _ _ _ _ _ g, omega (arith, begins _ _ _ _ _ g), base_whole _ _ _ _ _ g); fact = (once _ _ _ _ _ g, room _ _ _ _ _ g pre.fact.1) }

pub returns : goal.returns
returns c =
    let pre = c.requires in
    let g = gathered c.args.new _ _ _ _ pre.cap_bound.0 pre.cap_bound.1 pre.cap_bound.2.ready (search rules) pre.fact.0 c.pack-base.ensures.value c.pack-base.ensures.area_after in
    (c.lay_anew.ensures.0 ∙ moved _ _ _ _ _ g, c.lay_anew.ensures.1 ∙ laid _ _ _ _ _ g)
