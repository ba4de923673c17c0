-- `homes::starts::Start::page` meets its contract: the key's high bits are folded twice, and the
-- remainder stays.
use mathlib.Core.Path.{ap, ◌∙◌}
use native.Mathlib.Nat.{mod-lt}
use native.Mathlib.Omega.{arith}
use Rattle.homes.specs.declared.starts.Start.{Start}
use Rattle.homes.proofs.Rests.{near_high, nearer_high, nearer_same}
use Rattle.homes.proofs.starts.Start.page.Goals as goal

pub overflow_mul-near : goal.overflow_mul-near
overflow_mul-near c = omega (arith, near_high c.args.self c.requires c.args.key (omega arith))

pub overflow_add-near : goal.overflow_add-near
overflow_add-near c = omega (arith, near_high c.args.self c.requires c.args.key (omega arith))

pub overflow_mul-low : goal.overflow_mul-low
overflow_mul-low c = let at = c.before.before in omega (arith, nearer_high at.args.self at.requires at.args.key (omega arith))

pub overflow_add-low : goal.overflow_add-low
overflow_add-low c = let at = c.before.before in omega (arith, nearer_high at.args.self at.requires at.args.key (omega arith))

pub rest-requires : goal.rest-requires
rest-requires c =
    let at = c.before.before in
    (at.requires.0, at.requires.1, ap (λ (u : Start). u.by) at.requires.2, omega (arith, nearer_high at.args.self at.requires at.args.key (omega arith)))

pub returns : goal.returns
returns c =
    let at = c.before.before.before in
    let is = c.rest.ensures ∙ nearer_same at.args.self at.requires at.args.key (omega arith) in
    record { value = is; within = omega (arith, is, mod-lt at.args.key at.requires.0) }
