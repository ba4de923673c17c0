-- `register::try_find` meets its contract: past its gate the walk answers.
use Rattle.layouts.specs.Layout.{in_use}
use Rattle.state.proofs.Ranges.{ranged, in_shape}
use Rattle.register.proofs.try_find.Goals as goal

pub shape-requires : goal.shape-requires
shape-requires c = in_shape in_use _ c.in_ok-enter.ensures.within.0

pub meet-requires : goal.meet-requires
meet-requires c =
    rw (c.shape.ensures.value, c.new-pages.ensures.cap) (ranged in_use c.args.state c.in_ok-enter.ensures.within.0).p_high

pub new-pages-requires : goal.new-pages-requires
new-pages-requires c =
    let k = c.in_ok-enter.ensures.within in
    ((ranged in_use c.args.state k.0).cap_high, k.1)
