-- `sites::seek` meets its contract: a home lies on the pages, which are an image.
use native.Mathlib.Omega.{arith}
use Rattle.homes.proofs.Homes.{home_below}
use Rattle.sites.proofs.seek.Goals as goal

pub look-requires : goal.look-requires
look-requires c =
    let w = c.requires.0 in
    rw (c.new-pages.ensures.bytes, c.new-pages.ensures.cap, c.cap.ensures, c.shape.ensures) (omega (arith, c.requires.1, home_below c.args.site.shape.params c.args.site.shape.p c.args.key w.ready, w.grown), c.requires.1, w.image)
