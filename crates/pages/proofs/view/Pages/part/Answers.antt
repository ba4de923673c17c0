-- `pages::view::Pages::part` meets its contract: a chunk cut off what is left of the area from the page on
-- is the page.
use Rattle.std.proofs.Common.{◌∙◌, ◌-◌, ◌*◌, ◌≤◌, length, arith}
use Rattle.std.proofs.lemmas.List.{take-take}
use Rattle.pages.specs.Area.{part_at}
use Rattle.pages.proofs.view.Pages.part.Goals as goal

pub returns : goal.returns
unfolding part_at
returns c =
    let fits : 256 ≤ length c.args.self.bytes.now - 256 * c.args.a = omega arith in
    c.in-Some.ensures.cases.same ∙ take-take 256 _ _ fits
