-- Those that stay sink, and those that left come behind them.
use native.Mathlib.Omega.{arith}
use borrow.Author.Rules.{rules}
use Rattle.sliding.proofs.Finishing.{slides, homes_many, homes_low, closes, row_whole, row_once, new_whole, long₁, formed₁, total_fits, slid}
use Rattle.sliding.proofs.slide.Goals as goal

pub close_up-sunk-requires : goal.close_up-sunk-requires
close_up-sunk-requires c =
    let n = c.requires in
    let b = n.cap_bound in
    let w = slides c.args.shape _ _ _ _ c.pages-added.ensures.ready b.2 b.3 b.0 b.1 (search rules) n.was_image n.homes_value.0 n.homes_value.1 in
    record { cap_bound = (b.0, b.1, b.3, omega (arith, b.2), homes_many w, homes_low w); leaving = closes w }

pub sort_row-requires : goal.sort_row-requires
sort_row-requires c =
    let n = c.requires in
    let b = n.cap_bound in
    let w = slides c.args.shape _ _ _ _ c.pages-added.ensures.ready b.2 b.3 b.0 b.1 (search rules) n.was_image n.homes_value.0 n.homes_value.1 in
    (omega (arith, row_whole w), row_once w)

pub top_up-gone-requires : goal.top_up-gone-requires
top_up-gone-requires c =
    let n = c.requires in
    let b = n.cap_bound in
    let w = slides c.args.shape _ _ _ _ c.pages-added.ensures.ready b.2 b.3 b.0 b.1 (search rules) n.was_image n.homes_value.0 n.homes_value.1 in
    record {
      cap_bound = (b.0, long₁ w _ c.sort_row.ensures _ c.close_up-sunk.ensures.1, omega (arith, c.pages-added.ensures.value, b.3), new_whole w _ c.sort_row.ensures, search rules);
      area_value = formed₁ w _ c.sort_row.ensures _ c.close_up-sunk.ensures.1;
    }

pub overflow_add-result : goal.overflow_add-result
overflow_add-result c =
    let n = c.requires in
    let b = n.cap_bound in
    let w = slides c.args.shape _ _ _ _ c.pages-added.ensures.ready b.2 b.3 b.0 b.1 (search rules) n.was_image n.homes_value.0 n.homes_value.1 in
    let gone = rw c.pages-added.ensures.value at c.top_up-gone.ensures.0 in
    record { fits = total_fits w _ c.sort_row.ensures _ c.close_up-sunk.ensures.1 _ _ c.close_up-sunk.ensures.0 gone }

pub returns : goal.returns
returns c =
    let n = c.requires in
    let b = n.cap_bound in
    let w = slides c.args.shape _ _ _ _ c.pages-added.ensures.ready b.2 b.3 b.0 b.1 (search rules) n.was_image n.homes_value.0 n.homes_value.1 in
    let gone = rw c.pages-added.ensures.value at c.top_up-gone.ensures.0 in
    let end = rw c.pages-added.ensures.value at c.top_up-gone.ensures.1 in
    slid w _ c.sort_row.ensures _ c.close_up-sunk.ensures.1 _ _ c.close_up-sunk.ensures.0 gone _ end
