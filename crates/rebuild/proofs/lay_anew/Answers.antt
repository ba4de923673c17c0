-- The entries are sorted where they stand, and laid.
use mathlib.Core.Path.{ap, ◌∙◌}
use mathlib.Core.List.{List, map}
use borrow.Author.Rules.{rules}
use Rattle.numbers.specs.Little.{Bytes}
use Rattle.layouts.specs.Layout.{in_use}
use Rattle.placing.specs.Lay.{lay}
use Rattle.pages.specs.Area.{area_from}
use Rattle.entries.specs.declared.Entry.{Entry}
use Rattle.entries.specs.Steps.Entries.{home}
use Rattle.rebuild.specs.Steps.Rebuild.{slots, record_in, hops_from}
use Rattle.rebuild.proofs.InOrder.{part_whole, part_once, back_entries, back_length, back_sorted, back_room}
use Rattle.rebuild.proofs.lay_anew.Goals as goal

pub sort_row-requires : goal.sort_row-requires
sort_row-requires c =
    let p = c.requires in
    let b : Bytes c.args.area.now = search rules in
    (part_whole _ _ _ b p.cap_bound.1 p.cap_bound.2 p.cap_bound.3 p.fact.0, part_once _ _ _ b p.cap_bound.1 p.cap_bound.2 p.cap_bound.3 p.fact.0)

pub unpack-requires : goal.unpack-requires
unpack-requires c =
    let p = c.requires in
    let b : Bytes c.args.area.now = search rules in
    let e = c.sort_row.ensures in record { cap_bound = (p.cap_bound.0, back_length _ _ _ b p.cap_bound.1 p.cap_bound.2 p.cap_bound.3 p.fact.0 _ e, p.cap_bound.2, p.cap_bound.3); fact = (back_sorted _ _ _ b p.cap_bound.1 p.cap_bound.2 p.cap_bound.3 p.fact.0 _ e, back_room _ _ _ b p.cap_bound.1 p.cap_bound.2 p.cap_bound.3 p.fact.0 _ e p.fact.1) }

pub returns : goal.returns
returns c =
    let p = c.requires in
    let b : Bytes c.args.area.now = search rules in
    let e = back_entries _ _ _ b p.cap_bound.1 p.cap_bound.2 p.cap_bound.3 p.fact.0 _ c.sort_row.ensures in
    let cap = c.args.cap in
    (c.unpack.ensures.0 ∙ ap (λ (es : List Entry). hops_from 0 (lay home slots cap 0 es)) e, c.unpack.ensures.1 ∙ ap (λ (es : List Entry). area_from in_use 0 (map (map record_in) (lay home slots cap 0 es))) e)
