use mathlib.Core.Path.{refl, ap, sym, ◌∙◌}
use mathlib.Core.List.{List}
use Prim.Native.Nat.{ℕ, ◌-◌, ◌*◌, ◌≤◌}
use native.Mathlib.Omega.{arith}
use lib.ListN.{length}
use Rattle.layouts.specs.Layout.{in_use}
use Rattle.homes.specs.Steps.NewHomes.{new_home}
use Rattle.pages.specs.Page.{in_memory, records_in}
use Rattle.pages.specs.Steps.Slots.{records_of}
use Rattle.pages.proofs.Homing.{homes_page}
use Rattle.pages.proofs.Memory.{page_records}
use Rattle.pages.proofs.Read.{held_few}
use Rattle.pages.proofs.Seeking.{homes_key}
use Rattle.entries.specs.Steps.Entries.{size, row_bytes}
use Rattle.rebuild.specs.Steps.Rebuild.{slots, packed}
use Rattle.rebuild.proofs.Tags.{page_few}
use Rattle.rebuild.proofs.Packing.{on_page, above_start, above_room, below_same, known_below, above_turn, packed_end, none_behind}
use Rattle.rebuild.proofs.pack.Goals as goal

few : (l : List ℕ) (i : ℕ) → length (on_page l i) ≤ slots
few l i = held_few in_use _

pub loop-a-init : goal.loop-a-init
loop-a-init c = above_start _ _ _ _ _

pub homes_at-homes-requires : goal.homes_at-homes-requires
homes_at-homes-requires c =
    let l = c.loop-a in
    let known = known_below _ _ _ c.args.area.now _ _ _ l.area (omega (arith, c.requires.1)) l.invariant (few _) refl c.args.new c.requires.3 (l.a - 1) (omega arith) in
    record { a_bound = (omega (arith, c.requires.0), omega (arith, c.requires.1), c.parse_at-page.ensures); usable = (c.requires.2, known) }

pub pack_page-at-requires : goal.pack_page-at-requires
unfolding records_of
pack_page-at-requires c =
    let p = c.parse_at-page.result in (
      page_few _ _ c.parse_at-page.ensures,
      omega (arith, c.requires.0),
      omega (arith, c.loop-a-test.true, page_few _ _ c.parse_at-page.ensures, above_room _ _ _ c.args.area.now _ _ _ c.loop-a.area (omega (arith, c.requires.1)) c.loop-a.invariant (few _) refl),
      omega (arith, c.requires.1, c.loop-a.invariant.begins),
      homes_key (new_home c.args.new) p.count p.keys p.values p.runs _
          (c.homes_at-homes.ensures ∙ sym (homes_page (new_home c.args.new) _ _ c.parse_at-page.ensures)),
    )

pub loop-a-preserved : goal.loop-a-preserved
loop-a-preserved c =
    let l = c.loop-a in
    let s = c.args.area.now in
    let long : 256 * c.args.cap ≤ length s = omega (arith, c.requires.1) in
    -- the page is the one that stood there, and has room
    let same = below_same _ _ _ s _ _ _ l.area long l.invariant (few _) refl (l.a - 1) (omega (arith, c.loop-a-test.true)) in
    let held = page_records _ _ (c.parse_at-page.ensures ∙ ap (λ (x : List ℕ). in_memory (records_in in_use x)) same) in
    let room : size * c.parse_at-page.result.count ≤ l.at = omega (arith, c.loop-a-test.true, page_few _ _ c.parse_at-page.ensures, above_room _ _ _ s _ _ _ l.area long l.invariant (few _) refl) in
    above_turn _ _ _ s _ l.a l.at l.area long l.invariant c.loop-a-test.true c.parse_at-page.result held _ _ room c.pack_page-at.ensures.value c.pack_page-at.ensures.area_after

pub returns : goal.returns
returns c =
    let l = c.args.area.now in
    let e = packed_end _ _ l l _ _ _ c.loop-a.area c.loop-a.invariant c.loop-a-test.false in
    record { value = e.0; area_after = e.1 ∙ rw (none_behind (row_bytes (packed (new_home c.args.new) c.args.cap l)) l (256 * c.args.cap) c.requires.1) }
