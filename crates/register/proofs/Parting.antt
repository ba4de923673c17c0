-- A growth past its gate: those that go to the new page are found in an image by the counts of homes.
use mathlib.Core.Path.{◌≡◌, sym, ap, ◌∙◌}
use mathlib.Core.Bool.{true}
use mathlib.Core.List.{List, []}
use Prim.Native.Nat.{ℕ, ◌+◌, ◌-◌, ◌*◌, ◌/◌, ◌≤◌, ◌<◌}
use native.Mathlib.Omega.{arith}
use lib.ListN.{length, take, length-take}
use lib.Seq.{take_all}
use Rattle.std.proofs.Common.{Ok}
use Rattle.numbers.specs.Little.{Bytes, written}
use Rattle.numbers.proofs.Laws.{written-length, written_front}
use Rattle.layouts.specs.Layout.{in_use}
use Rattle.homes.specs.declared.Shape.{Shape}
use Rattle.homes.specs.Homes.{first_pages, shape_of, home_in}
use Rattle.placing.specs.Image.{cat}
use Rattle.placing.specs.Rows.{counts, strayed}
use Rattle.placing.proofs.Tidy.{Tidy, image_tidy}
use Rattle.pages.specs.Page.{key, home_for}
use Rattle.pages.specs.Area.{held_from, area_from}
use Rattle.pages.proofs.Areas.{area_pages}
use Rattle.entries.specs.declared.Entry.{Entry}
use Rattle.entries.specs.Steps.Entries.{size, row_bytes}
use Rattle.entries.proofs.Rows.{row_length}
use Rattle.rebuild.specs.Relaid.{relaid}
use Rattle.rebuild.specs.Steps.Rebuild.{slots}
use Rattle.leaving.specs.Steps.Leaving.{leavers}
use Rattle.sliding.specs.Steps.Closing.{WasImage}
use Rattle.survey.proofs.ImageTest.{none_broken}
use Rattle.state.specs.declared.State.{State}
use Rattle.state.specs.declared.Accepted.{Accepted}
use Rattle.state.specs.Answer.{accepted}
use Rattle.state.specs.Done.{done}
use Rattle.state.specs.State.{in_range, homes, grown}
use Rattle.state.proofs.Ranges.{ranged}
use Rattle.gates.specs.Gates.{opens, image_gate}
use Rattle.gates.proofs.Judging.{GoodFile, open_good, held_set, held_image}
use Rattle.register.specs.Steps.Past.{goers, Parted}
use Rattle.register.specs.Calls.{grown_counts, remade}

module _ (s : State) (range : in_range in_use s ≡ true) (low : s.p < s.cap) (next : State) (e : next ≡ grown s) (shape : Shape) (of : shape ≡ shape_of next.params next.p) where
  -- the page before the new one is the last
  last_page : shape.p - 1 ≡ s.p
  last_page = rw (of, e) (omega arith)

  was_homes : home_in (shape_of shape.params (shape.p - 1)) ≡ homes s
  was_homes = let q : s.p + 1 - 1 ≡ s.p = omega arith in rw (of, e, q)

  new_homes : home_in shape ≡ homes (grown s)
  new_homes = rw (of, e)

  -- what leaving and sliding ask of the numbers
  pub part_ready : (s.cap ≤ 4096) × (first_pages shape.params < shape.p) × (shape.p ≤ s.cap)
  part_ready =
      let r = ranged in_use s range in
      (r.cap_high, rw (of, e) (omega (arith, r.p_low)), rw (of, e) (omega arith))

  module _ (area : List ℕ) (bytes : Bytes area) (long : length area ≡ 256 * s.cap) (is_open : image_gate in_use s area ≡ opens) where
    good : GoodFile in_use s area
    good = open_good in_use s area is_open

    tidy : Tidy key (homes s) slots s.cap (cat (held_from in_use area s.cap 0) []) (held_from in_use area s.cap 0)
    tidy = image_tidy key (homes s) slots (held_set in_use s area bytes long good) (held_image in_use s area bytes long good)

    -- the file is an image for the homes before
    pub was_image : WasImage (home_in (shape_of shape.params (shape.p - 1))) s.cap area
    was_image = rw was_homes (record {
      packed = tidy.packed;
      sorted = tidy.sorted;
      set = held_set in_use s area bytes long good;
      formed = area_pages in_use (homes s) area s.cap (held_from in_use area s.cap 0) bytes long (none_broken in_use (homes s) area s.cap 0 good.whole);
    })

    -- and its counts are those before
    pub was_counted : (row : List ℕ) → row ≡ counts (home_for (homes s)) (cat (held_from in_use area s.cap 0) []) s.cap 0
        → row ≡ counts (home_for (home_in (shape_of shape.params (shape.p - 1)))) (cat (held_from in_use area s.cap 0) []) s.cap 0
    was_counted row c = rw was_homes c

  -- those that leave are those that go to the new page
  goers_are : (area : List ℕ) → leavers (home_in shape) (shape.p - 1) s.cap area ≡ goers s area
  goers_are area = rw (last_page, new_homes)

  pub now_counted : (area row : List ℕ) → row ≡ counts (home_for (home_in shape)) (cat (held_from in_use area s.cap 0) []) s.cap 0 → row ≡ grown_counts in_use s area
  now_counted area row c = c ∙ rw new_homes

  pub again_counted : (area row : List ℕ) → row ≡ grown_counts in_use s area → row ≡ counts (home_for (home_in shape)) (cat (held_from in_use area s.cap 0) []) s.cap 0
  again_counted area row c = c ∙ rw new_homes

  -- and stand in the room as far as it has bytes
  module _ (area room new : List ℕ) (end : ℕ) (l : length room ≤ 65536) (m : end ≡ size * length (leavers (home_in shape) (shape.p - 1) s.cap area))
      (w : new ≡ written room 0 (row_bytes (take (length room / size) (leavers (home_in shape) (shape.p - 1) s.cap area)))) where
    es : List Entry
    es = goers s area

    put : new ≡ written room 0 (row_bytes (take (length room / size) es))
    unfolding es
    put = w ∙ rw (goers_are area)

    many_bytes : end ≡ size * length es
    unfolding es
    many_bytes = m ∙ rw (goers_are area)

    long_as : length new ≡ length room
    long_as = ap length put ∙ written-length room 0 (row_bytes (take (length room / size) es)) (omega (arith, row_length (take (length room / size) es), length-take (length room / size) es))

    pub parted : Parted s area new end
    unfolding es
    parted = record {
      many = many_bytes;
      bytes = λ k.
          let all : take (length room / size) es ≡ es = take_all (length room / size) es (omega (arith, many_bytes, long_as)) in
          let q : end ≡ 0 + length (row_bytes es) = omega (arith, many_bytes, row_length es) in
          rw (put, all, q) (written_front room 0 (row_bytes es) (omega arith));
      short = omega (arith, long_as);
    }

  -- they are what sliding takes
  pub sliding_row : (area room : List ℕ) (end : ℕ) → Parted s area room end → end ≤ length room → take end room ≡ row_bytes (leavers (home_in shape) (shape.p - 1) s.cap area)
  sliding_row area room end g l = g.bytes l ∙ rw (sym (goers_are area))

  -- and then the file is made anew
  pub slid_done : (area : List ℕ) (moved : ℕ) → moved ≡ strayed key (held_from in_use area s.cap 0) (relaid slots (home_in shape) s.cap (held_from in_use area s.cap 0))
      → (made : List ℕ) → made ≡ area_from in_use 0 (relaid slots (home_in shape) s.cap (held_from in_use area s.cap 0))
      → (a : Accepted) → a ≡ accepted 0 s.cap moved → let o = remade in_use s (grown s) area in (done next (Ok a) ≡ o.done) × (made ≡ o.area)
  unfolding remade
  slid_done area moved k made n a c = (rw (c, k, new_homes, e), n ∙ rw new_homes)
