-- What check, grow and shrink do on a file that is the image of its records.
use mathlib.Core.Path.{◌≡◌, refl, sym}
use mathlib.Core.Bool.{Bool, true, false}
use mathlib.Core.List.Permᴰ
use mathlib.Core.List.{List, [], ◌∷◌}
use Prim.Native.Nat.{ℕ, suc, ◌+◌, ◌-◌, ◌<◌}
use native.Mathlib.Omega.{arith}
use lib.ListN.{length}
use Rattle.std.proofs.Common.{Ok}
use Rattle.numbers.specs.Little.{Bytes}
use Rattle.numbers.proofs.Laws.{bytes_append}
use Rattle.layouts.specs.Layout.{Layout, slots_of}
use Rattle.homes.specs.Homes.{first_pages}
use Rattle.placing.specs.Image.{cat, Image, Room}
use Rattle.placing.specs.Lay.{rank_in, sort}
use Rattle.placing.specs.Rows.{counts, strayed}
use Rattle.placing.proofs.Perms.{sort-perm}
use Rattle.placing.proofs.Rows.{counts-perm}
use Rattle.placing.proofs.Tidy.{set_perm, set_sorted}
use Rattle.placing.proofs.Rehome.{rehomed}
use Rattle.pages.specs.Page.{Record, key, home_for, page_bytes}
use Rattle.pages.specs.Area.{area_from}
use Rattle.pages.proofs.Write.{page_bytes_lem}
use Rattle.rebuild.specs.Relaid.{relaid}
use Rattle.state.specs.declared.State.{State}
use Rattle.state.specs.declared.Refusal.TheVariants.{WrongRow, NoRoom, AtCap, AtStart}
use Rattle.state.specs.Answer.{accepted}
use Rattle.state.specs.Done.{done}
use Rattle.state.specs.State.{in_range, homes, grown, shrunk}
use Rattle.state.proofs.Ranges.{grown_range, shrunk_range}
use Rattle.gates.specs.Gates.{opens, image_gate, check_gate}
use Rattle.changes.specs.Changes.{refused}
use Rattle.register.specs.OneImage.{ImageOfR}
use Rattle.register.specs.Calls.{grown_counts, has_room, remade, grow_open, with_row}
use Rattle.register.specs.Files.{Call, grow, shrink, check, file_in, of_outcome, of_growth, leaves, left}
use Rattle.gates.proofs.Gating.{check_pages, row_shut, cap_shut, pages_decide, start_shut, pages_decide_shrink}
use Rattle.gates.proofs.Judging.{good_open}
use Rattle.register.proofs.CheckImage.{image_good}
use Rattle.register.proofs.Rooms.{room_of, room_to_shrink}
use Rattle.walks.proofs.Clean.{clean_pass, clean_held}
use Rattle.register.proofs.OnImage.{OnImage, on_clean, on_length, on_gate, Refused, Accepts}

-- the pages for another state, and the row at one page more
abbrev pub remade_pages : Layout → (s next : State) → List (List Record) → List (List Record)
remade_pages form s next ps = relaid (slots_of form) (homes next) s.cap ps

abbrev pub grown_row : State → List Record → List ℕ
grown_row s rs = counts (home_for (homes (grown s))) rs s.cap 0

-- pages are bytes
pub area_bytes : (form : Layout) (a : ℕ) (ps : List (List Record)) → Bytes (area_from form a ps)
area_bytes form a [] = λ k h. omega arith
area_bytes form a (p ∷ ps) = bytes_append (page_bytes form a p) (area_from form (suc a) ps) (page_bytes_lem form a p) (area_bytes form (suc a) ps)

-- a test that isn't passed fails
lacks : (u : Bool) → (u ≡ true → ⊥) → u ≡ false
lacks true n = absurd (n refl)
lacks false n = refl

module _ {form : Layout} {s : State} {rs : List Record} {ps : List (List Record)} (w : OnImage form s rs ps) where
  -- it is 01's image of r records
  abbrev pub image_of : ImageOfR form s (area_from form 0 ps)
  image_of = record { records = rs; set = w.set; count = w.count; is = record { pages = ps; bytes = refl; pass = clean_pass (on_clean w); image = w.image } }

  -- so the pages pass
  pub image_open : image_gate form s (area_from form 0 ps) ≡ opens
  image_open = good_open form s (area_from form 0 ps) (image_good form s (area_from form 0 ps) (area_bytes form 0 ps) (on_length w) image_of)

  -- and check says yes
  pub check_open : check_gate form s (area_from form 0 ps) ≡ opens
  check_open = sym (check_pages form s (area_from form 0 ps) opens (on_gate w) refl opens (sym image_open))

  pub check_yes : Accepts form s ps check 0 [] s rs (λ qs. 0)
  unfolding left
  check_yes = record { read = s.cap; moved = 0; pages = ps; left = rw check_open; stands = w; moves = refl }

  module _ (next : State) where
    -- the pages made anew are the image for that state
    pub remade_image : Room key (homes next) (slots_of form) s.cap rs → Image key (homes next) (slots_of form) s.cap rs (remade_pages form s next ps)
    unfolding relaid
    remade_image r =
        let h = homes next in
        rehomed key (homes s) h (slots_of form) s.cap (sort (rank_in key h) (cat ps [])) w.set w.image r
        (sort-perm (rank_in key h) (cat ps []))
        (set_sorted key h (cat ps []) (set_perm key (Permᴰ.symm w.image.arranged.holds) w.set))

    -- and are made
    remade_on : remade form s next (area_from form 0 ps) ≡ record { done = done next (Ok (accepted 0 s.cap (strayed key ps (remade_pages form s next ps)))); area = area_from form 0 (remade_pages form s next ps) }
    unfolding remade
    remade_on = rw (clean_held (on_clean w))

  -- a call that makes the file anew for q pages, with some row: it is accepted where there is room
  module _ (q : ℕ) (c : Call) (row : List ℕ) where
    abbrev sized : State
    sized = record { params = s.params; p = q; cap = s.cap; r = s.r }

    abbrev Makes : Type 0
    Makes = let o = remade form s sized (area_from form 0 ps) in left (file_in form s (area_from form 0 ps)) c ≡ leaves form o.done o.area row

    anew : Makes → in_range form sized ≡ true → Room key (homes sized) (slots_of form) s.cap rs → Accepts form s ps c 0 row sized rs (λ qs. strayed key ps qs)
    anew m range r =
        record {
          read = s.cap;
          moved = strayed key ps (remade_pages form s sized ps);
          pages = remade_pages form s sized ps;
          left = rw (m, remade_on sized);
          stands = record { range = range; set = w.set; formed = w.formed; count = w.count; image = remade_image sized r };
          moves = refl;
        }

  -- the counts of the pages are those of the records
  row_told : grown_counts form s (area_from form 0 ps) ≡ grown_row s rs
  row_told = rw (clean_held (on_clean w)) (counts-perm (home_for (homes (grown s))) w.image.arranged.holds s.cap 0)

  with_room : Room key (homes (grown s)) (slots_of form) s.cap rs → grow_open form s (area_from form 0 ps) ≡ remade form s (grown s) (area_from form 0 ps)
  unfolding grow_open
  with_room r = rw ((room_of form s (grown s) (area_from form 0 ps) image_of).1 r)

  without_room : (Room key (homes (grown s)) (slots_of form) s.cap rs → ⊥) → grow_open form s (area_from form 0 ps) ≡ refused s (area_from form 0 ps) (NoRoom s.cap)
  unfolding grow_open
  without_room n = rw (lacks (has_room form s (grown s) (area_from form 0 ps)) (λ e. n ((room_of form s (grown s) (area_from form 0 ps) image_of).0 e)))

  module _ (row : List ℕ) where
    -- growth is refused with a row of another length
    pub grow_other_row : (length row ≡ s.cap → ⊥) → Refused form s ps (grow row) WrongRow row
    unfolding left
    grow_other_row f = rw (← (row_shut form) s (area_from form 0 ps) (length row) opens (on_gate w) refl f)

    module _ (fits : length row ≡ s.cap) where
      -- and with no page to grow to
      pub grow_no_page : s.p ≡ s.cap → Refused form s ps (grow row) AtCap row
      unfolding left
      grow_no_page m = rw (← (cap_shut form) s (area_from form 0 ps) (length row) opens (on_gate w) refl fits m)

      module _ (low : s.p < s.cap) where
        -- else the records decide
        grows : left (file_in form s (area_from form 0 ps)) (grow row) ≡ of_growth form (with_row (grow_open form s (area_from form 0 ps)) (grown_row s rs))
        unfolding left
        grows = rw (← (pages_decide form) s (area_from form 0 ps) (length row) opens (on_gate w) refl opens (sym image_open) fits (λ e. omega arith), row_told)

        pub grow_with_room : Room key (homes (grown s)) (slots_of form) s.cap rs → Accepts form s ps (grow row) 0 (grown_row s rs) (grown s) rs (λ qs. strayed key ps qs)
        grow_with_room r = anew (s.p + 1) (grow row) (grown_row s rs) (rw (grows, with_room r)) (grown_range form s w.range low) r

        pub grow_no_room : (Room key (homes (grown s)) (slots_of form) s.cap rs → ⊥) → Refused form s ps (grow row) (NoRoom s.cap) (grown_row s rs)
        grow_no_room n = rw (grows, without_room n)

  -- a shrinking is refused with no page to give up
  pub shrink_no_page : s.p ≡ first_pages s.params → Refused form s ps shrink AtStart []
  unfolding left
  shrink_no_page m = rw (← (start_shut form) s (area_from form 0 ps) opens (on_gate w) refl m)

  module _ (more : first_pages s.params < s.p) where
    -- else it is accepted
    shrinks : left (file_in form s (area_from form 0 ps)) shrink ≡ of_outcome form (remade form s (shrunk s) (area_from form 0 ps))
    unfolding left
    shrinks = rw (← (pages_decide_shrink form) s (area_from form 0 ps) opens (on_gate w) refl opens (sym image_open) (λ e. omega arith))

    pub shrink_yes : Accepts form s ps shrink 0 [] (shrunk s) rs (λ qs. strayed key ps qs)
    shrink_yes = anew (s.p - 1) shrink [] shrinks (shrunk_range form s w.range more) (room_to_shrink form s w.range more (area_from form 0 ps) image_of)
