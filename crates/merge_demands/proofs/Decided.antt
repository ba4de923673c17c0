-- What a merge decides: which file is refused and, past both gates, whether a key clashes, and whether there is
-- room for both.
use mathlib.Core.Path.{◌≡◌, refl, ap, ◌∙◌}
use mathlib.Core.Option.{Option, none, some}
use mathlib.Core.List.{List}
use Prim.Native.Nat.{ℕ, ◌+◌}
use lib.ListN.{length}
use borrow.Author.Tests.{eq-eqb, ne_eqb}
use Rattle.std.specs.Prelude.{Ok, Err}
use Rattle.layouts.specs.Layout.{Layout, slots_of}
use Rattle.placing.specs.Image.{All, RecordSet, Image}
use Rattle.placing.specs.Lay.{taken}
use Rattle.placing.specs.Rows.{counts}
use Rattle.placing.proofs.Lists.{all_append}
use Rattle.placing.proofs.Images.{room_taken, room_image}
use Rattle.pages.specs.Page.{Record, key, home_for}
use Rattle.pages.specs.Small.{Small}
use Rattle.pages.specs.Area.{area_from}
use Rattle.rebuild.specs.Relaid.{laid_out}
use Rattle.state.specs.declared.State.{State}
use Rattle.state.specs.declared.Refusal.{Refusal}
use Rattle.state.specs.State.{homes, holding}
use Rattle.state.specs.Promises.{Ranged}
use Rattle.walks.proofs.Clean.{image_clean, clean_pass}
use Rattle.gates.specs.Gates.{opens, merge_gate, check_gate}
use Rattle.register.specs.OneImage.{AreaImage}
use Rattle.register.specs.Files.{File}
use Rattle.register.proofs.ImageCalls.{room_told}
use Rattle.sites.specs.declared.Which.TheVariants.{First, Second}
use Rattle.sites.specs.Held.{held_in, same}
use Rattle.two_sets.specs.Union.{missing, union, lowest_clash}
use Rattle.two_sets.proofs.Union.{missing_all, union_set}
use Rattle.merges.specs.declared.MergeRefusal.TheVariants.{Clash, NoRoom}
use Rattle.merges.specs.Merge.{done, Outcome, refused, refused_file, joined, settled, merged}
use Rattle.merge_demands.specs.MergeDemands.{merging, both, RoomForBoth, Joins}
use Rattle.merge_demands.proofs.Held.{Holds}

-- what holds of each record of two sets holds of each of both
union_all : (P : Record → Type 0) (xs ys : List Record) → All P xs → All P ys → All P (union key xs ys)
unfolding union
union_all P xs ys h k = all_append P (missing key xs ys) xs (missing_all key P xs ys k) h

module _ (f g : File) where
  abbrev l : Layout
  l = f.layout

  abbrev s : State
  s = f.state

  abbrev area : List ℕ
  area = f.area

  abbrev t : State
  t = g.state

  -- the lowest key at which they clash
  abbrev pub lowest_of : Option ℕ
  lowest_of = lowest_clash key same (held_in l s area) (held_in l t g.area)

  -- the pages and the row that both come to
  abbrev pub pages_of : List (List Record)
  pages_of = laid_out (slots_of l) (homes s) s.cap (both f g)

  abbrev pub row_of : List ℕ
  row_of = counts (home_for (homes s)) (both f g) s.cap 0

  -- an accepted merge
  abbrev pub joined_to : Outcome
  joined_to = record { merge = done (holding s (length (both f g))) (Ok (record { read = s.cap + t.cap })); area = area_from l 0 pages_of; row = row_of }

  module _ (row : List ℕ) where
    -- a file that is refused
    pub first_shut : (why : Refusal) → merge_gate l s area (length row) ≡ Err why → merging f row g ≡ refused_file s area row First 0 why
    unfolding merged
    first_shut why e = rw e

    module _ (e : merge_gate l s area (length row) ≡ opens) where
      pub second_shut : (why : Refusal) → check_gate l t g.area ≡ Err why → merging f row g ≡ refused_file s area row Second s.cap why
      unfolding merged
      second_shut why q = rw (e, q)

      both_open : check_gate l t g.area ≡ opens → merging f row g ≡ settled l s area row t g.area
      unfolding merged
      both_open q = rw (e, q)

    -- past both gates
    pub data Settles : Type 0 where
      clashes : (k : ℕ) → lowest_of ≡ some k → merging f row g ≡ refused s area row (Clash k (s.cap + t.cap)) → Settles
      crowded : lowest_of ≡ none → (RoomForBoth f g → ⊥) → merging f row g ≡ refused s area row_of (NoRoom (s.cap + t.cap)) → Settles
      joins : lowest_of ≡ none → RoomForBoth f g → merging f row g ≡ joined_to → Settles

    settled_clash : (k : ℕ) → lowest_of ≡ some k → settled l s area row t g.area ≡ refused s area row (Clash k (s.cap + t.cap))
    unfolding settled
    settled_clash k e = rw e

    module _ (n : lowest_of ≡ none) (set : RecordSet key (both f g)) where
      settled_full : (RoomForBoth f g → ⊥) → settled l s area row t g.area ≡ refused s area row_of (NoRoom (s.cap + t.cap))
      unfolding settled joined
      settled_full r = rw (n, ne_eqb (taken (home_for (homes s)) (slots_of l) (both f g) s.cap) (length (both f g)) (λ e. r ((room_taken key (homes s) (slots_of l) s.cap (both f g) set).1 e)))

      settled_joined : RoomForBoth f g → settled l s area row t g.area ≡ joined_to
      unfolding settled joined
      settled_joined r = rw (n, eq-eqb (taken (home_for (homes s)) (slots_of l) (both f g) s.cap) (length (both f g)) ((room_taken key (homes s) (slots_of l) s.cap (both f g) set).0 r))

  module _ (own : Holds l s area) (others : Holds l t g.area) where
    -- both are a record set
    pub both_set : RecordSet key (both f g)
    both_set = union_set key (held_in l s area) (held_in l t g.area) own.set others.set

    pub settle : (row : List ℕ) → merge_gate l s area (length row) ≡ opens → check_gate l t g.area ≡ opens → Settles row
    settle row e q = go lowest_of refl
      where
        room : lowest_of ≡ none → Dec (RoomForBoth f g) → Settles row
        room n (yes r) = joins n r (both_open row e q ∙ settled_joined row n both_set r)
        room n (no r) = crowded n r (both_open row e q ∙ settled_full row n both_set r)

        go : (o : Option ℕ) → lowest_of ≡ o → Settles row
        go (some k) n = clashes k n (both_open row e q ∙ settled_clash row k n)
        go none n = room n (room_told (slots_of l) (homes s) s.cap (both f g) both_set)

    module _ (room : RoomForBoth f g) where
      -- with room the pages are the image of both
      pub both_image : Image key (homes s) (slots_of l) s.cap (both f g) pages_of
      both_image = room_image key (homes s) (slots_of l) s.cap (both f g) both_set room

      area_image : Ranged l s → AreaImage l (holding s (length (both f g))) (area_from l 0 pages_of) (both f g)
      area_image r =
          record {
            pages = pages_of;
            bytes = refl;
            pass = clean_pass (image_clean both_set r.cap_high (union_all (Small l) (held_in l s area) (held_in l t g.area) own.small others.small) both_image);
            image = both_image;
          }

      -- which is what an accepted merge leaves
      pub joins_both : Ranged l s → (row : List ℕ) → merging f row g ≡ joined_to → Joins f row g
      joins_both r row e =
          record {
            set = both_set;
            state = ap (λ (o : Outcome). o.merge.state) e;
            image = rw e (area_image r);
            is = rw e (record { records = both f g; set = both_set; count = refl; is = area_image r });
          }
