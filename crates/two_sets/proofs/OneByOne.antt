-- Records put one by one: each is accepted exactly where all have room, and what they leave is the
-- one image of all.
use mathlib.Core.Path.{◌≡◌}
use mathlib.Core.Logic.{◌↔◌}
use mathlib.Core.List.Permᴰ
use mathlib.Core.List.{List, [], ◌∷◌, ◌++◌, Permᴰ}
use Prim.Native.Nat.{ℕ}
use Rattle.placing.specs.Image.{RecordSet, home_of, Image, Room}
use Rattle.placing.specs.Lay.{rank_in, sort, lay}
use Rattle.placing.specs.Walks.{put_in}
use Rattle.placing.proofs.Tidy.{set_perm, set_rest}
use Rattle.placing.proofs.Images.{one_image, room_image}
use Rattle.placing.proofs.Changes.{put_image, put_room}
use Rattle.two_sets.specs.OneByOne.{put_all, AllFit}
use Rattle.two_sets.proofs.Rooms.{room_perm, image_perm, room_part}

module _ {R : Type 0} (key : R → ℕ) (h : ℕ → ℕ) (b : ℕ) where
  -- x goes first
  first_last : (x : R) (xs s : List R) → Permᴰ (x ∷ (xs ++ s)) (xs ++ (x ∷ s))
  first_last x xs s = Permᴰ.symm (Permᴰ.middle x xs s)

  own_set : (xs s : List R) → RecordSet key (xs ++ s) → RecordSet key s
  own_set [] s f = f
  own_set (x ∷ xs) s f = own_set xs s (set_rest key x (xs ++ s) f)

  -- where all have room, each put finds it, and the pages end as the image
  each_fits : {n : ℕ} (xs s : List R) (ps : List (List R)) → RecordSet key (xs ++ s) → Image key h b n s ps → Room key h b n (xs ++ s)
      → AllFit key h b xs ps × Image key h b n (xs ++ s) (put_all key h b xs ps)
  each_fits [] s ps f i w = (tt, i)
  each_fits {n} (x ∷ xs) s ps f i w =
      let p = first_last x xs s in
      let g = set_perm key p f in
      let one_more : Room key h b n (x ∷ s) = room_part key h b xs (x ∷ s) g (room_perm key h b p w) in
      let set = own_set xs (x ∷ s) g in
      let fits = (put_room key h b x set i).1 one_more in
      let on = each_fits xs (x ∷ s) (put_in key h b x ps).0 g (put_image key h b x set i fits) (room_perm key h b p w) in
      ((fits, on.0), image_perm key h b (Permᴰ.symm p) on.1)

  -- and where each put finds room, all have it
  fits_room : {n : ℕ} (xs s : List R) (ps : List (List R)) → RecordSet key (xs ++ s) → Image key h b n s ps → AllFit key h b xs ps → Room key h b n (xs ++ s)
  fits_room [] s ps f i a = (ps, i.arranged)
  fits_room (x ∷ xs) s ps f i a =
      let p = first_last x xs s in
      let g = set_perm key p f in
      room_perm key h b (Permᴰ.symm p) (fits_room xs (x ∷ s) (put_in key h b x ps).0 g (put_image key h b x (own_set xs (x ∷ s) g) i a.0) a.1)

  -- so some put is refused exactly where no arrangement of all exists
  pub accepted : {n : ℕ} (xs s : List R) (ps : List (List R)) → RecordSet key (xs ++ s) → Image key h b n s ps → AllFit key h b xs ps ↔ Room key h b n (xs ++ s)
  accepted xs s ps f i = (fits_room xs s ps f i, λ w. (each_fits xs s ps f i w).0)

  -- and the pages are those of all laid out anew
  pub same_pages : {n : ℕ} (xs s : List R) (ps : List (List R)) → RecordSet key (xs ++ s) → Image key h b n s ps → AllFit key h b xs ps
      → put_all key h b xs ps ≡ lay (home_of key h) b n 0 (sort (rank_in key h) (xs ++ s))
  same_pages {n} xs s ps f i a =
      let w = fits_room xs s ps f i a in
      one_image key h b f (Permᴰ.refl (xs ++ s)) (each_fits xs s ps f i w).1 (room_image key h b n (xs ++ s) f w)
