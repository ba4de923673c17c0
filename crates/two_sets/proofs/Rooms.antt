-- Room for some records is room for fewer, and room, image and order do not see how the records are
-- told: over any records, any home of a key and any number of slots to a page.
use mathlib.Core.Path.{◌≡◌, refl}
use mathlib.Core.Bool.{Bool, true, false}
use mathlib.Core.List.Permᴰ
use mathlib.Core.List.{List, [], ◌∷◌, ◌++◌, Permᴰ}
use Prim.Native.Nat.{ℕ, zero, suc, ◌≤◌}
use native.Mathlib.Omega.{arith}
use lib.Dec.{leb}
use Rattle.placing.specs.Image.{RecordSet, home_of, Image, Room}
use Rattle.placing.specs.Lay.{one, rank_in, sort, taken}
use Rattle.placing.proofs.Perms.{sorted_unique, sort-perm}
use Rattle.placing.proofs.Taken.{taken-le}
use Rattle.placing.proofs.Tidy.{set_perm, set_rest, set_sorted}
use Rattle.placing.proofs.Images.{room_taken}

-- two parts in the other order
pub comm : {R : Type 0} (s t : List R) → Permᴰ (s ++ t) (t ++ s)
comm [] t = Permᴰ.symm (Permᴰ.append-nil t)
comm (x ∷ s) t = Permᴰ.trans (Permᴰ.cons refl (comm s t)) (Permᴰ.symm (Permᴰ.middle x t s))

-- the same records in another order are sorted alike
pub sorted_alike : {R : Type 0} (key : R → ℕ) (h : ℕ → ℕ) {u v : List R} → Permᴰ u v → RecordSet key u → sort (rank_in key h) u ≡ sort (rank_in key h) v
sorted_alike key h {u} {v} p f =
    sorted_unique (rank_in key h) (sort (rank_in key h) u) (sort (rank_in key h) v)
    (Permᴰ.trans (sort-perm (rank_in key h) u) (Permᴰ.trans p (Permᴰ.symm (sort-perm (rank_in key h) v))))
    (set_sorted key h u f) (set_sorted key h v (set_perm key p f))

one-le : (t : Bool) → one t ≤ 1
one-le true = omega arith
one-le false = omega arith

module _ {R : Type 0} (home : R → ℕ) (b : ℕ) where
  -- one record more takes one slot more at most
  taken_more : (x : R) (s : List R) (a : ℕ) → taken home b (x ∷ s) a ≤ suc (taken home b s a)
  taken_more x s zero = omega arith
  taken_more x s (suc a) = omega (arith, taken_more x s a, one-le (leb (home x) a))

module _ {R : Type 0} (key : R → ℕ) (h : ℕ → ℕ) (b : ℕ) where
  -- an arrangement does not depend on the order in which the records are told, nor does an image
  pub room_perm : {n : ℕ} {s t : List R} → Permᴰ s t → Room key h b n s → Room key h b n t
  room_perm p w = let r = w.1 in (w.0, record { many = r.many; slots = r.slots; lies = r.lies; holds = Permᴰ.trans r.holds p })

  pub image_perm : {n : ℕ} {s t : List R} {ps : List (List R)} → Permᴰ s t → Image key h b n s ps → Image key h b n t ps
  image_perm p i =
      let r = i.arranged in
      record { arranged = record { many = r.many; slots = r.slots; lies = r.lies; holds = Permᴰ.trans r.holds p }; full = i.full; rising = i.rising }

  -- room without the first
  room_rest : {n : ℕ} (x : R) (s : List R) → RecordSet key (x ∷ s) → Room key h b n (x ∷ s) → Room key h b n s
  room_rest {n} x s f w =
      let all = (room_taken key h b n (x ∷ s) f).0 w in
      (room_taken key h b n s (set_rest key x s f)).1 (omega (arith, all, taken_more (home_of key h) b x s n, taken-le (home_of key h) b s n))

  -- and without some of them
  pub room_part : {n : ℕ} (xs s : List R) → RecordSet key (xs ++ s) → Room key h b n (xs ++ s) → Room key h b n s
  room_part [] s f w = w
  room_part (x ∷ xs) s f w = room_part xs s (set_rest key x (xs ++ s) f) (room_rest x (xs ++ s) f w)
