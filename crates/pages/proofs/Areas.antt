-- Areas: a page read or written in one, and an area as the bytes of a list of pages.
use mathlib.Core.Path.{◌≡◌, refl, sym, ap, ◌∙◌}
use mathlib.Core.Option.{some}
use mathlib.Core.List.{List, [], ◌∷◌, ◌++◌, map, append_assoc}
use Prim.Native.Nat.{ℕ, zero, suc, ◌+◌, ◌-◌, ◌*◌, ◌≤◌, ◌<◌}
use native.Mathlib.Nat.{add-zero, zero-add}
use native.Mathlib.Decide.{dec_lt}
use native.Mathlib.Omega.{arith}
use lib.ListN.{length, take, drop, get_or, set, length-append, length-take, length-drop, take-append-drop, drop_of_length-le}
use lib.Seq.{take_at, drop_at, take-append-le, drop-append-le, take-append-add, drop-append-add, length-take-le, drop-drop}
use Rattle.numbers.specs.Little.{Bytes, written}
use Rattle.numbers.proofs.Laws.{written-length, written_after}
use Rattle.layouts.specs.Layout.{Layout}
use Rattle.pages.specs.Page.{Record, page_bytes, read_page}
use Rattle.pages.specs.Area.{part_at, pages_from, held_from, area_from, with_page}
use Rattle.pages.proofs.Bounds.{part_bytes}
use Rattle.pages.proofs.Write.{page_length}
use Rattle.pages.proofs.RoundTrip.{read_bytes}

pub part_length : (area : List ℕ) (a : ℕ) → 256 * (a + 1) ≤ length area → length (part_at area a) ≡ 256
unfolding part_at
part_length area a h = simp (length-take, length-drop) (omega arith)

-- what is lent of an area from a page's first byte to its last is the page's part
pub lent_part : (area : List ℕ) (a : ℕ) → take (256 * a + 256 - 256 * a) (drop (256 * a) area) ≡ part_at area a
unfolding part_at
lent_part area a =
    let n : 256 * a + 256 - 256 * a ≡ 256 = omega arith in
    rw n

-- a part that lies in the first of two lists
part_left : (s t : List ℕ) (b : ℕ) → 256 * (b + 1) ≤ length s → part_at (s ++ t) b ≡ part_at s b
unfolding part_at
part_left s t b h =
    rw (drop-append-le (256 * b) s t (omega arith)) (take-append-le 256 (drop (256 * b) s) t (omega (arith, length-drop (256 * b) s)))

module _ (f : Layout) where
  module _ (area : List ℕ) (a : ℕ) (p : List Record) (h : 256 * (a + 1) ≤ length area) where
    pub with_length : length (with_page f area a p) ≡ length area
    with_length = written-length area (256 * a) (page_bytes f a p) (omega (arith, page_length f a p))

    -- and every other page stays
    pub part_other : (b : ℕ) → (a ≡ b → ⊥) → part_at (with_page f area a p) b ≡ part_at area b
    unfolding part_at written
    part_other b ne = go (dec_lt b a)
      where
        go : Dec (b < a) → part_at (with_page f area a p) b ≡ part_at area b
        go (yes l) =
            let n : length (take (256 * a) area) ≡ 256 * a = length-take-le (256 * a) area (omega arith) in
            part_left (take (256 * a) area) (page_bytes f a p ++ drop (256 * a + length (page_bytes f a p)) area) b (omega arith)
            ∙ sym (part_left (take (256 * a) area) (drop (256 * a) area) b (omega arith))
            ∙ rw take-append-drop
        go (no l) =
            let j : ℕ = 256 * b - (256 * a + length (page_bytes f a p)) in
            let e : 256 * a + length (page_bytes f a p) + j ≡ 256 * b = omega (arith, page_length f a p, ne) in
            rw (← e, ← drop-drop j (256 * a + length (page_bytes f a p)) (with_page f area a p), written_after area (256 * a) (page_bytes f a p) (omega arith), drop-drop)

  pub area_length : (a : ℕ) (ps : List (List Record)) → length (area_from f a ps) ≡ 256 * length ps
  area_length a [] = refl
  area_length a (p ∷ ps) = omega (arith, length-append (page_bytes f a p) (area_from f (suc a) ps), page_length f a p, area_length (suc a) ps)

  part_from : (a i : ℕ) (ps : List (List Record)) → i < length ps → part_at (area_from f a ps) i ≡ page_bytes f (a + i) (get_or ps i [])
  unfolding part_at
  part_from a i [] l = absurd (omega arith)
  part_from a zero (p ∷ ps) l = rw add-zero (take_at (page_bytes f a p) (area_from f (suc a) ps) 256 (page_length f a p))
  part_from a (suc i) (p ∷ ps) l =
      let n : length (page_bytes f a p) ≡ 256 = page_length f a p in
      let e : 256 * suc i ≡ length (page_bytes f a p) + 256 * i = omega arith in
      let g : a + suc i ≡ suc a + i = omega arith in
      rw (e, g, drop-append-add (page_bytes f a p) (area_from f (suc a) ps) (256 * i)) (part_from (suc a) i ps (omega arith))

  -- a page of an area is a page of the list
  pub part_area : (i : ℕ) (ps : List (List Record)) → i < length ps → part_at (area_from f 0 ps) i ≡ page_bytes f i (get_or ps i [])
  part_area i ps l = rw zero-add at (part_from 0 i ps l)

  -- a write into the second of two lists
  written_right : (s t v : List ℕ) (at to : ℕ) → to ≡ length s + at → written (s ++ t) to v ≡ s ++ written t at v
  unfolding written
  written_right s t v at to e =
      let g : length s + at + length v ≡ length s + (at + length v) = omega arith in
      rw (e, g, take-append-add s t at, drop-append-add s t (at + length v)) (append_assoc s (take at t) (v ++ drop (at + length v) t))

  with_from : (a i : ℕ) (ps : List (List Record)) (p : List Record) → i < length ps
      → written (area_from f a ps) (256 * i) (page_bytes f (a + i) p) ≡ area_from f a (set ps i p)
  unfolding written
  with_from a i [] p l = absurd (omega arith)
  with_from a zero (q ∷ ps) p l = first
    where
      first : written (page_bytes f a q ++ area_from f (suc a) ps) 0 (page_bytes f (a + 0) p) ≡ page_bytes f a p ++ area_from f (suc a) ps
      first =
          let e : 0 + length (page_bytes f a p) ≡ 256 = omega (arith, page_length f a p) in
          rw (add-zero, e, drop_at (page_bytes f a q) (area_from f (suc a) ps) 256 (page_length f a q))
  with_from a (suc i) (q ∷ ps) p l =
      let g : a + suc i ≡ suc a + i = omega arith in
      rw g
      (written_right (page_bytes f a q) (area_from f (suc a) ps) (page_bytes f (suc a + i) p) (256 * i) (256 * suc i) (omega (arith, page_length f a q))
      ∙ ap (λ (t : List ℕ). page_bytes f a q ++ t) (with_from (suc a) i ps p (omega arith)))

  -- a page written in an area is a page set in the list
  pub with_area : (i : ℕ) (ps : List (List Record)) (p : List Record) → i < length ps → with_page f (area_from f 0 ps) i p ≡ area_from f 0 (set ps i p)
  with_area i ps p l = rw zero-add at (with_from 0 i ps p l)

  -- good pages from an address on are the bytes of their records
  pub pages_from_lem : (h : ℕ → ℕ) (area : List ℕ) → Bytes area → (n a : ℕ) (ps : List (List Record)) → length area ≡ 256 * (a + n)
      → pages_from f h area n a ≡ map some ps → drop (256 * a) area ≡ area_from f a ps
  unfolding part_at
  pages_from_lem h area b zero a [] n e = drop_of_length-le area {i = 256 * a} (omega arith)
  pages_from_lem h area b zero a (p ∷ ps) n e = absurd (let z : ◌≡◌ {A = ℕ} 0 1 = cc in omega arith)
  pages_from_lem h area b (suc k) a [] n e = absurd (let z : ◌≡◌ {A = ℕ} 0 1 = cc in omega arith)
  pages_from_lem h area b (suc k) a (p ∷ ps) n e =
      let here : read_page f h a (part_at area a) ≡ some p = cc in
      let rest : pages_from f h area k (suc a) ≡ map some ps = cc in
      let q : part_at area a ≡ page_bytes f a p = read_bytes f h a (part_at area a) p here (part_length area a (omega arith)) (part_bytes area a b) in
      split q (pages_from_lem h area b k (suc a) ps (omega arith) rest)
    where
      split : part_at area a ≡ page_bytes f a p → drop (256 * suc a) area ≡ area_from f (suc a) ps → drop (256 * a) area ≡ page_bytes f a p ++ area_from f (suc a) ps
      split q r =
          let g : 256 * suc a ≡ 256 * a + 256 = omega arith in
          rw (← q, ← r, g, ← drop-drop 256 (256 * a) area) (sym (take-append-drop 256 (drop (256 * a) area)))

  -- an area whose pages are all good is the bytes of their records
  pub area_pages : (h : ℕ → ℕ) (area : List ℕ) (n : ℕ) (ps : List (List Record)) → Bytes area → length area ≡ 256 * n → pages_from f h area n 0 ≡ map some ps
      → area ≡ area_from f 0 ps
  area_pages h area n ps b l e = pages_from_lem h area b n 0 ps (omega arith) e

  -- n pages are n
  pub held_length : (area : List ℕ) (n a : ℕ) → length (held_from f area n a) ≡ n
  held_length area zero a = refl
  held_length area (suc n) a = ap suc (held_length area n (suc a))

  pub pages_length : (h : ℕ → ℕ) (area : List ℕ) (n a : ℕ) → length (pages_from f h area n a) ≡ n
  pages_length h area zero a = refl
  pages_length h area (suc n) a = ap suc (pages_length h area n (suc a))
