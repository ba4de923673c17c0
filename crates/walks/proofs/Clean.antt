-- Areas that are the bytes of good pages, and pages in order.
use mathlib.Core.Path.{◌≡◌, refl, sym, ap, ◌∙◌}
use mathlib.Core.Option.{some}
use mathlib.Core.List.Permᴰ
use mathlib.Core.List.{List, [], ◌∷◌, ◌++◌, map}
use Prim.Native.Nat.{ℕ, zero, suc, ◌+◌, ◌-◌, ◌≤◌, ◌<◌}
use native.Mathlib.Omega.{arith}
use lib.ListN.{length, drop, length-append, drop_of_length-le}
use lib.Seq.{drop-cons, drop_at, get_or_at}
use Rattle.layouts.specs.Layout.{Layout, slots_of}
use Rattle.placing.specs.Image.{All, cat, page, Distinct, RecordSet, Image}
use Rattle.placing.specs.Lay.{rank_in, Sorted}
use Rattle.placing.proofs.Lists.{all_right, all_page}
use Rattle.placing.proofs.Order.{sorted_left, sorted_right}
use Rattle.placing.proofs.Perms.{perm_all, perm_distinct}
use Rattle.placing.proofs.Strays.{all_pages, distinct_right}
use Rattle.placing.proofs.Tidy.{image_tidy}
use Rattle.pages.specs.Page.{Record, key, records_in, read_page}
use Rattle.pages.specs.Area.{part_at, pages_from, held_from, area_from}
use Rattle.pages.proofs.Areas.{part_area}
use Rattle.pages.specs.Small.{Small as Formed}
use Rattle.pages.proofs.RoundTrip.{bytes_read, read_good}
use Rattle.pages.proofs.Rules.{all_homes, sorted_rises}
use Rattle.walks.proofs.Holds.{Small}

-- n pages that are read back from their bytes
pub record Clean (form : Layout) (h : ℕ → ℕ) (n : ℕ) (ps : List (List Record)) : Type 0 where
  pub many : length ps ≡ n
  pub each : (a : ℕ) → a < n → read_page form h a (part_at (area_from form 0 ps) a) ≡ some (page ps a)

-- what is read page by page is what stands there
pub read_held : (form : Layout) (h : ℕ → ℕ) (area : List ℕ) (n a : ℕ) (ps : List (List Record)) → pages_from form h area n a ≡ map some ps → held_from form area n a ≡ ps
read_held form h area zero a [] e = refl
read_held form h area zero a (p ∷ ps) e = absurd (let z : ◌≡◌ {A = ℕ} 0 1 = cc in omega arith)
read_held form h area (suc n) a [] e = absurd (let z : ◌≡◌ {A = ℕ} 0 1 = cc in omega arith)
read_held form h area (suc n) a (p ∷ ps) e =
    let here : read_page form h a (part_at area a) ≡ some p = cc in
    let rest : pages_from form h area n (suc a) ≡ map some ps = cc in
    rw (← (read_good form h a (part_at area a) p here).records, read_held form h area n (suc a) ps rest)

module _ {form : Layout} {h : ℕ → ℕ} {n : ℕ} {ps : List (List Record)} (c : Clean form h n ps) where
  reads : (k a : ℕ) → a + k ≡ n → pages_from form h (area_from form 0 ps) k a ≡ map some (drop a ps)
  reads zero a e = rw (drop_of_length-le ps {i = a} (omega (arith, c.many)))
  reads (suc k) a e = rw (c.each a (omega arith), reads k (suc a) (omega arith), drop-cons ps a [] (omega (arith, c.many)))

  -- all of them are read back, and those from any page on
  pub clean_pass : pages_from form h (area_from form 0 ps) n 0 ≡ map some ps
  clean_pass = reads n 0 (omega arith)

  pub clean_from : (a : ℕ) → a ≤ n → pages_from form h (area_from form 0 ps) (n - a) a ≡ map some (drop a ps)
  clean_from a l = reads (n - a) a (omega arith)

  -- they stand where they are read, each at its address
  pub clean_held : held_from form (area_from form 0 ps) n 0 ≡ ps
  clean_held = read_held form h (area_from form 0 ps) n 0 ps clean_pass

  pub clean_part : (a : ℕ) → a < n → records_in form (part_at (area_from form 0 ps) a) ≡ page ps a
  clean_part a l = sym (read_good form h a (part_at (area_from form 0 ps) a) (page ps a) (c.each a l)).records

-- and those after some in front
module _ {form : Layout} {h : ℕ → ℕ} {n : ℕ} (front : List (List Record)) (a : ℕ) (at : length front ≡ a) where
  pub clean_after : (qs : List (List Record)) → Clean form h n (front ++ qs) → pages_from form h (area_from form 0 (front ++ qs)) (n - a) a ≡ map some qs
  clean_after qs c = clean_from c a (omega (arith, c.many, length-append front qs)) ∙ ap (map some) (drop_at front qs a at)

  module _ (p : List Record) (qs : List (List Record)) (c : Clean form h n (front ++ (p ∷ qs))) where
    pub clean_here : records_in form (part_at (area_from form 0 (front ++ (p ∷ qs))) a) ≡ p
    clean_here = clean_part c a (omega (arith, c.many, length-append front (p ∷ qs))) ∙ get_or_at front p qs [] a at

    pub clean_next : pages_from form h (area_from form 0 (front ++ (p ∷ qs))) (n - suc a) (suc a) ≡ map some qs
    clean_next =
        let m : n - a ≡ suc (n - suc a) = omega (arith, c.many, length-append front (p ∷ qs)) in
        let t = rw m at (clean_after (p ∷ qs) c) in
        cc

-- each page of sorted ones is sorted
sorted_page : (rank : Record → ℕ) (ps : List (List Record)) (a : ℕ) → Sorted rank (cat ps []) → Sorted rank (page ps a)
sorted_page rank [] a k = tt
sorted_page rank (p ∷ ps) zero k = sorted_left rank p (cat ps []) k
sorted_page rank (p ∷ ps) (suc a) k = sorted_page rank ps a (sorted_right rank p (cat ps []) k)

-- pages of b slots at most whose records stand in order, no key twice
pub record InOrder (b : ℕ) (h : ℕ → ℕ) (ps : List (List Record)) : Type 0 where
  pub small : All Small (cat ps [])
  pub slots : All (λ p. length p ≤ b) ps
  pub sorted : Sorted (rank_in key h) (cat ps [])
  pub once : Distinct key (cat ps [])

module _ {b : ℕ} {h : ℕ → ℕ} where
  pub order_next : {p : List Record} {ps : List (List Record)} → InOrder b h (p ∷ ps) → InOrder b h ps
  order_next {p} {ps} o =
      record {
        small = all_right Small p (cat ps []) o.small;
        slots = o.slots.1;
        sorted = sorted_right (rank_in key h) p (cat ps []) o.sorted;
        once = distinct_right key p (cat ps []) o.once;
      }

  pub order_from : (a : ℕ) (ps : List (List Record)) → InOrder b h ps → InOrder b h (drop a ps)
  order_from zero ps o = o
  order_from (suc a) [] o = o
  order_from (suc a) (p ∷ ps) o = order_from a ps (order_next o)

-- none of the records has the key of x
abbrev pub Others : Record → List (List Record) → Type 0
Others x ps = All (λ y. key y ≡ key x → ⊥) (cat ps [])

pub others_from : (x : Record) (a : ℕ) (ps : List (List Record)) → Others x ps → Others x (drop a ps)
others_from x zero ps s = s
others_from x (suc a) [] s = tt
others_from x (suc a) (p ∷ ps) s = others_from x a ps (all_right (λ y. key y ≡ key x → ⊥) p (cat ps []) s)

-- an image of records that the layout takes is clean, and in order
module _ {h : ℕ → ℕ} {n : ℕ} {s : List Record} {ps : List (List Record)} (f : RecordSet key s) where
  pub image_order : {b : ℕ} → Image key h b n s ps → InOrder b h ps
  image_order {b} i =
      record {
        small = perm_all Small (Permᴰ.symm i.arranged.holds) f.keys;
        slots = all_pages (λ p. length p ≤ b) ps i.arranged.slots;
        sorted = (image_tidy key h b f i).sorted;
        once = perm_distinct key (Permᴰ.symm i.arranged.holds) f.once;
      }

  pub image_clean : {form : Layout} → n ≤ 4096 → All (Formed form) s → Image key h (slots_of form) n s ps → Clean form h n ps
  image_clean {form} l v i = record { many = i.arranged.many; each = read }
    where
      both : All (Formed form) (cat ps [])
      both = perm_all (Formed form) (Permᴰ.symm i.arranged.holds) v

      read : (a : ℕ) → a < n → read_page form h a (part_at (area_from form 0 ps) a) ≡ some (page ps a)
      read a k =
          rw (part_area form a ps (omega (arith, i.arranged.many)))
          (bytes_read form a (page ps a) (i.arranged.slots a) (all_page (Formed form) ps a both) h (omega arith)
          (all_homes h a (page ps a) (i.arranged.lies a))
          (sorted_rises h (page ps a) (sorted_page (rank_in key h) ps a (image_order i).sorted)))
