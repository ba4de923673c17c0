-- An entry comes from another page than the one on which it is laid exactly where that page did not
-- hold its key.
use mathlib.Core.Path.{◌≡◌, refl, sym, ap, ◌∙◌}
use mathlib.Core.Bool.{true}
use mathlib.Core.Option.{Option}
use mathlib.Core.List.{List, [], ◌∷◌, ◌++◌, map}
use Prim.Native.Nat.{ℕ, zero, suc, ◌+◌, ◌≤◌, min}
use native.Mathlib.Omega.{arith}
use lib.Dec.{eqb}
use lib.ListN.{length, drop}
use borrow.Author.Tests.{eq-eqb, ne_eqb}
use Rattle.placing.specs.Image.{All, cat, page, Distinct}
use Rattle.placing.specs.Lay.{sort, up_to, lay}
use Rattle.placing.specs.Rows.{is_there, strays, strayed}
use Rattle.placing.specs.Walks.{seek}
use Rattle.placing.proofs.Lists.{all_map, all_map₂, all_append, all_right, all_take, all_page}
use Rattle.placing.proofs.Seek.{ne_seek}
use Rattle.placing.proofs.Strays.{distinct_right, there}
use Rattle.pages.specs.Page.{Record, key}
use Rattle.entries.specs.declared.Entry.{Entry}
use Rattle.entries.specs.Steps.Entries.{rank, home}
use Rattle.rebuild.specs.Relaid.{relaid}
use Rattle.rebuild.specs.Steps.Rebuild.{slots, tagged, tagged_from, record_in, hops, hops_from}
use Rattle.rebuild.proofs.Commuting.{all_drop, all_sort, all_records, pages_records, pages_relaid}

module _ {R : Type 0} (key : R → ℕ) where
  -- no two of two lists have the same key
  abbrev Apart : List R → List R → Type 0
  Apart t s = All (λ x. All (λ y. key y ≡ key x → ⊥) t) s

  apart_parts : (s t : List R) → Distinct key (s ++ t) → Apart t s
  apart_parts [] t d = tt
  apart_parts (x ∷ s) t d = (all_right (λ y. key y ≡ key x → ⊥) s t d.0, apart_parts s t d.1)

  apart_none : (t : List R) → Apart [] t
  apart_none [] = tt
  apart_none (y ∷ t) = (tt, apart_none t)

  apart_flip : (s t : List R) → Apart t s → Apart s t
  apart_flip [] t h = apart_none t
  apart_flip (x ∷ s) t h =
      all_map₂ (λ y. key y ≡ key x → ⊥) (λ y. All (λ w. key w ≡ key y → ⊥) s) (λ y. All (λ w. key w ≡ key y → ⊥) (x ∷ s))
      (λ y n k. ((λ q. n (sym q)), k)) t h.0 (apart_flip s t h.1)

-- an entry's page, of pages from address a on, is the one that holds its key
abbrev pub Came : ℕ → List (List Record) → Entry → Type 0
Came a ps e = (i : ℕ) → is_there (seek key e.held.key (page ps i)) ≡ eqb e.from (a + i)

-- an entry of the first page
came_first : (a : ℕ) (p : List Record) (ps : List (List Record)) (e : Entry) → e.from ≡ a → is_there (seek key e.held.key p) ≡ true
    → All (λ y. key y ≡ e.held.key → ⊥) (cat ps []) → Came a (p ∷ ps) e
came_first a p ps e f h n zero = h ∙ sym (eq-eqb e.from (a + 0) (omega arith))
came_first a p ps e f h n (suc i) =
    ap (λ (o : Option Record). is_there o) (ne_seek key e.held.key (page ps i) (all_page (λ y. key y ≡ e.held.key → ⊥) ps i n))
    ∙ sym (ne_eqb e.from (a + suc i) (λ q. omega arith))

-- an entry of a later page
came_later : (a : ℕ) (p : List Record) (ps : List (List Record)) (e : Entry) → suc a ≤ e.from → All (λ x. key x ≡ e.held.key → ⊥) p
    → Came (suc a) ps e → Came a (p ∷ ps) e
came_later a p ps e f n k zero =
    ap (λ (o : Option Record). is_there o) (ne_seek key e.held.key p n) ∙ sym (ne_eqb e.from (a + 0) (λ q. omega arith))
came_later a p ps e f n k (suc i) = let q : suc a + i ≡ a + suc i = omega arith in rw (← q) (k i)

module _ (h : ℕ → ℕ) where
  tagged_each : (P : Record → Type 0) (Q : Entry → Type 0) (a : ℕ)
      → ((x : Record) → P x → Q (record { home = h (key x); from = a; held = x })) → (p : List Record) → All P p → All Q (tagged h a p)
  tagged_each P Q a f [] k = tt
  tagged_each P Q a f (x ∷ p) k = (f x k.0, tagged_each P Q a f p k.1)

  from_low : (a : ℕ) (ps : List (List Record)) → All (λ e. a ≤ e.from) (tagged_from h a ps)
  from_low a [] = tt
  from_low a (p ∷ ps) =
      all_append (λ e. a ≤ e.from) (tagged h a p) (tagged_from h (suc a) ps)
      (tagged_each (λ x. is_there (seek key (key x) p) ≡ true) (λ e. a ≤ e.from) a (λ x t. omega arith) p (there key p))
      (all_map (λ e. suc a ≤ e.from) (λ e. a ≤ e.from) (λ e l. omega arith) (tagged_from h (suc a) ps) (from_low (suc a) ps))

  pub came : (a : ℕ) (ps : List (List Record)) → Distinct key (cat ps []) → All (Came a ps) (tagged_from h a ps)
  came a [] d = tt
  came a (p ∷ ps) d =
      all_append (Came a (p ∷ ps)) (tagged h a p) rest
      (tagged_each First (Came a (p ∷ ps)) a (λ x f. came_first a p ps (record { home = h (key x); from = a; held = x }) refl f.0 f.1) p firsts)
      (all_map₂ Later (Came (suc a) ps) (Came a (p ∷ ps)) (λ e l k. came_later a p ps e l.0 l.1 k) rest laters (came (suc a) ps (distinct_right key p (cat ps []) d)))
    where
      rest : List Entry
      rest = tagged_from h (suc a) ps

      First : Record → Type 0
      First x = (is_there (seek key (key x) p) ≡ true) × All (λ y. key y ≡ key x → ⊥) (cat ps [])

      Later : Entry → Type 0
      Later e = (suc a ≤ e.from) × All (λ x. key x ≡ e.held.key → ⊥) p

      firsts : All First p
      firsts =
          all_map₂ (λ x. is_there (seek key (key x) p) ≡ true) (λ x. All (λ y. key y ≡ key x → ⊥) (cat ps [])) First (λ x t n. (t, n)) p (there key p)
          (apart_parts key p (cat ps []) d)

      laters : All Later rest
      laters =
          all_map₂ (λ e. suc a ≤ e.from) (λ e. All (λ x. key x ≡ e.held.key → ⊥) p) Later (λ e l n. (l, n)) rest (from_low (suc a) ps)
          (all_records (λ y. All (λ x. key x ≡ key y → ⊥) p) rest (rw (pages_records h (suc a) ps) (apart_flip key p (cat ps []) (apart_parts key p (cat ps []) d))))

hops-strays : (a : ℕ) (p : List Record) (q : List Entry) → All (λ e. is_there (seek key e.held.key p) ≡ eqb e.from a) q
    → hops a q ≡ strays key p (map record_in q)
hops-strays a p [] k = refl
hops-strays a p (e ∷ q) k = rw (k.0, hops-strays a p q k.1)

-- those that come from another page are those that the page did not hold
pub hops_strayed : (a : ℕ) (ps : List (List Record)) (qs : List (List Entry)) → length qs ≡ length ps → All (All (Came a ps)) qs
    → hops_from a qs ≡ strayed key ps (map (map record_in) qs)
hops_strayed a [] [] n k = refl
hops_strayed a [] (q ∷ qs) n k = absurd (omega arith)
hops_strayed a (p ∷ ps) [] n k = refl
hops_strayed a (p ∷ ps) (q ∷ qs) n k =
    rw (hops-strays a p q here, hops_strayed (suc a) ps qs (omega arith) after)
  where
    here : All (λ e. is_there (seek key e.held.key p) ≡ eqb e.from a) q
    here = all_map (Came a (p ∷ ps)) (λ e. is_there (seek key e.held.key p) ≡ eqb e.from a)
        (λ e c. let z : a + 0 ≡ a = omega arith in rw z at (c 0)) q k.0

    after : All (All (Came (suc a) ps)) qs
    after = all_map (All (Came a (p ∷ ps))) (All (Came (suc a) ps))
        (λ s f. all_map (Came a (p ∷ ps)) (Came (suc a) ps) (λ e c i. let z : a + suc i ≡ suc a + i = omega arith in rw z at (c (suc i))) s f) qs k.1

module _ {R : Type 0} (home : R → ℕ) (b : ℕ) where
  lay-length : (n a : ℕ) (s : List R) → length (lay home b n a s) ≡ n
  lay-length zero a s = refl
  lay-length (suc n) a s = ap suc (lay-length n (suc a) (drop (min b (up_to home a s)) s))

  lay_all : (P : R → Type 0) (n a : ℕ) (s : List R) → All P s → All (All P) (lay home b n a s)
  lay_all P zero a s h = tt
  lay_all P (suc n) a s h =
      let k : ℕ = min b (up_to home a s) in
      (all_take P k s h, lay_all P n (suc a) (drop k s) (all_drop P k s h))

-- so they are counted where the entries of pages are laid anew
pub pages_moved : (h : ℕ → ℕ) (n : ℕ) (ps : List (List Record)) → length ps ≡ n → Distinct key (cat ps [])
    → hops_from 0 (lay home slots n 0 (sort rank (tagged_from h 0 ps))) ≡ strayed key ps (relaid slots h n ps)
pages_moved h n ps e d =
    let s : List Entry = sort rank (tagged_from h 0 ps) in
    hops_strayed 0 ps (lay home slots n 0 s) (lay-length home slots n 0 s ∙ sym e)
    (lay_all home slots (Came 0 ps) n 0 s (all_sort (Came 0 ps) rank (tagged_from h 0 ps) (came h 0 ps d)))
    ∙ ap (λ (qs : List (List Record)). strayed key ps qs) (pages_relaid h ps n)
