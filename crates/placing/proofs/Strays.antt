-- Records that lie on another page than before: none where a page is left as it is, and one for
-- each time that a put's walk hands one on.
use mathlib.Core.Path.{◌≡◌, refl, sym, ap, ◌∙◌}
use mathlib.Core.Bool.{Bool, true, false, cond, not, ◌||◌}
use mathlib.Core.Option.{Option, none, some}
use mathlib.Core.List.Permᴰ
use mathlib.Core.List.{List, [], ◌∷◌, ◌++◌, append_assoc}
use Prim.Native.Nat.{ℕ, zero, suc, ◌+◌, ◌≤◌, ◌<◌}
use native.Mathlib.Omega.{arith}
use lib.Dec.{ltb, eqb}
use lib.ListN.{length, take, get_or, length-append}
use lib.Seq.{take_at, get_or_at}
use borrow.Author.Tests.{ltb-true, ltb-false, lt-ltb, eqb-true}
use Rattle.placing.specs.Image.{All, cat, page, Distinct}
use Rattle.placing.specs.Lay.{ins, Sorted}
use Rattle.placing.specs.Rows.{is_there, strays, strayed}
use Rattle.placing.specs.Walks.{seek, last_after, ends_on, carry}
use Rattle.placing.proofs.Lists.{all_map, all_left, all_right, all_page}
use Rattle.placing.proofs.Order.{sorted_right, ins-length, ins_front}
use Rattle.placing.proofs.Seek.{clash, seek_ne, ne_seek, seek_here}
use Rattle.placing.proofs.Perms.{perm-count, perm-seek, ins-perm}

module _ {R : Type 0} where
  -- what holds of the page at each address holds of all
  pub all_pages : (P : List R → Type 0) (ps : List (List R)) → ((a : ℕ) → P (page ps a)) → All P ps
  all_pages P [] h = tt
  all_pages P (p ∷ ps) h = (h 0, all_pages P ps (λ a. h (suc a)))

module _ {R : Type 0} (key : R → ℕ) where
  pub distinct_left : (s t : List R) → Distinct key (s ++ t) → Distinct key s
  distinct_left [] t d = tt
  distinct_left (x ∷ s) t d = (all_left (λ y. key y ≡ key x → ⊥) s t d.0, distinct_left s t d.1)

  pub distinct_right : (s t : List R) → Distinct key (s ++ t) → Distinct key t
  distinct_right [] t d = d
  distinct_right (x ∷ s) t d = distinct_right s t d.1

  -- what the first part holds the second does not
  distinct_parts : (k : ℕ) (x : R) (s t : List R) → Distinct key (s ++ t) → seek key k s ≡ some x → seek key k t ≡ none
  distinct_parts k x [] t d e = absurd (clash e)
  distinct_parts k x (y ∷ s) t d e = go (eqb (key y) k) refl e (distinct_parts k x s t d.1)
    where
      go : (u : Bool) → eqb (key y) k ≡ u → cond u (some y) (seek key k s) ≡ some x → (seek key k s ≡ some x → seek key k t ≡ none) → seek key k t ≡ none
      go true q f ih = let z : key y ≡ k = eqb-true (key y) k q in rw (← z) (ne_seek key (key y) t (all_right (λ w. key w ≡ key y → ⊥) s t d.0))
      go false q f ih = ih f

  -- nor the first part a record of the second
  pub apart : (s : List R) (z : R) (t : List R) → Distinct key (s ++ (z ∷ t)) → seek key (key z) s ≡ none
  apart s z t d = go (seek key (key z) s) refl
    where
      go : (o : Option R) → seek key (key z) s ≡ o → o ≡ none
      go none e = refl
      go (some x) e = absurd (clash (sym (distinct_parts (key z) x s (z ∷ t) d e) ∙ seek_here key z t))

  -- what no page holds is on none of them
  pub page-none : (k : ℕ) (ps : List (List R)) (a : ℕ) → seek key k (cat ps []) ≡ none → seek key k (page ps a) ≡ none
  page-none k ps a e = ne_seek key k (page ps a) (all_page (λ y. key y ≡ k → ⊥) ps a (seek_ne key k (cat ps []) e))

  -- and one page at most holds a key
  pub one_page : (k : ℕ) (x y : R) (ps : List (List R)) (a b : ℕ) → Distinct key (cat ps []) → seek key k (page ps a) ≡ some x → seek key k (page ps b) ≡ some y → a ≡ b
  one_page k x y [] a b d e f = absurd (clash e)
  one_page k x y (p ∷ ps) zero zero d e f = refl
  one_page k x y (p ∷ ps) zero (suc b) d e f = absurd (clash (sym (page-none k ps b (distinct_parts k x p (cat ps []) d e)) ∙ f))
  one_page k x y (p ∷ ps) (suc a) zero d e f = absurd (clash (sym (page-none k ps a (distinct_parts k y p (cat ps []) d f)) ∙ e))
  one_page k x y (p ∷ ps) (suc a) (suc b) d e f = ap suc (one_page k x y ps a b (distinct_right p (cat ps []) d) e f)

  -- a page holds the key of a record
  abbrev pub There : List R → R → Type 0
  There p x = is_there (seek key (key x) p) ≡ true

  there_on : (y : R) (p s : List R) → All (There p) s → All (There (y ∷ p)) s
  there_on y p s h = all_map (There p) (There (y ∷ p)) (λ x t. more (eqb (key y) (key x)) (seek key (key x) p) t) s h
    where
      more : (u : Bool) (o : Option R) → is_there o ≡ true → is_there (cond u (some y) o) ≡ true
      more true o t = refl
      more false o t = t

  pub there : (p : List R) → All (There p) p
  there [] = tt
  there (y ∷ p) = (ap (λ (o : Option R). is_there o) (seek_here key y p), there_on y p p (there p))

  strays-append : (p s t : List R) → strays key p (s ++ t) ≡ strays key p s + strays key p t
  strays-append p [] t = omega arith
  strays-append p (x ∷ s) t = omega (arith, strays-append p s t)

  pub strays_none : (p q : List R) → All (There p) q → strays key p q ≡ 0
  strays_none p [] h = refl
  strays_none p (x ∷ q) h = rw h.0 (omega (arith, strays_none p q h.1))

  -- a page that does not hold z, and all else
  strays_one : (p : List R) (z : R) (q : List R) → seek key (key z) p ≡ none → All (There p) q → strays key p (z ∷ q) ≡ 1
  strays_one p z q e h = rw e (omega (arith, strays_none p q h))

  pub strayed_none : (ps : List (List R)) → strayed key ps ps ≡ 0
  strayed_none [] = refl
  strayed_none (p ∷ ps) = omega (arith, strays_none p p (there p), strayed_none ps)

  -- pages that stay don't count
  pub strayed_after : (front ps qs : List (List R)) → strayed key (front ++ ps) (front ++ qs) ≡ strayed key ps qs
  strayed_after [] ps qs = refl
  strayed_after (p ∷ front) ps qs = omega (arith, strays_none p p (there p), strayed_after front ps qs)

  module _ (rank : R → ℕ) where
    -- a record that comes to a page is found there with the others
    seek-ins : (k : ℕ) (x : R) (p : List R) → Distinct key (x ∷ p) → seek key k (ins rank x p) ≡ seek key k (x ∷ p)
    seek-ins k x p d = sym (perm-seek key k (Permᴰ.symm (ins-perm rank x p)) d)

    -- and is the only one that was not there
    pub strays-ins : (p : List R) (z : R) (q : List R) → seek key (key z) p ≡ none → All (There p) q → strays key p (ins rank z q) ≡ 1
    strays-ins p z q e h = perm-count (λ x. not (is_there (seek key (key x) p))) (ins-perm rank z q) ∙ strays_one p z q e h

    there_ins : (x : R) (p : List R) → Distinct key (x ∷ p) → All (There (ins rank x p)) p
    there_ins x p d =
        all_map (There (x ∷ p)) (There (ins rank x p)) (λ y t. ap (λ (o : Option R). is_there o) (seek-ins (key y) x p d) ∙ t) p (there_on x p p (there p))

    -- a list whose last stands after r
    record EndsAfter (r : ℕ) (p : List R) : Type 0 where
      front : List R
      last : R
      whole : p ≡ front ++ (last ∷ [])
      after : r < rank last

    last_cut : (r : ℕ) (p : List R) → last_after rank r p ≡ true → EndsAfter r p
    last_cut r [] e = absurd (let z : ◌≡◌ {A = ℕ} 0 1 = cc in omega arith)
    last_cut r (y ∷ []) e = record { front = []; last = y; whole = refl; after = ltb-true r (rank y) e }
    last_cut r (y ∷ (w ∷ p)) e =
        let t = last_cut r (w ∷ p) e in
        record { front = y ∷ t.front; last = t.last; whole = ap (λ (l : List R). y ∷ l) t.whole; after = t.after }

    all_last : (r : ℕ) (p : List R) → 0 < length p → All (λ y. r < rank y) p → last_after rank r p ≡ true
    all_last r [] l h = absurd (omega arith)
    all_last r (y ∷ []) l h = lt-ltb r (rank y) h.0
    all_last r (y ∷ (w ∷ p)) l h = all_last r (w ∷ p) (omega arith) h.1

    -- one more on a full page whose last stands after it: that one is handed on, and x stays
    module _ (b : ℕ) (x : R) (p : List R) (full : length p ≡ b) (t : EndsAfter (rank x) p) where
      opens : ins rank x p ≡ ins rank x t.front ++ (t.last ∷ [])
      opens = ap (ins rank x) t.whole ∙ ins_front rank x t.front (t.last ∷ []) (omega (arith, t.after), tt)

      fills : length (ins rank x t.front) ≡ b
      fills = omega (arith, ins-length rank x t.front, length-append t.front (t.last ∷ []), ap length t.whole)

      stays_on : take b (ins rank x p) ≡ ins rank x t.front
      stays_on = rw opens (take_at (ins rank x t.front) (t.last ∷ []) b fills)

      handed_on : get_or (ins rank x p) b x ≡ t.last
      handed_on = rw opens (get_or_at (ins rank x t.front) t.last [] x b fills)

      -- it is the one record that the page no longer holds
      one_strays : Distinct key (x ∷ p) → strays key (take b (ins rank x p)) p ≡ 1
      one_strays d =
          let e : Distinct key (x ∷ (t.front ++ (t.last ∷ []))) = rw t.whole at d in
          let f = distinct_left (x ∷ t.front) (t.last ∷ []) e in
          let n : seek key (key t.last) (ins rank x t.front) ≡ none = seek-ins (key t.last) x t.front f ∙ apart (x ∷ t.front) t.last [] e in
          rw (stays_on, t.whole)
          (omega (
            arith,
            strays-append (ins rank x t.front) t.front (t.last ∷ []),
            strays_none (ins rank x t.front) t.front (there_ins x t.front f),
            strays_one (ins rank x t.front) t.last [] n tt,
          ))

module _ {R : Type 0} (rank : R → ℕ) (b : ℕ) where
  -- how often a record that comes to the first of these pages makes one go on to the next
  abbrev pub hops : R → List (List R) → ℕ
  hops x [] = 0
  hops x (p ∷ ps) = cond (ltb (length p) b) 0 (suc (hops (get_or (ins rank x p) b x) ps))

  -- what is of rank r does not go past the first page
  abbrev pub EndsFirst : ℕ → List (List R) → Type 0
  EndsFirst r [] = Unit {0}
  EndsFirst r (p ∷ ps) = ends_on rank b r p ≡ true

module _ {R : Type 0} (key rank : R → ℕ) (b : ℕ) (pos : 0 < b) where
  -- what stands before all of the records goes to the first page
  all_ends : (r : ℕ) (ps : List (List R)) → All (λ y. r < rank y) (cat ps []) → EndsFirst rank b r ps
  all_ends r [] h = tt
  all_ends r (p ∷ ps) h = go (ltb (length p) b) refl
    where
      go : (u : Bool) → ltb (length p) b ≡ u → (u || last_after rank r p) ≡ true
      go true e = refl
      go false e = all_last key rank r p (omega (arith, ltb-false (length p) b e)) (all_left (λ y. r < rank y) p (cat ps []) h)

  -- the first page then holds x
  pub first_holds : (x : R) (p : List R) (ps : List (List R)) → length p ≤ b → EndsFirst rank b (rank x) (p ∷ ps) → Distinct key (x ∷ p) → seek key (key x) (page (carry rank b x (p ∷ ps)).0 0) ≡ some x
  first_holds x p ps l e d = go (ltb (length p) b) refl
    where
      q : List R
      q = ins rank x p

      on : List (List R) × List R
      on = carry rank b (get_or q b x) ps

      came : Bool → List (List R) × List R
      came u = cond u (q ∷ ps, []) (take b q ∷ on.0, on.1)

      go : (u : Bool) → ltb (length p) b ≡ u → seek key (key x) (page (came u).0 0) ≡ some x
      go true f = seek-ins key rank (key x) x p d ∙ seek_here key x p
      go false f =
          let full : length p ≡ b = omega (arith, ltb-false (length p) b f) in
          let t = last_cut key rank (rank x) p (rw f at e) in
          let g : Distinct key (x ∷ (t.front ++ (t.last ∷ []))) = rw t.whole at d in
          rw (stays_on key rank b x p full t) (seek-ins key rank (key x) x t.front (distinct_left key (x ∷ t.front) (t.last ∷ []) g) ∙ seek_here key x t.front)

  -- so many records of sorted pages are no longer on their page when x has come to the first
  pub hops_strayed : (x : R) (ps : List (List R)) → All (λ p. length p ≤ b) ps → EndsFirst rank b (rank x) ps → Sorted rank (cat ps []) → Distinct key (x ∷ cat ps [])
      → strayed key (carry rank b x ps).0 ps ≡ hops rank b x ps
  hops_strayed x [] w e s d = refl
  hops_strayed x (p ∷ ps) w e s d = go (ltb (length p) b) refl (hops_strayed (get_or (ins rank x p) b x) ps w.1)
    where
      t : List R
      t = cat ps []

      y : R
      y = get_or (ins rank x p) b x

      came : Bool → List (List R) × List R
      came u = cond u (ins rank x p ∷ ps, []) (take b (ins rank x p) ∷ (carry rank b y ps).0, (carry rank b y ps).1)

      here : Distinct key (x ∷ p)
      here = distinct_left key (x ∷ p) t d

      go : (u : Bool) → ltb (length p) b ≡ u → (EndsFirst rank b (rank y) ps → Sorted rank t → Distinct key (y ∷ t) → strayed key (carry rank b y ps).0 ps ≡ hops rank b y ps)
          → strayed key (came u).0 (p ∷ ps) ≡ cond u 0 (suc (hops rank b y ps))
      go true f ih = omega (arith, strays_none key (ins rank x p) p (there_ins key rank x p here), strayed_none key ps)
      go false f ih =
          let full : length p ≡ b = omega (arith, ltb-false (length p) b f, w.0) in
          let c = last_cut key rank (rank x) p (rw f at e) in
          let z : c.front ++ (c.last ∷ t) ≡ p ++ t = sym (append_assoc c.front (c.last ∷ []) t) ∙ ap (λ (l : List R). l ++ t) (sym c.whole) in
          let q : y ≡ c.last = handed_on key rank b x p full c in
          let k : Sorted rank (c.last ∷ t) = sorted_right rank c.front (c.last ∷ t) (rw z s) in
          let g : Distinct key (c.last ∷ t) = distinct_right key c.front (c.last ∷ t) (rw z d.1) in
          let on = ih (rw q (all_ends (rank c.last) ps k.0)) k.1 (rw q g) in
          omega (arith, one_strays key rank b x p full c here, on)
