-- The survey's test tells whether good pages are an image (01, 'The one image').
use mathlib.Core.Path.{◌≡◌, refl, sym, ap, ◌∙◌}
use mathlib.Core.Bool.{Bool, true, false, ◌&&◌}
use mathlib.Core.Logic.{◌↔◌}
use mathlib.Core.Option.{Option, none, some}
use mathlib.Core.List.Permᴰ
use mathlib.Core.List.{List, [], ◌∷◌, ◌++◌, map}
use Prim.Native.Nat.{ℕ, zero, suc, ◌+◌, ◌*◌, ◌^◌, ◌≤◌, ◌<◌}
use native.Mathlib.Omega.{arith}
use lib.Dec.{leb}
use lib.ListN.{length}
use borrow.Author.Tests.{leb-true, le-leb}
use Rattle.numbers.specs.Little.{Bytes}
use Rattle.numbers.proofs.Records.{and_left, and_right}
use Rattle.layouts.specs.Layout.{Layout, slots_of}
use Rattle.layouts.proofs.Lying.{slots_few}
use Rattle.placing.specs.Image.{All, cat, Distinct, RecordSet, home_of, Image}
use Rattle.placing.specs.Lay.{rank_of, rank_in, Sorted}
use Rattle.placing.proofs.Lists.{all_map, all_append, all_right}
use Rattle.placing.proofs.Order.{sorted_right, lower}
use Rattle.placing.proofs.Forms.{FirstHome, Local, local_packed, packed_local}
use Rattle.placing.proofs.Rank.{mono, rising_sorted}
use Rattle.placing.proofs.Tidy.{Tidy, image_tidy, tidy_image}
use Rattle.placing.proofs.Seek.{clash}
use Rattle.pages.specs.Page.{Record, key, records_in, homes_to, rises, read_page}
use Rattle.pages.specs.Area.{part_at, pages_from, held_from}
use Rattle.pages.proofs.RoundTrip.{Good, read_good}
use Rattle.pages.proofs.Bounds.{keys_small}
use Rattle.pages.proofs.Rules.{homes_all, rises_sorted}
use Rattle.pages.proofs.Areas.{held_length}
use Rattle.survey.specs.Survey.{lowest_broken, starts_at_home, starts_at, next_low, image_from, is_image}

module _ (f : Layout) (h : ℕ → ℕ) where
  abbrev rank : Record → ℕ
  rank = rank_in key h

  -- a page at address a keeps the page rules
  pub record GoodPage (a : ℕ) (p : List Record) : Type 0 where
    pub few : length p ≤ (slots_of f)
    pub homes : homes_to h a p ≡ true
    pub rising : rises h p ≡ true
    pub keys : All (λ x. key x < 2 ^ 64) p

  -- and so do all, the first at address a
  abbrev pub GoodFrom : ℕ → List (List Record) → Type 0
  GoodFrom a [] = Unit {0}
  GoodFrom a (p ∷ ps) = GoodPage a p × GoodFrom (suc a) ps

  -- their keys are 64-bit numbers
  good_keys : (a : ℕ) (ps : List (List Record)) → GoodFrom a ps → All (λ x. key x < 2 ^ 64) (cat ps [])
  good_keys a [] g = tt
  good_keys a (p ∷ ps) g = all_append (λ x. key x < 2 ^ 64) p (cat ps []) g.0.keys (good_keys (suc a) ps g.1)

  -- what comes after a page stands after its last record
  after_last : (low : ℕ) (p t : List Record) → Sorted rank (p ++ t) → All (λ y. low ≤ rank y) t → All (λ y. next_low h low p ≤ rank y) t
  after_last low [] t s b = b
  after_last low (x ∷ []) t s b = s.0
  after_last low (x ∷ (y ∷ p)) t s b = after_last low (y ∷ p) t s.1 b

  -- and where it does, page and rest are sorted
  sorted_append : (low : ℕ) (p t : List Record) → Sorted rank p → All (λ y. next_low h low p ≤ rank y) t → Sorted rank t → Sorted rank (p ++ t)
  sorted_append low [] t s b k = k
  sorted_append low (x ∷ []) t s b k = (b, k)
  sorted_append low (x ∷ (y ∷ p)) t s b k =
      let on : Sorted rank (y ∷ (p ++ t)) = sorted_append low (y ∷ p) t s.1 b k in
      (lower rank (rank x) y (p ++ t) on s.0.0, on)

  -- a sorted list stands at `low` or after where its first does
  starts_low : (low : ℕ) (p t : List Record) → starts_at h low p ≡ true → Sorted rank (p ++ t) → All (λ y. next_low h low p ≤ rank y) t
      → All (λ y. low ≤ rank y) (p ++ t)
  starts_low low [] t e s b = b
  starts_low low (x ∷ p) t e s b =
      let l : low ≤ rank x = leb-true low (rank x) e in
      (l, all_map (λ y. rank x < rank y) (λ y. low ≤ rank y) (λ y k. omega arith) (p ++ t) s.0)

  low_starts : (low : ℕ) (p t : List Record) → All (λ y. low ≤ rank y) (p ++ t) → starts_at h low p ≡ true
  low_starts low [] t b = refl
  low_starts low (x ∷ p) t b = le-leb low (rank x) b.0

  -- the test of the first home is that of the page by page form
  starts_first : (full : Bool) (a : ℕ) (p : List Record) → starts_at_home h full a p ≡ true → FirstHome (home_of key h) (slots_of f) full a p
  starts_first true a p e = tt
  starts_first false a [] e = tt
  starts_first false a (x ∷ p) e = leb-true a (h (key x)) e

  first_starts : (full : Bool) (a : ℕ) (p : List Record) → FirstHome (home_of key h) (slots_of f) full a p → starts_at_home h full a p ≡ true
  first_starts true a p f = refl
  first_starts false a [] f = refl
  first_starts false a (x ∷ p) f = le-leb a (h (key x)) f

  -- the test of a page and of those after it is three tests
  pub three : (full : Bool) (low a : ℕ) (p : List Record) (ps : List (List Record)) → image_from f h full low a (p ∷ ps) ≡ true
      → (starts_at_home h full a p ≡ true) × (starts_at h low p ≡ true) × (image_from f h (leb (slots_of f) (length p)) (next_low h low p) (suc a) ps ≡ true)
  three full low a p ps e =
      let on : Bool = image_from f h (leb (slots_of f) (length p)) (next_low h low p) (suc a) ps in
      let both : (starts_at h low p && on) ≡ true = and_right (starts_at_home h full a p) (starts_at h low p && on) e in
      (and_left (starts_at_home h full a p) (starts_at h low p && on) e, and_left (starts_at h low p) on both, and_right (starts_at h low p) on both)

  -- good pages that pass are sorted, from `low` on
  test_sorted : (full : Bool) (low a : ℕ) (ps : List (List Record)) → GoodFrom a ps → image_from f h full low a ps ≡ true
      → Sorted rank (cat ps []) × All (λ y. low ≤ rank y) (cat ps [])
  test_sorted full low a [] g e = (tt, tt)
  test_sorted full low a (p ∷ ps) g e =
      let t = three full low a p ps e in
      let on = test_sorted (leb (slots_of f) (length p)) (next_low h low p) (suc a) ps g.1 t.2 in
      let s : Sorted rank (p ++ cat ps []) = sorted_append low p (cat ps []) (rises_sorted h p g.0.rising) on.1 on.0 in
      (s, starts_low low p (cat ps []) t.1 s on.1)

  -- and rightly placed, each judged with what was seen of the page before it
  test_local : (full : Bool) (low a : ℕ) (ps : List (List Record)) → GoodFrom a ps → image_from f h full low a ps ≡ true → Local (home_of key h) (slots_of f) full a ps
  test_local full low a [] g e = tt
  test_local full low a (p ∷ ps) g e =
      let t = three full low a p ps e in (
        g.0.few,
        homes_all h a p g.0.homes,
        starts_first full a p t.0,
        test_local (leb (slots_of f) (length p)) (next_low h low p) (suc a) ps g.1 t.2,
      )

  -- pages that are both pass
  local_test : (full : Bool) (low a : ℕ) (ps : List (List Record)) → Local (home_of key h) (slots_of f) full a ps → Sorted rank (cat ps []) → All (λ y. low ≤ rank y) (cat ps [])
      → image_from f h full low a ps ≡ true
  local_test full low a [] l s b = refl
  local_test full low a (p ∷ ps) l s b =
      rw (first_starts full a p l.2, low_starts low p (cat ps []) b)
      (local_test (leb (slots_of f) (length p)) (next_low h low p) (suc a) ps l.3 (sorted_right rank p (cat ps []) s)
      (after_last low p (cat ps []) s (all_right (λ y. low ≤ rank y) p (cat ps []) b)))

  -- in rising ranks no key is there twice
  sorted_once : (s : List Record) → Sorted rank s → Distinct key s
  sorted_once [] k = tt
  sorted_once (x ∷ s) k = (
    all_map (λ y. rank x < rank y) (λ y. key y ≡ key x → ⊥) (λ y l e. let q : rank y ≡ rank x = ap (rank_of h) e in omega arith) s k.0,
    sorted_once s k.1,
  )

  sorted_set : (ps : List (List Record)) → GoodFrom 0 ps → Sorted rank (cat ps []) → RecordSet key (cat ps [])
  sorted_set ps g k = record { keys = good_keys 0 ps g; once = sorted_once (cat ps []) k }

  module _ (ps : List (List Record)) where
    -- an image, read upward, is sorted
    pub image_sorted : is_image f h ps ≡ true → GoodFrom 0 ps → Sorted (rank_in key h) (cat ps [])
    unfolding is_image
    image_sorted e g = (test_sorted true 0 0 ps g e).0

    -- and holds no key twice
    pub image_set : is_image f h ps ≡ true → GoodFrom 0 ps → RecordSet key (cat ps [])
    image_set e g = sorted_set ps g (image_sorted e g)

    -- good pages pass the test exactly where they are the image of their records
    pub image_test : (n : ℕ) → length ps ≡ n → GoodFrom 0 ps → (is_image f h ps ≡ true) ↔ Image key h (slots_of f) n (cat ps []) ps
    unfolding is_image
    image_test n m g = (passes, passed)
      where
        passes : is_image f h ps ≡ true → Image key h (slots_of f) n (cat ps []) ps
        passes e =
            let s : Sorted rank (cat ps []) = image_sorted e g in
            tidy_image key h (slots_of f) (image_set e g) (record {
              packed = local_packed rank (home_of key h) (slots_of f) (slots_few f).0 (mono key h) true 0 ps s (test_local true 0 0 ps g e);
              sorted = s;
              holds = Permᴰ.refl (cat ps []);
              many = m;
            })

        passed : Image key h (slots_of f) n (cat ps []) ps → is_image f h ps ≡ true
        passed i =
            let s : Sorted rank (cat ps []) = rising_sorted key h (cat ps []) (good_keys 0 ps g) i.rising in
            let t : Tidy key h (slots_of f) n (cat ps []) ps = image_tidy key h (slots_of f) (sorted_set ps g s) i in
            local_test true 0 0 ps (packed_local rank (home_of key h) (slots_of f) (slots_few f).0 (mono key h) true 0 ps t.packed (λ e. absurd (let z : ◌≡◌ {A = ℕ} 0 1 = cc in omega arith))) s
            (all_map (λ x. key x < 2 ^ 64) (λ y. 0 ≤ rank y) (λ y k. omega arith) (cat ps []) (good_keys 0 ps g))

module _ (f : Layout) (h : ℕ → ℕ) (area : List ℕ) where
  -- where no page is broken, each is read as what it holds
  pub none_broken : (n a : ℕ) → lowest_broken a (pages_from f h area n a) ≡ none → pages_from f h area n a ≡ map some (held_from f area n a)
  none_broken zero a e = refl
  none_broken (suc n) a e = go (read_page f h a (part_at area a)) refl (none_broken n (suc a))
    where
      go : (o : Option (List Record)) → read_page f h a (part_at area a) ≡ o
          → (lowest_broken (suc a) (pages_from f h area n (suc a)) ≡ none → pages_from f h area n (suc a) ≡ map some (held_from f area n (suc a)))
          → pages_from f h area (suc n) a ≡ map some (held_from f area (suc n) a)
      go none q on = absurd (clash (sym (rw q at e)))
      go (some p) q on =
          let r : p ≡ records_in f (part_at area a) = (read_good f h a (part_at area a) p q).records in
          rw (q, r, on (rw q at e))

  -- and all keep the page rules
  pub good_pages : Bytes area → (n a : ℕ) → 256 * (a + n) ≤ length area → lowest_broken a (pages_from f h area n a) ≡ none → GoodFrom f h a (held_from f area n a)
  unfolding part_at
  good_pages b zero a k e = tt
  good_pages b (suc n) a k e = go (read_page f h a (part_at area a)) refl (good_pages b n (suc a) (omega arith))
    where
      go : (o : Option (List Record)) → read_page f h a (part_at area a) ≡ o
          → (lowest_broken (suc a) (pages_from f h area n (suc a)) ≡ none → GoodFrom f h (suc a) (held_from f area n (suc a)))
          → GoodFrom f h a (held_from f area (suc n) a)
      go none q on = absurd (clash (sym (rw q at e)))
      go (some p) q on =
          let l : List ℕ = part_at area a in
          let g : Good f h a l p = read_good f h a l p q in
          let keys : All (λ x. key x < 2 ^ 64) (records_in f l) = keys_small f area a (omega arith) b in
          (rw (← g.records) (record { few = g.few; homes = g.homes; rising = g.rising; keys = rw g.records keys }), on (rw q at e))

-- what pages are read as is one list
same_pages : (ps qs : List (List Record)) → map some ps ≡ map some qs → ps ≡ qs
same_pages [] [] e = refl
same_pages [] (q ∷ qs) e = absurd (let z : ◌≡◌ {A = ℕ} 0 1 = cc in omega arith)
same_pages (p ∷ ps) [] e = absurd (let z : ◌≡◌ {A = ℕ} 0 1 = cc in omega arith)
same_pages (p ∷ ps) (q ∷ qs) e =
    let x : p ≡ q = cc in
    let t : map some ps ≡ map some qs = cc in
    rw (x, same_pages ps qs t)

-- good pages have no broken one among them
none_lowest : (a : ℕ) (ps : List (List Record)) → lowest_broken a (map some ps) ≡ none
none_lowest a [] = refl
none_lowest a (p ∷ ps) = none_lowest (suc a) ps

-- so, where all pages pass, what they are read as stands on them
module _ (f : Layout) (h : ℕ → ℕ) (area : List ℕ) (n : ℕ) (ps : List (List Record)) where
  pub all_pass : pages_from f h area n 0 ≡ map some ps → (lowest_broken 0 (pages_from f h area n 0) ≡ none) × (ps ≡ held_from f area n 0)
  all_pass e =
      let w : lowest_broken 0 (pages_from f h area n 0) ≡ none = rw e (none_lowest 0 ps) in
      (w, same_pages ps (held_from f area n 0) (sym e ∙ none_broken f h area n 0 w))

  -- and the test tells whether they are an image
  pub pages_test : Bytes area → 256 * n ≤ length area → pages_from f h area n 0 ≡ map some ps → (is_image f h ps ≡ true) ↔ Image key h (slots_of f) n (cat ps []) ps
  pages_test b l e =
      let w = all_pass e in
      image_test f h ps n (rw w.1 (held_length f area n 0)) (rw w.1 (good_pages f h area b n 0 (omega arith) w.0))
