-- The seams between pages: how the first phase tells that they rise, and what the second may then do
-- with no home worked out.
use mathlib.Core.Path.{◌≡◌, refl, sym, ap, ◌∙◌}
use mathlib.Core.Bool.{Bool, true, false, ◌&&◌, false≢true}
use mathlib.Core.List.{List, [], ◌∷◌, ◌++◌, map}
use Prim.Native.Nat.{ℕ, zero, suc, ◌+◌, ◌-◌, ◌≤◌, ◌<◌}
use native.Mathlib.Decide.{dec_lt}
use native.Mathlib.Omega.{arith}
use borrow.Author.Tests.{ltb-true, ltb-false, eqb-true, lt-ltb, le-leb, eq-eqb, ne_eqb}
use lib.Dec.{ltb, eqb}
use lib.ListN.{length, get_or, length-append, drop_of_length-le}
use lib.Seq.{take_all}
use Rattle.std.proofs.Common.{Option as Optional, Some, Ok, Err}
use Rattle.layouts.specs.Layout.{in_use}
use Rattle.placing.specs.Image.{All}
use Rattle.placing.specs.Lay.{ranked, rank_in, Sorted}
use Rattle.pages.specs.declared.Judged.{Judged}
use Rattle.pages.specs.Page.{Record, key, vacant, home_for, rank, padded, judged_page}
use Rattle.pages.specs.Places.{closed, ahead}
use Rattle.pages.specs.Steps.Slots.{opened, backed}
use Rattle.pages.specs.Area.{part_at}
use Rattle.pages.proofs.Rows.{row_at, opened_after, closed-length, all_closed}
use Rattle.pages.proofs.Rules.{rises_sorted}
use Rattle.pages.proofs.Judging.{judged_count, judged_key, judged_home}
use Rattle.pages.proofs.RoundTrip.{read_good}
use Rattle.pages.proofs.Places.{all_at, ahead-le, ahead_test, ahead_every, back_every}
use Rattle.state.specs.declared.Refusal.{Refusal}
use Rattle.walks.specs.declared.Met.{Met}
use Rattle.walks.specs.declared.Walk.{Walk}
use Rattle.walks.specs.Walks.{Walks}
use Rattle.walks.specs.Steps.Plans.{slots, held, first_of, last_of, last_home, ended, FullTo, seam, seams, rising}
use Rattle.walks.proofs.Meeting.{Seen, page_read, page_is, page_counts, page_few, Counted}

-- twelve of twelve at most
twelve : (n : ℕ) → n ≤ 12 → ltb 11 n ≡ eqb n 12
twelve n l = go (ltb 11 n) refl
  where
    go : (u : Bool) → ltb 11 n ≡ u → u ≡ eqb n 12
    go true e = sym (eq-eqb n 12 (omega (arith, ltb-true 11 n e)))
    go false e = sym (ne_eqb n 12 (λ q. omega (arith, ltb-false 11 n e)))

module _ (h : ℕ → ℕ) (p : List Record) (up : Sorted (rank_in key h) p) (full : length p ≡ 12) (home k : ℕ) (lives : home ≡ h (key (last_of p))) (is : k ≡ key (last_of p)) where
  -- whether a seam rises is told by the last record before it and the next page as it was judged
  seam_told : (q : List Record) (j : Judged) → j ≡ judged_page h q
      → (ltb 0 j.count && ltb (ranked home k) (ranked (get_or j.homes 0 0) (get_or j.keys 0 0))) ≡ seam h p q
  seam_told [] j e = rw (judged_count h j [] e)
  seam_told (y ∷ q) j e =
      let c : 0 < j.count = omega (arith, judged_count h j (y ∷ q) e) in
      rw (lt-ltb 0 j.count c, judged_home h j (y ∷ q) e 0 c, judged_key h j (y ∷ q) e 0 c, lives, is)
      (ahead_test (rank_in key h) (rank_in key h y) vacant p 11 up (omega arith) ∙ twelve (ahead (rank_in key h) (rank_in key h y) p) (omega (arith, ahead-le (rank_in key h) (rank_in key h y) p)))

-- one page has no seam
pub rising_one : (h : ℕ → ℕ) (area : List ℕ) (f : ℕ) → true ≡ rising h area f f
rising_one h area f =
    let z : f - f ≡ 0 = omega arith in
    rw z

-- one seam more
rising_next : (h : ℕ → ℕ) (area : List ℕ) (f a b : ℕ) → f ≤ a → b ≡ suc a → (rising h area f a && seam h (held area a) (held area b)) ≡ rising h area f b
rising_next h area f a b l e =
    let m : suc a - f ≡ suc (a - f) = omega arith in
    let n : f + (a - f) ≡ a = omega arith in
    rw (e, m, n)

both : (u v : Bool) → (u && v) ≡ true → (u ≡ true) × (v ≡ true)
both true v e = (refl, e)
both false v e = absurd (false≢true e)

seams_at : (h : ℕ → ℕ) (area : List ℕ) (f n m : ℕ) → seams h area f n ≡ true → m < n → seam h (held area (f + m)) (held area (suc (f + m))) ≡ true
seams_at h area f zero m t l = absurd (omega arith)
seams_at h area f (suc n) m t l = go (dec_lt m n) (seams_at h area f n m)
  where
    last : Bool
    last = seam h (held area (f + n)) (held area (suc (f + n)))

    go : Dec (m < n) → (seams h area f n ≡ true → m < n → seam h (held area (f + m)) (held area (suc (f + m))) ≡ true)
        → seam h (held area (f + m)) (held area (suc (f + m))) ≡ true
    go (yes k) ih = ih (both (seams h area f n) last t).0 k
    go (no k) ih =
        let e : m ≡ n = omega arith in
        rw e (both (seams h area f n) last t).1

-- each of the seams between the pages of a plan rises where all do
pub rising_at : (h : ℕ → ℕ) (area : List ℕ) (f last a : ℕ) → rising h area f last ≡ true → f ≤ a → a < last → seam h (held area a) (held area (a + 1)) ≡ true
rising_at h area f last a t l m =
    let e : f + (a - f) ≡ a = omega arith in
    let g : a + 1 ≡ suc a = omega arith in
    rw (g, ← e) (seams_at h area f (last - f) (a - f) t (omega arith))

module _ (h : ℕ → ℕ) (area : List ℕ) where
  -- a walk that was refused met why
  pub told_refused : (why : Refusal) (m : Walks) → Err why ≡ ended h area m → m ≡ Err why
  told_refused why (Ok m) is = absurd (cc is)
  told_refused why (Err y) is = let e : why ≡ y = cc is in rw e

  -- one that was told with its last home met what it met
  told : (w : Walk) (m : Walks) → Ok w ≡ ended h area m → (m ≡ Ok w.met) × (w.last ≡ last_home h area w.met)
  told w (Ok m) is =
      let e : w ≡ record { met = m; last = last_home h area m } = cc is in
      rw e (refl, refl)
  told w (Err why) is = absurd (cc is)

  module _ (w : Walk) (m : Walks) (is : Ok w ≡ ended h area m) where
    pub told_met : m ≡ Ok w.met
    told_met = (told w m is).0

    -- and where it ended on a full page, that is the home of the page's last record
    pub told_full : (e : Met) → w.met ≡ e → (a c : ℕ) → last_home h area e ≡ get_or (padded (map (home_for h) (held area a))) 11 0 → Counted h area a c → slots ≤ c → c ≤ 12
        → FullTo h area a w.last
    told_full e q a c t k l u =
        let n : length (held area a) ≡ 12 = omega (arith, k.count) in
        let last : w.last ≡ last_home h area e = (told w m is).1 ∙ ap (last_home h area) q in
        (k.read, n, last ∙ t ∙ row_at (home_for h) (held area a) _ 11 vacant (omega arith))

-- page a is full, and its last record has this home and this key; u tells of the seams from page f
-- to it
pub record Edge (h : ℕ → ℕ) (area : List ℕ) (f a home k : ℕ) (u : Bool) : Type 0 where
  pub from : f ≤ a
  pub full : FullTo h area a home
  pub is : k ≡ key (last_of (held area a))
  pub told : u ≡ rising h area f a

module _ {h : ℕ → ℕ} {area : List ℕ} {f a home k : ℕ} {u : Bool} (w : Edge h area f a home k u) {cap b : ℕ} {o : Optional Judged} (seen : Seen h area cap b o) (next : b ≡ suc a)
    {j : Judged} (g : o ≡ Some j) (t : Bool) (told : t ≡ (ltb 0 j.count && ltb (ranked home k) (ranked (get_or j.homes 0 0) (get_or j.keys 0 0)))) where
  -- the next page, judged good, tells of one seam more
  pub edge_told : (u && t) ≡ rising h area f b
  edge_told =
      let up = rises_sorted h (held area a) (read_good in_use h a (part_at area a) (held area a) w.full.0).rising in
      let here : t ≡ seam h (held area a) (held area b) = told ∙ seam_told h (held area a) up w.full.1 home k w.full.2 w.is (held area b) j (page_is seen g) in
      rw (w.told, here) (rising_next h area f a b w.from next)

  -- where it is full too, its last record is at the next seam
  pub edge_on : slots ≤ j.count → Edge h area f b (get_or j.homes 11 0) (get_or j.keys 11 0) (u && t)
  edge_on l =
      let c : j.count ≡ 12 = omega (arith, page_few seen g) in
      let is = page_is seen g in
      record {
        from = omega (arith, w.from);
        full = (page_read seen g, sym (page_counts seen g) ∙ c, judged_home h j (held area b) is 11 (omega arith));
        is = judged_key h j (held area b) is 11 (omega arith);
        told = edge_told;
      }

module _ (h : ℕ → ℕ) (p q : List Record) (few : length p ≤ slots) (t : seam h p q ≡ true) where
  -- all records before a seam that rises stand before the first behind it, and there are twelve
  pub before_seam : (length p ≡ 12) × All (λ x. rank h x < rank h (first_of q)) p
  before_seam = go q t
    where
      go : (q : List Record) → seam h p q ≡ true → (length p ≡ 12) × All (λ x. rank h x < rank h (first_of q)) p
      go [] e = absurd (false≢true e)
      go (y ∷ q) e =
          let n = eqb-true (ahead (rank_in key h) (rank_in key h y) p) slots e in
          let l = ahead-le (rank_in key h) (rank_in key h y) p in
          (omega arith, ahead_every (rank_in key h) (rank_in key h y) p (omega arith))

  -- so the record that goes on from the page goes to the front of the next
  pub to_front : (at : ℕ) (x over : Record) → at < 12 → over ≡ get_or (opened at x p) slots x → ahead (rank h) (rank h over) q ≡ 0
  to_front at x over l e =
      let s = before_seam in
      let last : over ≡ get_or p 11 x = e ∙ opened_after at 11 x x p (omega arith) (omega (arith, s.0)) in
      let low : rank h over < rank h (first_of q) = rw last (all_at (λ w. rank h w < rank h (first_of q)) 11 p x (omega (arith, s.0)) s.1) in
      go q low
    where
      go : (q : List Record) → rank h over < rank h (first_of q) → ahead (rank h) (rank h over) q ≡ 0
      go [] m = refl
      go (y ∷ q) m = rw (le-leb (rank h over) (rank h y) (omega arith))

  -- and the first record of the next goes behind those that are left on the page
  pub to_end : (at : ℕ) → at < 12 → closed at p ++ (first_of q ∷ []) ≡ backed slots h (first_of q) (closed at p)
  unfolding opened
  to_end at l =
      let s = before_seam in
      let r : List Record = closed at p in
      let n : suc (length r) ≡ 12 = closed-length at p (omega (arith, s.0)) ∙ s.0 in
      let place = back_every (rank h) (rank h (first_of q)) vacant r (all_closed (λ w. rank h w < rank h (first_of q)) at p s.1) (length r) (omega arith) in
      rw (place, take_all (length r) r (omega arith), drop_of_length-le r {i = length r} (omega arith))
      (sym (take_all slots (r ++ (first_of q ∷ [])) (omega (arith, length-append r (first_of q ∷ [])))))
