-- What is written is read back, and the bytes of a good page are those that its records are written
-- as.
use mathlib.Core.Path.{◌≡◌, refl, sym, ap, ◌∙◌}
use mathlib.Core.Bool.{Bool, true, false, cond, ◌&&◌}
use mathlib.Core.Option.{none, some}
use mathlib.Core.List.{List, [], ◌∷◌, ◌++◌, append-nil}
use Prim.Native.Nat.{ℕ, zero, suc, ◌+◌, ◌^◌, ◌≤◌, ◌<◌}
use native.Mathlib.Omega.{arith}
use lib.ListN.{length}
use lib.Seq.{take_all}
use Rattle.numbers.specs.Little.{Bytes, number_at}
use Rattle.numbers.specs.Fields.{Field, width, encode, matches}
use Rattle.numbers.proofs.Records.{Fit, fit_append, length-encode, encode-append, and_left, and_right, match_first, match_rest, match_at, matches-append, matches_sound, matches_complete}
use Rattle.placing.specs.Image.{All}
use Rattle.placing.proofs.Seek.{clash}
use Rattle.layouts.specs.Layout.{Layout, kind_of, slots_of, width_of, slot_at}
use Rattle.layouts.proofs.Lying.{slots_few, slot_first, slot_next, width_small, kind_small}
use Rattle.pages.proofs.Read.{slot-width, held_few}
use Rattle.pages.proofs.Write.{fields-width}
use Rattle.pages.specs.Page.{Record, key, value, run, run_field, run_at, vacant, slot, record_slot, slots, fields, page_bytes, record_in, records_from, count_in, records_in, well_formed, homes_to, rises, read_page}
use Rattle.pages.specs.Small.{RunFits, Small}

fit_run : (f : Layout) (r : ℕ) → RunFits f r → Fit (run_field f r)
fit_run zero r k = tt
fit_run (suc f) r k = (k, tt)

-- no run is one that every layout takes
pub no_run : (f : Layout) → RunFits f 0
no_run zero = refl
no_run (suc f) = omega arith

-- what is read at the place of a run, where a slot matches
run_said : (f : Layout) (r : ℕ) (l : List ℕ) (at : ℕ) → RunFits f r → matches l at (run_field f r) ≡ true → run_at f l at ≡ r
run_said zero r l at k m = sym k
run_said (suc f) r l at k m = match_first 4 r [] l at m

module _ (f : Layout) where
  -- a slot's fields fit, whatever is behind it
  fit_slot : (kind : ℕ) (x : Record) (fs : List Field) → kind < 2 → Small f x → Fit fs → Fit (slot f kind x ++ fs)
  fit_slot kind x fs k s g = (omega (arith, width_small f), (omega arith, (s.0, (s.1, fit_append (run_field f (run x)) fs (fit_run f (run x) s.2) g))))

  fit_slots : (n : ℕ) (rs : List Record) → All (Small f) rs → Fit (slots f n rs)
  fit_slots zero rs s = tt
  fit_slots (suc n) [] s = fit_slot 0 vacant (slots f n []) (omega arith) (omega arith, omega arith, no_run f) (fit_slots n [] tt)
  fit_slots (suc n) (x ∷ rs) s = fit_slot 1 x (slots f n rs) (omega arith) s.0 (fit_slots n rs s.1)

  -- the fields of a page from its count on
  abbrev counted : List Record → List Field
  counted rs = (2, length rs) ∷ (2, 0) ∷ (4, 0) ∷ slots f (slots_of f) rs

  fit_counted : (rs : List Record) → length rs ≤ slots_of f → All (Small f) rs → Fit (counted rs)
  fit_counted rs n s = (omega (arith, (slots_few f).1), (omega arith, (omega arith, fit_slots (slots_of f) rs s)))

  -- a slot that matches shows its record
  slot_says : (l : List ℕ) (at : ℕ) (x : Record) → Small f x → matches l at (record_slot f x) ≡ true → record_in f l at ≡ x
  slot_says l at x s m =
      let k : number_at 8 l (at + 4) ≡ key x = match_at ((2, width_of f) ∷ (2, 1) ∷ []) 8 (key x) ((8, value x) ∷ run_field f (run x)) l at m in
      let v : number_at 8 l (at + 12) ≡ value x = match_at ((2, width_of f) ∷ (2, 1) ∷ (8, key x) ∷ []) 8 (value x) (run_field f (run x)) l at m in
      let four : List Field = (2, width_of f) ∷ (2, 1) ∷ (8, key x) ∷ (8, value x) ∷ [] in
      let r : run_at f l (at + 20) ≡ run x =
      run_said f (run x) l (at + 20) s.2 (and_right (matches l at four) (matches l (at + 20) (run_field f (run x))) (sym (matches-append four (run_field f (run x)) l at) ∙ m)) in
      rw (k, v, r)

  -- slots that match show the records
  slots_say : (n i : ℕ) (rs : List Record) (l : List ℕ) → length rs ≤ n → All (Small f) rs → matches l (slot_at f i) (slots f n rs) ≡ true
      → records_from f (length rs) i l ≡ rs
  slots_say n i [] l h s m = refl
  slots_say zero i (x ∷ rs) l h s m = absurd (omega arith)
  slots_say (suc n) i (x ∷ rs) l h s m =
      let at : ℕ = slot_at f i in
      let on : at + width (record_slot f x) ≡ slot_at f (suc i) = rw (slot-width f 1 x) (slot_next f i) in
      let both : (matches l at (record_slot f x) && matches l (slot_at f (suc i)) (slots f n rs)) ≡ true = rw (← on) (sym (matches-append (record_slot f x) (slots f n rs) l at) ∙ m) in
      let here : matches l at (record_slot f x) ≡ true = and_left (matches l at (record_slot f x)) (matches l (slot_at f (suc i)) (slots f n rs)) both in
      let rest : matches l (slot_at f (suc i)) (slots f n rs) ≡ true = and_right (matches l at (record_slot f x)) (matches l (slot_at f (suc i)) (slots f n rs)) both in
      rw (slot_says l at x s.0 here, slots_say n (suc i) rs l (omega arith) s.1 rest)

  module _ (a : ℕ) (rs : List Record) (few : length rs ≤ slots_of f) (small : All (Small f) rs) where
    counted_match : matches (page_bytes f a rs) 8 (counted rs) ≡ true
    unfolding page_bytes
    counted_match =
        let before : List Field = (2, 256) ∷ (2, kind_of f) ∷ (4, a) ∷ [] in
        let whole : matches (encode before ++ (encode (counted rs) ++ [])) 8 (counted rs) ≡ true =
        matches_complete (counted rs) (encode before) [] 8 (length-encode before) (fit_counted rs few small) in
        let joined : encode (before ++ counted rs) ≡ encode before ++ (encode (counted rs) ++ []) =
        encode-append before (counted rs) ∙ ap (λ (z : List ℕ). encode before ++ z) (sym (append-nil (encode (counted rs)))) in
        ap (λ (z : List ℕ). matches z 8 (counted rs)) joined ∙ whole

    -- bytes that are written hold the records
    pub records_bytes : records_in f (page_bytes f a rs) ≡ rs
    unfolding records_in
    records_bytes =
        let l : List ℕ = page_bytes f a rs in
        let all : List Field = slots f (slots_of f) rs in
        let u : number_at 2 l 8 ≡ length rs = match_first 2 (length rs) ((2, 0) ∷ (4, 0) ∷ all) l 8 counted_match in
        let c : count_in f l ≡ length rs = omega arith in
        let m : matches l 10 ((2, 0) ∷ (4, 0) ∷ all) ≡ true = match_rest 2 (length rs) ((2, 0) ∷ (4, 0) ∷ all) l 8 counted_match in
        let s : matches l 16 all ≡ true = match_rest 4 0 all l 12 (match_rest 2 0 ((4, 0) ∷ all) l 10 m) in
        rw c (slots_say (slots_of f) 0 rs l few small (rw slot_first s))

    pub page_formed : a < 2 ^ 32 → well_formed f a (page_bytes f a rs) ≡ true
    unfolding well_formed page_bytes
    page_formed fits =
        let fit : Fit (fields f a rs) = (omega arith, (omega (arith, kind_small f), (fits, fit_counted rs few small))) in
        let e : records_in f (encode (fields f a rs)) ≡ rs = records_bytes in
        let closed : matches (encode (fields f a rs)) 0 (fields f a rs) ≡ true =
        ap (λ (z : List ℕ). matches z 0 (fields f a rs)) (sym (append-nil (encode (fields f a rs)))) ∙ matches_complete (fields f a rs) [] [] 0 refl fit in
        rw e closed

    -- records that keep the rules are read back as they were written
    pub bytes_read : (h : ℕ → ℕ) → a < 2 ^ 32 → homes_to h a rs ≡ true → rises h rs ≡ true → read_page f h a (page_bytes f a rs) ≡ some rs
    unfolding read_page
    bytes_read h fits low up = rw (page_formed fits, records_bytes, low, up)

module _ (f : Layout) (h : ℕ → ℕ) (a : ℕ) (l : List ℕ) where
  -- what is known of the records of a good page
  pub record Good (rs : List Record) : Type 0 where
    pub formed : well_formed f a l ≡ true
    pub records : rs ≡ records_in f l
    pub few : length rs ≤ slots_of f
    pub homes : homes_to h a rs ≡ true
    pub rising : rises h rs ≡ true

-- a page that is read is good
pub read_good : (f : Layout) (h : ℕ → ℕ) (a : ℕ) (l : List ℕ) (rs : List Record) → read_page f h a l ≡ some rs → Good f h a l rs
unfolding read_page
read_good f h a l rs e = go (well_formed f a l && (homes_to h a (records_in f l) && rises h (records_in f l))) refl e
  where
    go : (u : Bool) → (well_formed f a l && (homes_to h a (records_in f l) && rises h (records_in f l))) ≡ u → cond u (some (records_in f l)) none ≡ some rs
        → Good f h a l rs
    go false t k = absurd (clash k)
    go true t k =
        let q : rs ≡ records_in f l = cc in
        let r : (homes_to h a (records_in f l) && rises h (records_in f l)) ≡ true =
        and_right (well_formed f a l) (homes_to h a (records_in f l) && rises h (records_in f l)) t in
        record {
          formed = and_left (well_formed f a l) (homes_to h a (records_in f l) && rises h (records_in f l)) t;
          records = q;
          few = rw q (held_few f l);
          homes = rw q (and_left (homes_to h a (records_in f l)) (rises h (records_in f l)) r);
          rising = rw q (and_right (homes_to h a (records_in f l)) (rises h (records_in f l)) r);
        }

-- bytes that are well formed are those that the records that they hold are written as
pub formed_bytes : (f : Layout) (a : ℕ) (l : List ℕ) → well_formed f a l ≡ true → length l ≡ 256 → Bytes l → l ≡ page_bytes f a (records_in f l)
unfolding page_bytes well_formed
formed_bytes f a l m n b =
    let rs : List Record = records_in f l in
    let w : width (fields f a rs) ≡ 256 = fields-width f a rs in
    sym (take_all (width (fields f a rs)) l (omega arith)) ∙ matches_sound (fields f a rs) l 0 b (omega arith) m

-- so are those of a good page
pub read_bytes : (f : Layout) (h : ℕ → ℕ) (a : ℕ) (l : List ℕ) (rs : List Record) → read_page f h a l ≡ some rs → length l ≡ 256 → Bytes l → l ≡ page_bytes f a rs
read_bytes f h a l rs e n b =
    let g : Good f h a l rs = read_good f h a l rs e in
    rw g.records (formed_bytes f a l g.formed n b)
