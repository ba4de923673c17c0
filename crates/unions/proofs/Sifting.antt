-- The records of a page, sifted one by one by what another file holds.
use mathlib.Core.Path.{◌≡◌, refl, sym, ap, ◌∙◌}
use mathlib.Core.Bool.{Bool, true, false, not}
use mathlib.Core.Option.{Option, none, some}
use mathlib.Core.List.{List, [], ◌∷◌, ◌++◌, append-nil}
use Prim.Native.Nat.{ℕ, zero, suc, ◌+◌, ◌≤◌, ◌<◌}
use native.Mathlib.Nat.{add-zero}
use native.Mathlib.Omega.{arith}
use lib.ListN.{length, get_or, set, length-set}
use lib.Seq.{get_or-set_same, get_or-set_other}
use lib.Dec.{ltb}
use borrow.Author.Tests.{ltb-true, ltb-false, lt-ltb, le-ltb, eq-eqb, ne_eqb}
use Rattle.std.specs.Prelude.{Option as Optional}
use Rattle.placing.specs.Lay.{one}
use Rattle.placing.specs.Rows.{is_there}
use Rattle.placing.specs.Walks.{if_found}
use Rattle.pages.specs.Page.{Record, record_with, key, value}
use Rattle.pages.specs.Steps.Slots.{paired}
use Rattle.pages.proofs.Seeking.{paired_last, paired_turn}
use Rattle.lookups.specs.Steps.Told.{held_by}
use Rattle.sites.specs.Held.{same}
use Rattle.two_sets.specs.Steps.Lowest.{lower, lower_if, lowest_in, lacking}
use Rattle.two_sets.proofs.Lowest.{lowest_append, lacking-append}
use Rattle.unions.specs.Steps.Both.{clash_by}

-- rows that agree in their first n places have the same n records
paired_same : (n : ℕ) (ks vs us js ws ts : List ℕ) → ((i : ℕ) → i < n → (get_or ks i 0 ≡ get_or js i 0) × (get_or vs i 0 ≡ get_or ws i 0) × (get_or us i 0 ≡ get_or ts i 0))
    → paired n ks vs us ≡ paired n js ws ts
paired_same zero ks vs us js ws ts h = refl
paired_same (suc n) ks vs us js ws ts h =
    let first = h n (omega arith) in
    paired_last n ks vs us
    ∙ rw (paired_same n ks vs us js ws ts (λ i l. h i (omega arith)), first.0, first.1, first.2) (sym (paired_last n js ws ts))

-- a record written at place n of rows that have it
module _ (ks vs us : List ℕ) (n : ℕ) (x : Record) (k : n < length ks) (v : n < length vs) (u : n < length us) where
  abbrev ks' : List ℕ
  ks' = set ks n x.key

  abbrev vs' : List ℕ
  vs' = set vs n x.value

  abbrev us' : List ℕ
  us' = set us n x.run

  kept_others : paired n ks' vs' us' ≡ paired n ks vs us
  kept_others =
      paired_same n ks' vs' us' ks vs us (λ i l. (get_or-set_other ks n i x.key 0 (λ e. omega arith), get_or-set_other vs n i x.value 0 (λ e. omega arith), get_or-set_other us n i x.run 0 (λ e. omega arith)))

  -- is one of the records, if it is counted
  kept_on : (o : Option Record) → paired (n + one (not (is_there o))) ks' vs' us' ≡ paired n ks vs us ++ if_found o [] (x ∷ [])
  kept_on (some y) = rw (add-zero n, append-nil (paired n ks vs us)) kept_others
  kept_on none =
      paired_turn n ks' vs' us'
      ∙ rw (kept_others, get_or-set_same ks n x.key 0 k, get_or-set_same vs n x.value 0 v, get_or-set_same us n x.run 0 u)

-- homes told of the first n keys, and of one more
homes_on : (h : ℕ → ℕ) (ks hs : List ℕ) (n k o : ℕ) → n < length ks → n < length hs → o ≡ h k → ((j : ℕ) → j < n → get_or hs j 0 ≡ h (get_or ks j 0))
    → (j : ℕ) → j < n + 1 → get_or (set hs n o) j 0 ≡ h (get_or (set ks n k) j 0)
homes_on h ks hs n k o l m e w j t = go (ltb j n) refl
  where
    go : (u : Bool) → ltb j n ≡ u → get_or (set hs n o) j 0 ≡ h (get_or (set ks n k) j 0)
    go true q =
        let d : j < n = ltb-true j n q in
        rw (get_or-set_other hs n j o 0 (λ z. omega arith), get_or-set_other ks n j k 0 (λ z. omega arith)) (w j d)
    go false q =
        let d : j ≡ n = omega (arith, ltb-false j n q) in
        rw (d, get_or-set_same hs n o 0 m, get_or-set_same ks n k 0 l) e

-- the first i records of a page are sifted
pub record Sifting (look : ℕ → Option Record) (keys values runs here : List ℕ) (low : Optional ℕ) (count : ℕ) (keys2 values2 runs2 homes : List ℕ) (n : ℕ) (clash : Optional ℕ) (i : ℕ) : Type 0 where
  pub few : n ≤ i
  pub long_keys : length keys2 ≡ 12
  pub long_values : length values2 ≡ 12
  pub long_runs : length runs2 ≡ 12
  pub long_homes : length homes ≡ 12
  pub kept : paired n keys2 values2 runs2 ≡ lacking key look (paired i keys values runs)
  pub lowest : clash_by clash ≡ lowest_in key same look (paired i keys values runs) (clash_by low)
  pub told : (h : ℕ → ℕ) → ((j : ℕ) → j < count → get_or here j 0 ≡ h (get_or keys j 0)) → (j : ℕ) → j < n → get_or homes j 0 ≡ h (get_or keys2 j 0)

pub one_most : (u : Bool) → one u ≤ 1
one_most true = omega arith
one_most false = omega arith

module _ {look : ℕ → Option Record} {keys values runs here : List ℕ} {low : Optional ℕ} {count : ℕ} {keys2 values2 runs2 homes : List ℕ} {n : ℕ} {clash : Optional ℕ} {i : ℕ}
    (s : Sifting look keys values runs here low count keys2 values2 runs2 homes n clash i) (l : i < count) (m : count ≤ 12) where
  -- one more
  pub sifting_on : (x : Record) → x ≡ record_with (get_or keys i 0) (get_or values i 0) (get_or runs i 0) → (held : Optional Record) → held_by held ≡ look (key x)
      → (c : Optional ℕ) → clash_by c ≡ lower_if key same x (held_by held) (clash_by clash) → (a : ℕ) → a ≡ one (not (is_there (held_by held)))
      → Sifting look keys values runs here low count (set keys2 n x.key) (set values2 n x.value) (set runs2 n x.run) (set homes n (get_or here i 0)) (n + a) c (i + 1)
  sifting_on x e held h c w a q =
      let rs : List Record = paired i keys values runs in
      let more : paired (i + 1) keys values runs ≡ rs ++ (x ∷ []) = paired_turn i keys values runs ∙ ap (λ (y : Record). rs ++ (y ∷ [])) (sym e) in
      let new : paired (n + a) (set keys2 n x.key) (set values2 n x.value) (set runs2 n x.run) ≡ paired n keys2 values2 runs2 ++ if_found (held_by held) [] (x ∷ []) =
      rw q (kept_on keys2 values2 runs2 n x (omega (arith, s.few, s.long_keys)) (omega (arith, s.few, s.long_values)) (omega (arith, s.few, s.long_runs)) (held_by held)) in
      let asked : lacking key look (paired (i + 1) keys values runs) ≡ lacking key look rs ++ if_found (held_by held) [] (x ∷ []) = rw (more, h) (lacking-append key look rs (x ∷ [])) in
      let low_asked : lowest_in key same look (paired (i + 1) keys values runs) (clash_by low) ≡ lower_if key same x (held_by held) (lowest_in key same look rs (clash_by low)) =
      rw (more, h) (lowest_append key same look rs (x ∷ []) (clash_by low)) in
      record {
        few = omega (arith, s.few, q, one_most (not (is_there (held_by held))));
        long_keys = rw length-set s.long_keys;
        long_values = rw length-set s.long_values;
        long_runs = rw length-set s.long_runs;
        long_homes = rw length-set s.long_homes;
        kept = new ∙ rw s.kept (sym asked);
        lowest = w ∙ rw s.lowest (sym low_asked);
        told = λ f t j u.
            homes_on f keys2 homes n x.key (get_or here i 0) (omega (arith, s.few, s.long_keys)) (omega (arith, s.few, s.long_homes)) (t i l ∙ sym (ap (λ (y : Record). f (key y)) e)) (s.told f t) j
            (omega (arith, u, q, one_most (not (is_there (held_by held)))));
      }
