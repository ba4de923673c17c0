-- A file that was an image before it grew: those that leave, and that the others stand in order, at home
-- or higher, and as the counts say.
use mathlib.Core.Path.{◌≡◌, refl, sym, ap, ◌∙◌}
use mathlib.Core.Bool.{Bool, true, false, cond, not, false≢true}
use mathlib.Core.Logic.{◌⊎◌, ⊎_elim}
use mathlib.Core.List.{List, [], ◌∷◌, map}
use Prim.Native.Nat.{ℕ, suc, ◌+◌, ◌≤◌, ◌<◌}
use native.Mathlib.Omega.{arith}
use native.Mathlib.Decide.{dec_lt}
use lib.ListN.{get_or}
use borrow.Author.Tests.{ltb-true, lt-ltb, le-ltb, eq-eqb, ne_eqb}
use Rattle.layouts.specs.Layout.{in_use}
use Rattle.placing.specs.Image.{All, cat, Distinct, RecordSet}
use Rattle.placing.specs.Lay.{one, count, rank_in, Sorted}
use Rattle.placing.specs.Rows.{at_home, counts}
use Rattle.placing.specs.Steps.Keep.{keep}
use Rattle.placing.specs.Steps.Packed.{Packed}
use Rattle.placing.proofs.Lists.{all_map, all_map₂, all_append}
use Rattle.placing.proofs.Keeping.{all_keep, kept}
use Rattle.placing.proofs.Rows.{counts_at}
use Rattle.pages.specs.Page.{Record, key, home_for}
use Rattle.pages.specs.Area.{held_from}
use Rattle.entries.specs.declared.Entry.{Entry}
use Rattle.entries.specs.Steps.Entries.{rank, home}
use Rattle.rebuild.specs.Steps.Rebuild.{slots, tagged, tagged_from, packed, record_in}
use Rattle.rebuild.proofs.Commuting.{Right, all_records, pages_right, pages_records}
use Rattle.leaving.specs.Steps.Leaving.{homed, leavers}
use Rattle.leaving.proofs.Tagged.{sorted_records, count-homed}
use Rattle.sliding.specs.Steps.Closing.{stays, staying, leaving}
use Rattle.sliding.proofs.Coherent.{key_in}

-- two tests that agree keep the same
keep_same : {R : Type 0} (f g : R → Bool) (s : List R) → All (λ x. f x ≡ g x) s → keep f s ≡ keep g s
keep_same f g [] h = refl
keep_same f g (x ∷ s) h = rw (h.0, keep_same f g s h.1)

-- no key is there twice
keys_once : (es : List Entry) → Distinct key (map record_in es) → Distinct key_in es
keys_once [] d = tt
keys_once (e ∷ es) d = (all_records (λ y. key y ≡ key_in e → ⊥) es d.0, keys_once es d.1)

module _ (was h : ℕ → ℕ) (P : ℕ) (below : (k : ℕ) → was k < P) (goes : (k : ℕ) → (h k ≡ was k) ⊎ (h k ≡ P)) where
  at_most : (k : ℕ) → h k ≤ P
  at_most k = ⊎_elim (λ e. omega (arith, below k)) (λ e. omega arith) (goes k)

  stayed : (k : ℕ) → h k < P → h k ≡ was k
  stayed k l = ⊎_elim (λ e. e) (λ e. absurd (omega arith)) (goes k)

  -- an entry leaves where its home is P
  tests : (e : Entry) → Right h e → homed P e ≡ not (stays P e)
  tests e r = go (dec_lt (home e) P)
    where
      go : Dec (home e < P) → homed P e ≡ not (stays P e)
      go (yes l) = rw (lt-ltb (home e) P l, ne_eqb (home e) P (λ q. omega arith))
      go (no l) = rw (le-ltb (home e) P (omega arith), eq-eqb (home e) P (omega (arith, r, at_most (key_in e))))

  -- those that stay are in order as they stand
  stay_sorted : (es : List Entry) → All (Right h) es → Sorted (λ e. rank_in key was (record_in e)) es → Sorted rank (keep (stays P) es)
  stay_sorted [] r s = tt
  stay_sorted (e ∷ es) r s = go (stays P e) refl (stay_sorted es r.1 s.1)
    where
      same : (f : Entry) → Right h f → stays P f ≡ true → rank f ≡ rank_in key was (record_in f)
      same f q t = let l : h (key_in f) < P = omega (arith, ltb-true (home f) P t) in rw (q, stayed (key_in f) l)

      More : Entry → Type 0
      More f = Right h f × (rank_in key was (record_in e) < rank_in key was (record_in f))

      go : (u : Bool) → stays P e ≡ u → Sorted rank (keep (stays P) es) → Sorted rank (cond u (e ∷ keep (stays P) es) (keep (stays P) es))
      go true t ih = (
        all_map₂ More (λ f. stays P f ≡ true) (λ f. rank e < rank f) (λ f m u. omega (arith, same e r.0 t, same f m.0 u, m.1)) (keep (stays P) es)
            (all_keep (stays P) More es (all_map₂ (Right h) (λ f. rank_in key was (record_in e) < rank_in key was (record_in f)) More (λ f a b. (a, b)) es r.1 s.0))
            (kept (stays P) es),
        ih,
      )
      go false t ih = ih

  -- and lie at home or higher
  page_lies : (a : ℕ) (p : List Record) → All (λ x. home_for was x ≤ a) p → All (λ e. home e < P → home e ≤ e.from) (tagged h a p)
  page_lies a [] l = tt
  page_lies a (x ∷ p) l = ((λ m. omega (arith, stayed (key x) m, l.0)), page_lies a p l.1)

  pages_lie : (a : ℕ) (ps : List (List Record)) → Packed (home_for was) slots a ps [] → All (λ e. home e < P → home e ≤ e.from) (tagged_from h a ps)
  pages_lie a [] i = tt
  pages_lie a (p ∷ ps) i = all_append (λ e. home e < P → home e ≤ e.from) (tagged h a p) (tagged_from h (suc a) ps) (page_lies a p i.1) (pages_lie (suc a) ps i.3)

  -- of a home below P all stay
  stay_counted : (c : ℕ) → c < P → (es : List Entry) → at_home home c (keep (stays P) es) ≡ count (homed c) es
  stay_counted c l [] = refl
  stay_counted c l (e ∷ es) = go (stays P e) refl (stay_counted c l es)
    where
      go : (u : Bool) → stays P e ≡ u → at_home home c (keep (stays P) es) ≡ count (homed c) es
          → at_home home c (cond u (e ∷ keep (stays P) es) (keep (stays P) es)) ≡ one (homed c e) + count (homed c) es
      go true t ih = ap (λ (n : ℕ). one (homed c e) + n) ih
      go false t ih = rw (ne_eqb (home e) c (λ q. true-false (sym (lt-ltb (home e) P (omega arith)) ∙ t))) (omega (arith, ih))
        where
          true-false : true ≡ false → ⊥
          true-false q = false≢true (sym q)

  module _ (cap : ℕ) (area : List ℕ) where
    abbrev ps : List (List Record)
    ps = held_from in_use area cap 0

    right : All (Right h) (packed h cap area)
    unfolding packed
    right = pages_right h 0 ps

    records : map record_in (packed h cap area) ≡ cat ps []
    unfolding packed
    records = pages_records h 0 ps

    pub leavers_leave : leavers h P cap area ≡ leaving h P cap area
    unfolding leavers leaving
    leavers_leave = keep_same (homed P) (λ e. not (stays P e)) (packed h cap area) (all_map (Right h) (λ e. homed P e ≡ not (stays P e)) tests (packed h cap area) right)

    pub packed_once : RecordSet key (cat ps []) → Distinct key_in (packed h cap area)
    packed_once f = keys_once (packed h cap area) (rw records f.once)

    pub staying_sorted : Sorted (rank_in key was) (cat ps []) → Sorted rank (staying h P cap area)
    unfolding staying
    staying_sorted s = stay_sorted (packed h cap area) right (sorted_records (rank_in key was) (packed h cap area) (rw records s))

    pub packed_lies : Packed (home_for was) slots 0 ps [] → All (λ e. home e < P → home e ≤ e.from) (packed h cap area)
    unfolding packed
    packed_lies i = pages_lie 0 ps i

    pub staying_counted : (row : List ℕ) → row ≡ counts (home_for h) (cat ps []) cap 0 → P ≤ cap → (c : ℕ) → c < P → get_or row c 0 ≡ at_home home c (staying h P cap area)
    unfolding staying
    staying_counted row e l c m =
        let z : 0 + c ≡ c = omega arith in
        ap (λ (r : List ℕ). get_or r c 0) e
        ∙ counts_at (home_for h) (cat ps []) cap 0 c (omega arith)
        ∙ rw z (sym (stay_counted c m (packed h cap area) ∙ count-homed h c (packed h cap area) right ∙ ap (at_home (home_for h) c) records))
