-- Entries whose homes are right are sorted, taken and laid as their records are.
use mathlib.Core.Path.{◌≡◌, refl, sym, ap, ◌∙◌}
use mathlib.Core.Bool.{Bool, true, false, cond}
use mathlib.Core.List.Permᴰ
use mathlib.Core.List.{List, [], ◌∷◌, map, map-append}
use Prim.Native.Nat.{ℕ, zero, suc, min}
use native.Mathlib.Omega.{arith}
use lib.Dec.{leb}
use lib.ListN.{length, drop, length-map}
use Rattle.placing.specs.Image.{All, cat, Distinct, RecordSet}
use Rattle.placing.specs.Lay.{rank_in, ins, sort, up_to, lay, taken}
use Rattle.placing.proofs.Lists.{all_map₂, all_append}
use Rattle.placing.proofs.Perms.{perm_all, sort-perm}
use Rattle.placing.proofs.Rank.{distinct_rank}
use Rattle.pages.specs.Page.{Record, key, home_for}
use Rattle.entries.specs.declared.Entry.{Entry}
use Rattle.entries.specs.Steps.Entries.{rank, home}
use Rattle.pages.proofs.Rows.{map-take}
use Rattle.rebuild.specs.Relaid.{laid_out, relaid}
use Rattle.rebuild.specs.Steps.Rebuild.{slots, tagged, tagged_from, record_in}

module _ {A B : Type 0} (f : A → B) where
  map-drop : (n : ℕ) (s : List A) → map f (drop n s) ≡ drop n (map f s)
  map-drop zero s = refl
  map-drop (suc n) [] = refl
  map-drop (suc n) (x ∷ s) = map-drop n s

module _ {R : Type 0} (P : R → Type 0) where
  pub all_drop : (n : ℕ) (s : List R) → All P s → All P (drop n s)
  all_drop zero s h = h
  all_drop (suc n) [] h = tt
  all_drop (suc n) (x ∷ s) h = all_drop n s h.1

  pub all_sort : (rank : R → ℕ) (s : List R) → All P s → All P (sort rank s)
  all_sort rank s h = perm_all P (Permᴰ.symm (sort-perm rank s)) h

-- what holds of all records holds of the records of all entries
pub all_records : (P : Record → Type 0) (es : List Entry) → All P (map record_in es) → All (λ e. P (record_in e)) es
all_records P [] h = tt
all_records P (e ∷ es) h = (h.0, all_records P es h.1)

-- an entry whose home is that of its key
abbrev pub Right : (ℕ → ℕ) → Entry → Type 0
Right h e = e.home ≡ h e.held.key

module _ (h : ℕ → ℕ) where
  tagged_right : (a : ℕ) (p : List Record) → All (Right h) (tagged h a p)
  tagged_right a [] = tt
  tagged_right a (x ∷ p) = (refl, tagged_right a p)

  pub pages_right : (a : ℕ) (ps : List (List Record)) → All (Right h) (tagged_from h a ps)
  pages_right a [] = tt
  pages_right a (p ∷ ps) = all_append (Right h) (tagged h a p) (tagged_from h (suc a) ps) (tagged_right a p) (pages_right (suc a) ps)

  pub tagged_records : (a : ℕ) (p : List Record) → map record_in (tagged h a p) ≡ p
  tagged_records a [] = refl
  tagged_records a (x ∷ p) = ap (λ (s : List Record). x ∷ s) (tagged_records a p)

  -- the entries of pages hold their records
  pub pages_records : (a : ℕ) (ps : List (List Record)) → map record_in (tagged_from h a ps) ≡ cat ps []
  pages_records a [] = refl
  pages_records a (p ∷ ps) = map-append record_in (tagged h a p) (tagged_from h (suc a) ps) ∙ rw (tagged_records a p, pages_records (suc a) ps)

  ins_records : (e : Entry) (es : List Entry) → Right h e → All (Right h) es → map record_in (ins rank e es) ≡ ins (rank_in key h) (record_in e) (map record_in es)
  ins_records e [] r k = refl
  ins_records e (f ∷ es) r k = rw test (go (leb (rank_in key h (record_in e)) (rank_in key h (record_in f))) (ins_records e es r k.1))
    where
      test : leb (rank e) (rank f) ≡ leb (rank_in key h (record_in e)) (rank_in key h (record_in f))
      test = rw (r, k.0)

      go : (u : Bool) → map record_in (ins rank e es) ≡ ins (rank_in key h) (record_in e) (map record_in es)
          → map record_in (cond u (e ∷ (f ∷ es)) (f ∷ ins rank e es))
          ≡ cond u (record_in e ∷ (record_in f ∷ map record_in es)) (record_in f ∷ ins (rank_in key h) (record_in e) (map record_in es))
      go true ih = refl
      go false ih = ap (λ (s : List Record). record_in f ∷ s) ih

  sort_records : (es : List Entry) → All (Right h) es → map record_in (sort rank es) ≡ sort (rank_in key h) (map record_in es)
  sort_records [] k = refl
  sort_records (e ∷ es) k =
      ins_records e (sort rank es) k.0 (all_sort (Right h) rank es k.1)
      ∙ ap (λ (s : List Record). ins (rank_in key h) (record_in e) s) (sort_records es k.1)

  up_to_records : (a : ℕ) (es : List Entry) → All (Right h) es → up_to home a es ≡ up_to (home_for h) a (map record_in es)
  up_to_records a [] k = refl
  up_to_records a (e ∷ es) k = rw (k.0, up_to_records a es k.1)

  lay_records : (b n a : ℕ) (es : List Entry) → All (Right h) es → map (map record_in) (lay home b n a es) ≡ lay (home_for h) b n a (map record_in es)
  lay_records b zero a es k = refl
  lay_records b (suc n) a es k =
      let t : ℕ = min b (up_to (home_for h) a (map record_in es)) in
      rw (up_to_records a es k, map-take record_in t es, lay_records b n (suc a) (drop t es) (all_drop (Right h) t es k), map-drop record_in t es)

  pub taken_records : (b : ℕ) (es : List Entry) → All (Right h) es → (a : ℕ) → taken home b es a ≡ taken (home_for h) b (map record_in es) a
  taken_records b es k zero = refl
  taken_records b es k (suc a) = omega (arith, up_to_records a es k, taken_records b es k a)

  -- entries differ in rank where their records do
  ranks_records : (es : List Entry) → All (Right h) es → Distinct (rank_in key h) (map record_in es) → Distinct rank es
  ranks_records [] k d = tt
  ranks_records (e ∷ es) k d = (
    all_map₂ (Right h) (λ f. rank_in key h (record_in f) ≡ rank_in key h (record_in e) → ⊥) (λ f. rank f ≡ rank e → ⊥)
        (λ f r n q. n (rw (r, k.0) at q)) es k.1 (all_records (λ y. rank_in key h y ≡ rank_in key h (record_in e) → ⊥) es d.0),
    ranks_records es k.1 d.1,
  )

  pub distinct_records : (es : List Entry) → All (Right h) es → RecordSet key (map record_in es) → Distinct rank es
  distinct_records es k f = ranks_records es k (distinct_rank key h (map record_in es) f)

  -- in order of rank they are laid as their records are
  pub entries_laid : (es : List Entry) → All (Right h) es → (n : ℕ) → map (map record_in) (lay home slots n 0 (sort rank es)) ≡ laid_out slots h n (map record_in es)
  entries_laid es k n = lay_records slots n 0 (sort rank es) (all_sort (Right h) rank es k) ∙ rw (sort_records es k)

-- the same of the entries of pages
module _ (h : ℕ → ℕ) (ps : List (List Record)) where
  pub pages_relaid : (n : ℕ) → map (map record_in) (lay home slots n 0 (sort rank (tagged_from h 0 ps))) ≡ relaid slots h n ps
  unfolding relaid
  pages_relaid n = entries_laid h (tagged_from h 0 ps) (pages_right h 0 ps) n ∙ rw (pages_records h 0 ps)

  pub pages_distinct : RecordSet key (cat ps []) → Distinct rank (tagged_from h 0 ps)
  pages_distinct f = distinct_records h (tagged_from h 0 ps) (pages_right h 0 ps) (rw (pages_records h 0 ps) f)

  pub pages_length : length (tagged_from h 0 ps) ≡ length (cat ps [])
  pages_length = sym (length-map (tagged_from h 0 ps) record_in) ∙ ap length (pages_records h 0 ps)

  -- and have room where the records have it
  pub pages_room : (n : ℕ) → taken (home_for h) slots (cat ps []) n ≡ length (cat ps []) → taken home slots (tagged_from h 0 ps) n ≡ length (tagged_from h 0 ps)
  pages_room n e = taken_records h slots (tagged_from h 0 ps) (pages_right h 0 ps) n ∙ rw (pages_records h 0 ps) (e ∙ sym pages_length)
