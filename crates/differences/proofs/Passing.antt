-- A pass, record by record and page by page: each has the same to show of the records that it met.
use mathlib.Core.Path.{◌≡◌, refl, sym, ap, subst, ◌∙◌}
use mathlib.Core.Bool.{Bool, true, false, cond}
use mathlib.Core.Option.{Option, none, some}
use mathlib.Core.List.{List, [], ◌∷◌, ◌++◌, map, map-append, append_assoc, append-nil}
use Prim.Native.Nat.{ℕ, zero, suc, ◌+◌, ◌*◌, ◌≤◌}
use native.Mathlib.Nat.{add-zero, zero-add}
use native.Mathlib.Numerals.{add-one}
use native.Mathlib.Omega.{arith}
use lib.Dec.{eqb}
use lib.ListN.{length, get_or, length-append, length-map}
use Rattle.layouts.specs.Layout.{in_use}
use Rattle.placing.specs.Image.{cat}
use Rattle.placing.specs.Lay.{count}
use Rattle.placing.proofs.Lists.{count-append}
use Rattle.pages.specs.declared.Page.{Page}
use Rattle.pages.specs.Page.{Record, key, value, record_with, in_memory, records_in}
use Rattle.pages.specs.Steps.Slots.{paired, records_of}
use Rattle.pages.specs.Area.{part_at, held_from}
use Rattle.pages.proofs.Memory.{page_records, page_count}
use Rattle.pages.proofs.Seeking.{paired-length, paired_turn}
use Rattle.pages.proofs.Read.{held_twelve}
use Rattle.entries.specs.Steps.Entries.{size}
use Rattle.two_sets.specs.Differences.{only_first, only_second, unlike, is_unlike}
use Rattle.sites.specs.declared.Which.{Which}
use Rattle.sites.specs.declared.Which.TheVariants.{First, Second}
use Rattle.differences.specs.declared.Tally.{Tally}
use Rattle.differences.specs.Steps.Passes.{D, of_one, of_all, entry_of, fitted, is_only, Passes}
use Rattle.differences.proofs.Fitting.{fitted-append}

-- each difference is of one file, or of both
pub only_both : (ds : List D) → count is_only ds + count is_unlike ds ≡ length ds
only_both [] = refl
only_both (only_first x ∷ ds) = omega (arith, only_both ds)
only_both (only_second y ∷ ds) = omega (arith, only_both ds)
only_both (unlike x y ∷ ds) = omega (arith, only_both ds)

abbrev pub tally_of : (a b : ℕ) → Tally
tally_of a b = record { absent = a; unlike = b }

module _ (which : Which) (look : ℕ → Option Record) where
  all_append : (p q : List Record) → of_all which look (p ++ q) ≡ of_all which look p ++ of_all which look q
  all_append [] q = refl
  all_append (x ∷ p) q = rw (all_append p q, append_assoc)

  -- a record makes one difference at most
  one_few : (x : Record) (o : Option Record) → length (of_one which x o) ≤ 1
  one_few x o = go which o
    where
      go : (u : Which) (p : Option Record) → length (of_one u x p) ≤ 1
      go First none = omega arith
      go Second none = omega arith
      go Second (some y) = omega arith
      go First (some y) = go_on (eqb (value x) (value y))
        where
          go_on : (v : Bool) → length (cond v [] (unlike x y ∷ [])) ≤ 1
          go_on true = omega arith
          go_on false = omega arith

  all_few : (rs : List Record) → length (of_all which look rs) ≤ length rs
  all_few [] = omega arith
  all_few (x ∷ rs) = omega (arith, length-append (of_one which x (look (key x))) (of_all which look rs), one_few x (look (key x)), all_few rs)

  -- before the first record
  pub passes_none : (row : List ℕ) (at : ℕ) → Passes which look [] row at (tally_of 0 0) row
  unfolding fitted
  passes_none row at = record { tally = refl; rows = refl }

module _ {which : Which} {look : ℕ → Option Record} {rs : List Record} {row₀ : List ℕ} {at : ℕ} {t : Tally} {row : List ℕ} (w : Passes which look rs row₀ at t row) where
  -- the tally tells how many entries there are
  pub passes_many : t.absent + t.unlike ≡ length (of_all which look rs)
  passes_many = rw w.tally (only_both (of_all which look rs))

  pub passes_few : t.absent + t.unlike ≤ length rs
  passes_few = omega (arith, passes_many, all_few which look rs)

  -- some more, from where these end
  pub passes_more : {qs : List Record} {to : ℕ} {u : Tally} {row₁ : List ℕ} → to ≡ at + size * (t.absent + t.unlike) → Passes which look qs row to u row₁
      → Passes which look (rs ++ qs) row₀ at (tally_of (t.absent + u.absent) (t.unlike + u.unlike)) row₁
  passes_more {qs} {to} {u} {row₁} e v =
      let ds : List D = of_all which look rs in
      let es : List D = of_all which look qs in
      let n : at + size * (t.absent + t.unlike) ≡ at + size * length (map entry_of ds) = omega (arith, passes_many, length-map ds entry_of) in
      let whole : fitted (fitted row₀ at (map entry_of ds)) (at + size * length (map entry_of ds)) (map entry_of es) ≡ fitted row₀ at (map entry_of (ds ++ es)) = sym (ap (fitted row₀ at) (map-append entry_of ds es) ∙ fitted-append row₀ at (map entry_of ds) (map entry_of es)) in
      let both : of_all which look (rs ++ qs) ≡ ds ++ es = all_append which look rs qs in
      record {
        tally = rw (both, w.tally, v.tally, count-append is_only ds es, count-append is_unlike ds es);
        rows = v.rows ∙ rw (e, n, w.rows, both) whole;
      }

-- the records of a page's rows, one more
module _ {which : Which} {look : ℕ → Option Record} (ks vs us : List ℕ) (i : ℕ) {row₀ : List ℕ} {at : ℕ} {t : Tally} {row : List ℕ} (w : Passes which look (paired i ks vs us) row₀ at t row) where
  pub page_few : t.absent + t.unlike ≤ i
  page_few = omega (arith, passes_few w, paired-length i ks vs us)

  pub page_turn : {to : ℕ} {u : Tally} {row₁ : List ℕ} → to ≡ at + size * (t.absent + t.unlike) → Passes which look (record_with (get_or ks i 0) (get_or vs i 0) (get_or us i 0) ∷ []) row to u row₁
      → Passes which look (paired (i + 1) ks vs us) row₀ at (tally_of (t.absent + u.absent) (t.unlike + u.unlike)) row₁
  page_turn {to} {u} {row₁} e v =
      subst (λ (rs : List Record). Passes which look rs row₀ at (tally_of (t.absent + u.absent) (t.unlike + u.unlike)) row₁) (sym (paired_turn i ks vs us)) (passes_more w e v)

  pub page_end : (n : ℕ) → i ≡ n → Passes which look (paired n ks vs us) row₀ at t row
  page_end n e = subst (λ (j : ℕ). Passes which look (paired j ks vs us) row₀ at t row) e w

-- and of an area's pages
held_more : (area : List ℕ) (n a : ℕ) → cat (held_from in_use area (suc n) a) [] ≡ cat (held_from in_use area n a) [] ++ records_in in_use (part_at area (a + n))
held_more area zero a = rw (add-zero a) (append-nil (records_in in_use (part_at area a)))
held_more area (suc n) a =
    let e : suc a + n ≡ a + suc n = omega arith in
    ap (λ (s : List Record). records_in in_use (part_at area a) ++ s) (held_more area n (suc a)) ∙ rw (e, append_assoc)

held_turn : (area : List ℕ) (a : ℕ) (p : Page) → p ≡ in_memory (records_in in_use (part_at area a))
    → cat (held_from in_use area a 0) [] ++ records_of p ≡ cat (held_from in_use area (a + 1) 0) []
held_turn area a p e = rw (add-one a, page_records p (records_in in_use (part_at area a)) e) (sym (rw (zero-add a) at (held_more area a 0)))

-- how many records stand on the first pages
held_most : (area : List ℕ) (n a : ℕ) → length (cat (held_from in_use area n a) []) ≤ 12 * n
held_most area zero a = omega arith
held_most area (suc n) a =
    omega (arith, length-append (records_in in_use (part_at area a)) (cat (held_from in_use area n (suc a)) []), held_twelve in_use (part_at area a), held_most area n (suc a))

module _ {which : Which} {look : ℕ → Option Record} (area : List ℕ) (a : ℕ) {row₀ : List ℕ} {at : ℕ} {t : Tally} {row : List ℕ} (w : Passes which look (cat (held_from in_use area a 0) []) row₀ at t row) where
  pub file_few : t.absent + t.unlike ≤ 12 * a
  file_few = omega (arith, passes_few w, held_most area a 0)

  pub file_turn : (p : Page) → p ≡ in_memory (records_in in_use (part_at area a)) → {to : ℕ} {u : Tally} {row₁ : List ℕ} → to ≡ at + size * (t.absent + t.unlike) → Passes which look (records_of p) row to u row₁
      → Passes which look (cat (held_from in_use area (a + 1) 0) []) row₀ at (tally_of (t.absent + u.absent) (t.unlike + u.unlike)) row₁
  file_turn p q {to} {u} {row₁} e v =
      subst (λ (rs : List Record). Passes which look rs row₀ at (tally_of (t.absent + u.absent) (t.unlike + u.unlike)) row₁) (held_turn area a p q) (passes_more w e v)

-- a page has twelve records at most
pub page_most : (area : List ℕ) (a : ℕ) (p : Page) → p ≡ in_memory (records_in in_use (part_at area a)) → (p.count ≤ 12) × (length (records_of p) ≤ 12)
page_most area a p e = (omega (arith, page_count p (records_in in_use (part_at area a)) e, held_twelve in_use (part_at area a)), rw (page_records p (records_in in_use (part_at area a)) e) (held_twelve in_use (part_at area a)))
