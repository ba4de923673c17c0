-- The entries of an area's pages, each with its new home, are packed, sorted and counted as their records are.
use mathlib.Core.Path.{◌≡◌, refl, ap, ◌∙◌}
use mathlib.Core.Bool.{Bool}
use mathlib.Core.List.{List, [], ◌∷◌, ◌++◌, map}
use Prim.Native.Nat.{ℕ, zero, suc, ◌+◌, ◌*◌, ◌≤◌, ◌<◌}
use native.Mathlib.Omega.{arith}
use lib.ListN.{length}
use Rattle.layouts.specs.Layout.{in_use}
use Rattle.placing.specs.Image.{All, cat}
use Rattle.placing.specs.Lay.{one, count, rank_in, Sorted}
use Rattle.placing.specs.Rows.{at_home}
use Rattle.placing.specs.Steps.Packed.{Packed}
use Rattle.pages.specs.Page.{Record, key, home_for}
use Rattle.pages.specs.Area.{held_from}
use Rattle.entries.specs.declared.Entry.{Entry}
use Rattle.rebuild.specs.Steps.Rebuild.{slots, tagged, tagged_from, record_in}
use Rattle.rebuild.proofs.Tags.{tagged-length, entries_few}
use Rattle.rebuild.proofs.Packing.{parts_from, on_page}
use Rattle.rebuild.proofs.Commuting.{Right, all_records, tagged_records, pages_right, pages_records}
use Rattle.leaving.specs.Steps.Leaving.{homed}
use Rattle.leaving.proofs.Segments.{onward}

-- a page's records with their new homes
abbrev pub tagged_on : (ℕ → ℕ) → List ℕ → ℕ → List Entry
tagged_on h area i = tagged h i (on_page area i)

-- the old home of an entry's record, and its rank by that
abbrev pub was_in : (ℕ → ℕ) → Entry → ℕ
was_in was e = home_for was (record_in e)

abbrev pub rank_was : (ℕ → ℕ) → Entry → ℕ
rank_was was e = rank_in key was (record_in e)

module _ (h : ℕ → ℕ) (area : List ℕ) where
  pub tagged_onward : (n a : ℕ) → onward (tagged_on h area) n a ≡ tagged_from h a (held_from in_use area n a)
  tagged_onward zero a = refl
  tagged_onward (suc n) a = ap (λ (es : List Entry). tagged_on h area a ++ es) (tagged_onward n (suc a))

  onward_records : (n a : ℕ) → map record_in (onward (tagged_on h area) n a) ≡ cat (held_from in_use area n a) []
  onward_records n a = ap (map record_in) (tagged_onward n a) ∙ pages_records h a (held_from in_use area n a)

  pub onward_right : (n a : ℕ) → All (Right h) (onward (tagged_on h area) n a)
  onward_right n a = rw (tagged_onward n a) (pages_right h a (held_from in_use area n a))

  pub onward_few : (n a : ℕ) → length (onward (tagged_on h area) n a) ≤ slots * n
  onward_few n a = rw (tagged_onward n a) (entries_few h area n a)

  pub packed_tagged : (was : ℕ → ℕ) (n a : ℕ) → Packed (home_for was) slots a (held_from in_use area n a) [] → Packed (was_in was) slots a (parts_from (tagged_on h area) n a) []
  packed_tagged was zero a i = tt
  packed_tagged was (suc n) a i =
      let few : length (tagged_on h area a) ≡ length (on_page area a) = tagged-length h a (on_page area a) in (
        omega (arith, few, i.0),
        all_records (λ x. home_for was x ≤ a) (tagged_on h area a) (rw (tagged_records h a (on_page area a)) i.1),
        (λ l. all_records (λ x. a < home_for was x) (onward (tagged_on h area) n (suc a)) (rw (onward_records n (suc a)) (i.2 (omega (arith, few))))),
        packed_tagged was n (suc a) i.3,
      )

pub sorted_records : (rank : Record → ℕ) (es : List Entry) → Sorted rank (map record_in es) → Sorted (λ e. rank (record_in e)) es
sorted_records rank [] o = tt
sorted_records rank (e ∷ es) o = (all_records (λ y. rank (record_in e) < rank y) es o.0, sorted_records rank es o.1)

pub count_records : (on : Record → Bool) (es : List Entry) → count (λ e. on (record_in e)) es ≡ count on (map record_in es)
count_records on [] = refl
count_records on (e ∷ es) = ap (λ (n : ℕ). one (on (record_in e)) + n) (count_records on es)

-- the homes that entries say are those of their records
pub count-homed : (h : ℕ → ℕ) (i : ℕ) (es : List Entry) → All (Right h) es → count (homed i) es ≡ at_home (home_for h) i (map record_in es)
count-homed h i [] r = refl
count-homed h i (e ∷ es) r = rw (r.0, count-homed h i es r.1)
