-- The records from a page on are the last of all, and stay so where pages before them are written.
use mathlib.Core.Path.{◌≡◌, refl}
use mathlib.Core.List.{List, [], ◌∷◌, ◌++◌}
use Prim.Native.Nat.{ℕ, zero, suc, ◌+◌, ◌-◌, ◌*◌, ◌≤◌}
use native.Mathlib.Omega.{arith}
use lib.ListN.{drop}
use lib.Seq.{drop-drop}
use Rattle.layouts.specs.Layout.{in_use}
use Rattle.placing.specs.Image.{All, Distinct}
use Rattle.placing.proofs.Lists.{all_right}
use Rattle.pages.specs.Area.{part_at, held_from}
use Rattle.entries.specs.declared.Entry.{Entry}
use Rattle.rebuild.specs.Steps.Rebuild.{tagged, packed}
use Rattle.rebuild.proofs.Commuting.{all_drop}
use Rattle.sliding.specs.Steps.Reading.{held, onward, rest}
use Rattle.sliding.proofs.Places.{onward_page}

distinct_drop : {R : Type 0} (key : R → ℕ) (n : ℕ) (s : List R) → Distinct key s → Distinct key (drop n s)
distinct_drop key zero s d = d
distinct_drop key (suc n) [] d = tt
distinct_drop key (suc n) (x ∷ s) d = distinct_drop key n s d.1

distinct_right : {R : Type 0} (key : R → ℕ) (s t : List R) → Distinct key (s ++ t) → Distinct key t
distinct_right key [] t d = d
distinct_right key (x ∷ s) t d = distinct_right key s t d.1

-- what holds of all entries holds of those from a place on
module _ (h : ℕ → ℕ) (area : List ℕ) (cap : ℕ) where
  onward_first : onward h area cap 0 ≡ packed h cap area
  unfolding packed
  onward_first = let z : cap - 0 ≡ cap = omega arith in rw z

  pub rest_all : rest h area cap 0 0 ≡ packed h cap area
  unfolding rest
  rest_all = onward_first

  onward_holds : (Q : Entry → Type 0) → All Q (packed h cap area) → (r : ℕ) → r ≤ cap → All Q (onward h area cap r)
  onward_holds Q k zero l = rw onward_first k
  onward_holds Q k (suc r) l =
      all_right Q (tagged h r (held area r)) (onward h area cap (suc r)) (rw (onward_page h area cap r (omega arith)) at (onward_holds Q k r (omega arith)))

  pub rest_holds : (Q : Entry → Type 0) → All Q (packed h cap area) → (r i : ℕ) → r ≤ cap → All Q (rest h area cap r i)
  unfolding rest
  rest_holds Q k r i l = all_drop Q i (onward h area cap r) (onward_holds Q k r l)

  onward_distinct : (key : Entry → ℕ) → Distinct key (packed h cap area) → (r : ℕ) → r ≤ cap → Distinct key (onward h area cap r)
  onward_distinct key k zero l = rw onward_first k
  onward_distinct key k (suc r) l =
      distinct_right key (tagged h r (held area r)) (onward h area cap (suc r)) (rw (onward_page h area cap r (omega arith)) at (onward_distinct key k r (omega arith)))

  pub rest_distinct : (key : Entry → ℕ) → Distinct key (packed h cap area) → (r i : ℕ) → r ≤ cap → Distinct key (rest h area cap r i)
  unfolding rest
  rest_distinct key k r i l = distinct_drop key i (onward h area cap r) (onward_distinct key k r l)

-- two areas that are the same from page a on
module _ (area first : List ℕ) (a : ℕ) (same : drop (256 * a) area ≡ drop (256 * a) first) where
  part_same : (r : ℕ) → a ≤ r → part_at area r ≡ part_at first r
  unfolding part_at
  part_same r l =
      let q : 256 * r ≡ 256 * a + 256 * (r - a) = omega arith in
      rw (q, ← drop-drop (256 * (r - a)) (256 * a) area, ← drop-drop (256 * (r - a)) (256 * a) first, same)

  pub held_same : (r : ℕ) → a ≤ r → held area r ≡ held first r
  held_same r l = rw (part_same r l)

  pages_same : (n r : ℕ) → a ≤ r → held_from in_use area n r ≡ held_from in_use first n r
  pages_same zero r l = refl
  pages_same (suc n) r l = rw (part_same r l, pages_same n (suc r) (omega arith))

  pub rest_same : (h : ℕ → ℕ) (cap r i : ℕ) → a ≤ r → rest h area cap r i ≡ rest h first cap r i
  unfolding rest
  rest_same h cap r i l = rw (pages_same (cap - r) r l)
