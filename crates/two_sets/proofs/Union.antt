-- What two sets hold together: it is a set, and the same both ways where what both hold is the same.
use mathlib.Core.Path.{◌≡◌, refl, sym, ap, ◌∙◌}
use mathlib.Core.Bool.{Bool, true, false, cond}
use mathlib.Core.Option.{Option, none, some}
use mathlib.Core.List.Permᴰ
use mathlib.Core.List.{List, [], ◌∷◌, ◌++◌, Permᴰ}
use Prim.Native.Nat.{ℕ, ◌^◌, ◌<◌}
use lib.Dec.{eqb}
use borrow.Author.Tests.{eqb-true}
use Rattle.placing.specs.Image.{All, Distinct, RecordSet}
use Rattle.placing.specs.Lay.{sort}
use Rattle.placing.specs.Walks.{or_else, if_found, seek}
use Rattle.placing.proofs.Lists.{all_append}
use Rattle.placing.proofs.Seek.{seek-append, seek_ne, ne_seek}
use Rattle.placing.proofs.Seek as Seeks
use Rattle.placing.proofs.Perms.{perm-seek, perm_distinct, sort-perm, sort_sorted}
use Rattle.placing.proofs.Tidy.{set_perm}
use Rattle.two_sets.specs.Union.{missing, union}
use Rattle.two_sets.proofs.Differences.{distinct_append}

module _ {R : Type 0} (key : R → ℕ) where
  -- what holds of all of a set holds of those that are missing
  pub missing_all : (P : R → Type 0) (xs ys : List R) → All P ys → All P (missing key xs ys)
  missing_all P xs [] h = tt
  missing_all P xs (y ∷ ys) h = go (seek key (key y) xs) (missing_all P xs ys h.1)
    where
      go : (o : Option R) → All P (missing key xs ys) → All P (if_found o (missing key xs ys) (y ∷ missing key xs ys))
      go none ih = (h.0, ih)
      go (some x) ih = ih

  -- those of two parts are missing one after the other
  pub missing-append : (xs ys zs : List R) → missing key xs (ys ++ zs) ≡ missing key xs ys ++ missing key xs zs
  missing-append xs [] zs = refl
  missing-append xs (y ∷ ys) zs = go (seek key (key y) xs) (missing-append xs ys zs)
    where
      go : (o : Option R) → missing key xs (ys ++ zs) ≡ missing key xs ys ++ missing key xs zs
          → if_found o (missing key xs (ys ++ zs)) (y ∷ missing key xs (ys ++ zs)) ≡ if_found o (missing key xs ys) (y ∷ missing key xs ys) ++ missing key xs zs
      go none ih = ap (λ (s : List R). y ∷ s) ih
      go (some x) ih = ih

  missing_once : (xs ys : List R) → Distinct key ys → Distinct key (missing key xs ys)
  missing_once xs [] d = tt
  missing_once xs (y ∷ ys) d = go (seek key (key y) xs) (missing_once xs ys d.1)
    where
      go : (o : Option R) → Distinct key (missing key xs ys) → Distinct key (if_found o (missing key xs ys) (y ∷ missing key xs ys))
      go none ih = (missing_all (λ w. key w ≡ key y → ⊥) xs ys d.0, ih)
      go (some x) ih = ih

  -- those that are missing have keys that the set lacks
  missing_new : (xs ys : List R) → All (λ y. All (λ x. key x ≡ key y → ⊥) xs) (missing key xs ys)
  missing_new xs [] = tt
  missing_new xs (y ∷ ys) = go (seek key (key y) xs) refl (missing_new xs ys)
    where
      go : (o : Option R) → seek key (key y) xs ≡ o → All (λ w. All (λ x. key x ≡ key w → ⊥) xs) (missing key xs ys)
          → All (λ w. All (λ x. key x ≡ key w → ⊥) xs) (if_found o (missing key xs ys) (y ∷ missing key xs ys))
      go none e ih = (seek_ne key (key y) xs e, ih)
      go (some x) e ih = ih

  -- both together are a record set
  pub union_set : (xs ys : List R) → RecordSet key xs → RecordSet key ys → RecordSet key (union key xs ys)
  unfolding union
  union_set xs ys f g = record {
    keys = all_append (λ x. key x < 2 ^ 64) (missing key xs ys) xs (missing_all (λ x. key x < 2 ^ 64) xs ys g.keys) f.keys;
    once = distinct_append key (missing key xs ys) xs (missing_once xs ys g.once) f.once (missing_new xs ys);
  }

  -- what is found among the missing: what the second holds where the first holds nothing
  abbrev unless_held : Option R → Option R → Option R
  unless_held none o = o
  unless_held (some x) o = none

  missing_at : (k : ℕ) (xs ys : List R) → Distinct key ys → seek key k (missing key xs ys) ≡ unless_held (seek key k xs) (seek key k ys)
  missing_at k xs [] d = go (seek key k xs)
    where
      go : (o : Option R) → none ≡ unless_held o none
      go none = refl
      go (some x) = refl
  missing_at k xs (y ∷ ys) d = go (seek key (key y) xs) (eqb (key y) k) refl refl (missing_at k xs ys d.1)
    where
      held : (o : Option R) (x : R) (p : Option R) → o ≡ some x → unless_held o p ≡ none
      held o x p e = rw e

      go : (o : Option R) (u : Bool) → seek key (key y) xs ≡ o → eqb (key y) k ≡ u → seek key k (missing key xs ys) ≡ unless_held (seek key k xs) (seek key k ys)
          → seek key k (if_found o (missing key xs ys) (y ∷ missing key xs ys)) ≡ unless_held (seek key k xs) (cond u (some y) (seek key k ys))
      go none true e f ih = let q : key y ≡ k = eqb-true (key y) k f in rw (f, ← q, e)
      go none false e f ih = rw f ih
      go (some x) true e f ih =
          let q : key y ≡ k = eqb-true (key y) k f in
          let gone : seek key (key y) ys ≡ none = ne_seek key (key y) ys d.0 in
          let at : seek key (key y) (missing key xs ys) ≡ unless_held (seek key (key y) xs) (seek key (key y) ys) = rw (← q) at ih in
          rw (← q) (at ∙ held (seek key (key y) xs) x (seek key (key y) ys) e ∙ sym (held (seek key (key y) xs) x (some y) e))
      go (some x) false e f ih = ih

  or_unless : (o p : Option R) → or_else (unless_held o p) o ≡ or_else o p
  or_unless none none = refl
  or_unless none (some y) = refl
  or_unless (some x) p = refl

  -- the union holds at a key what the first holds there, or else the second
  pub union_at : (xs ys : List R) → Distinct key ys → (k : ℕ) → seek key k (union key xs ys) ≡ or_else (seek key k xs) (seek key k ys)
  unfolding union
  union_at xs ys d k = seek-append key k (missing key xs ys) xs ∙ rw (missing_at k xs ys d) (or_unless (seek key k xs) (seek key k ys))

  -- two sets in which the same is found hold the same records
  pub same_records : (s t : List R) → Distinct key s → Distinct key t → ((k : ℕ) → seek key k s ≡ seek key k t) → Permᴰ s t
  same_records s t d e h =
      let found : (k : ℕ) → seek key k (sort key s) ≡ seek key k (sort key t) =
      λ k. perm-seek key k (sort-perm key s) (perm_distinct key (Permᴰ.symm (sort-perm key s)) d) ∙ h k ∙ sym (perm-seek key k (sort-perm key t) (perm_distinct key (Permᴰ.symm (sort-perm key t)) e)) in
      let one_list = Seeks.same key (sort key s) (sort key t) (sort_sorted key s d) (sort_sorted key t e) found in
      Permᴰ.trans (Permᴰ.symm (rw one_list at (sort-perm key s))) (sort-perm key t)

  -- so the union is set by the two sets, in whatever order they are told
  pub union-perm : {xs xs' ys ys' : List R} → Permᴰ xs xs' → Permᴰ ys ys' → RecordSet key xs → RecordSet key ys → Permᴰ (union key xs ys) (union key xs' ys')
  union-perm {xs} {xs'} {ys} {ys'} p q f g =
      let f' = set_perm key p f in
      let g' = set_perm key q g in
      same_records (union key xs ys) (union key xs' ys') (union_set xs ys f g).once (union_set xs' ys' f' g').once
      (λ k. union_at xs ys g.once k ∙ rw (perm-seek key k p f.once, perm-seek key k q g.once) (sym (union_at xs' ys' g'.once k)))

  -- and where what both hold is the same, it does not matter which is the first
  pub union_both : (xs ys : List R) → RecordSet key xs → RecordSet key ys → ((k : ℕ) (x y : R) → seek key k xs ≡ some x → seek key k ys ≡ some y → x ≡ y) → Permᴰ (union key xs ys) (union key ys xs)
  union_both xs ys f g agree =
      same_records (union key xs ys) (union key ys xs) (union_set xs ys f g).once (union_set ys xs g f).once
      (λ k. union_at xs ys g.once k ∙ go k (seek key k xs) (seek key k ys) refl refl ∙ sym (union_at ys xs f.once k))
    where
      go : (k : ℕ) (o p : Option R) → seek key k xs ≡ o → seek key k ys ≡ p → or_else o p ≡ or_else p o
      go k none none d e = refl
      go k none (some y) d e = refl
      go k (some x) none d e = refl
      go k (some x) (some y) d e = ap some (agree k x y d e)

  -- an empty set adds nothing
  pub union_none : (xs : List R) → union key xs [] ≡ xs
  unfolding union
  union_none xs = refl
