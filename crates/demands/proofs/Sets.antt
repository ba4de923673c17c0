-- The commit of a request and the records without one, in placing's words; and what the order of
-- records does not change.
use mathlib.Core.Path.{◌≡◌, refl, sym, ap, subst, ◌∙◌}
use mathlib.Core.Bool.{Bool, true, false, cond}
use mathlib.Core.Option.{Option, none, some, map}
use mathlib.Core.List.Permᴰ
use mathlib.Core.List.{List, [], ◌∷◌, Permᴰ}
use Prim.Native.Nat.{ℕ, suc, ◌^◌, ◌<◌}
use lib.Dec.{eqb}
use lib.ListN.{length}
use borrow.Author.Tests.{eqb-true}
use Rattle.placing.specs.Image.{All, Distinct, RecordSet}
use Rattle.placing.specs.Lay.{sort}
use Rattle.placing.specs.Walks.{seek, del}
use Rattle.placing.proofs.Seek.{clash, seek_ne, ne_seek, same, del_absent, del_left}
use Rattle.placing.proofs.Perms.{perm-seek, sort-perm, sort_sorted}
use Rattle.pages.specs.Page.{Record, key, value}
use Rattle.demands.specs.Histories.{without, record_of, commit_of}

module _ (k : ℕ) where
  -- the record of a request is the one that is found
  pub record_found : (s : List Record) → record_of k s ≡ seek key k s
  unfolding record_of
  record_found [] = refl
  record_found (x ∷ s) = rw (record_found s)

  pub commit_found : (s : List Record) → commit_of k s ≡ map value (seek key k s)
  unfolding commit_of
  commit_found [] = refl
  commit_found (x ∷ s) = rw (commit_found s) (go (eqb (key x) k))
    where
      go : (u : Bool) → cond u (some (value x)) (map value (seek key k s)) ≡ map value (cond u (some x) (seek key k s))
      go true = refl
      go false = refl

  -- a commit, or none, tells what is found
  pub seek-some : (s : List Record) {v : ℕ} → commit_of k s ≡ some v → (x : Record) × (value x ≡ v) × (seek key k s ≡ some x)
  seek-some s {v} e = go (seek key k s) refl
    where
      go : (o : Option Record) → seek key k s ≡ o → (x : Record) × (value x ≡ v) × (seek key k s ≡ some x)
      go none q = absurd (clash (sym (rw q at (commit_found s)) ∙ e))
      go (some x) q = let t : some (value x) ≡ some v = sym (rw q at (commit_found s)) ∙ e in (x, cc, q)

  pub seek-none : (s : List Record) → commit_of k s ≡ none → seek key k s ≡ none
  seek-none s e = go (seek key k s) refl
    where
      go : (o : Option Record) → seek key k s ≡ o → seek key k s ≡ none
      go none q = q
      go (some x) q = absurd (clash (sym e ∙ rw q at (commit_found s)))

  -- where no request is held twice, to leave out its records is to take out one
  pub without-del : (s : List Record) → Distinct key s → without k s ≡ del key k s
  unfolding without
  without-del [] h = refl
  without-del (x ∷ s) h = go (eqb (key x) k) refl (without-del s h.1)
    where
      go : (u : Bool) → eqb (key x) k ≡ u → without k s ≡ del key k s → cond u (without k s) (x ∷ without k s) ≡ cond u s (x ∷ del key k s)
      go true e ih = ih ∙ del_absent key k s (ne_seek key k s (subst (λ (j : ℕ). All (λ y. key y ≡ j → ⊥) s) (eqb-true (key x) k e) h.0))
      go false e ih = ap (λ (t : List Record). x ∷ t) ih

  -- one fewer is left without a request that is held
  pub without-length : {s : List Record} {v : ℕ} → RecordSet key s → commit_of k s ≡ some v → suc (length (without k s)) ≡ length s
  without-length {s} {v} f e = let t = seek-some s e in rw (without-del s f.once) (del_left key k t.0 s [] t.2).1

-- a record set stays one with a request that it does not hold
pub set_put : {s : List Record} (x : Record) → RecordSet key s → key x < 2 ^ 64 → commit_of (key x) s ≡ none → RecordSet key (x ∷ s)
set_put {s} x f l e = record { keys = (l, f.keys); once = (seek_ne key (key x) s (seek-none (key x) s e), f.once) }

-- in order of keys the same is found
sorted_record : (k : ℕ) {s : List Record} → RecordSet key s → seek key k (sort key s) ≡ record_of k s
sorted_record k {s} f = sym (perm-seek key k (Permᴰ.symm (sort-perm key s)) f.once) ∙ sym (record_found k s)

-- records that give each request the same record are the same, in whatever order
pub same_records : {s t : List Record} → RecordSet key s → RecordSet key t → ((k : ℕ) → record_of k s ≡ record_of k t) → Permᴰ s t
same_records {s} {t} f g h =
    let found : (k : ℕ) → seek key k (sort key s) ≡ seek key k (sort key t) = λ k. rw (sorted_record k f, h k) (sym (sorted_record k g)) in
    let e = same key (sort key s) (sort key t) (sort_sorted key s f.once) (sort_sorted key t g.once) found in
    Permᴰ.trans (Permᴰ.symm (rw e at (sort-perm key s))) (sort-perm key t)
