-- Places among records in order: how many stand before a rank, from the front or from the back.
use mathlib.Core.Path.{◌≡◌, refl, sym, ◌∙◌}
use mathlib.Core.Bool.{Bool, true, false, cond}
use mathlib.Core.List.{List, [], ◌∷◌}
use Prim.Native.Nat.{ℕ, zero, suc, ◌+◌, ◌-◌, ◌≤◌, ◌<◌}
use native.Mathlib.Nat.{add-zero, zero-add}
use native.Mathlib.Numerals.{add-one}
use native.Mathlib.Omega.{arith}
use borrow.Author.Tests.{ltb-true, ltb-false, le-leb, lt-leb}
use lib.Dec.{ltb, leb}
use lib.ListN.{length, get_or}
use Rattle.pages.specs.Page.{Record, key, vacant, rank}
use Rattle.placing.specs.Lay.{ranked}
use Rattle.pages.specs.Places.{ahead}
use Rattle.pages.specs.Steps.Slots.{up_to_back}

-- how many of n places from i on stand before r, where f is the rank at a place
abbrev pub passed : (ℕ → ℕ) → (n i r : ℕ) → ℕ
passed f zero i r = i
passed f (suc n) i r =
    let on = passed f n (suc i) r in
    cond (ltb (f i) r) on i

module _ (f : ℕ → ℕ) (n i r : ℕ) where
  -- a place that stands before r is passed
  pub passed_turn : i < n → ltb (f i) r ≡ true → passed f (n - (i + 1)) (i + 1) r ≡ passed f (n - i) i r
  passed_turn h t =
      let e : n - i ≡ suc (n - (i + 1)) = omega arith in
      rw (e, t, add-one)

  -- the first that does not is the place
  pub passed_here : i < n → ltb (f i) r ≡ false → passed f (n - i) i r ≡ i
  passed_here h t =
      let e : n - i ≡ suc (n - (i + 1)) = omega arith in
      rw (e, t)

  -- where all do, the end is the place
  pub passed_all : n ≤ i → passed f (n - i) i r ≡ i
  passed_all h =
      let e : n - i ≡ 0 = omega arith in
      rw e

module _ {R : Type 0} (rk : R → ℕ) (f : ℕ → ℕ) (r : ℕ) (d : R) where
  -- the places passed are the records ahead in a list that has those ranks
  pub passed-ahead : (i : ℕ) (s : List R) → ((j : ℕ) → j < length s → f (i + j) ≡ rk (get_or s j d)) → passed f (length s) i r ≡ i + ahead rk r s
  passed-ahead i [] h = sym (add-zero i)
  passed-ahead i (y ∷ s) h = go (ltb (rk y) r) refl (passed-ahead (suc i) s after)
    where
      here : f i ≡ rk y
      here = rw add-zero at (h 0 (omega arith))

      after : (j : ℕ) → j < length s → f (suc i + j) ≡ rk (get_or s j d)
      after j l =
          let e : suc i + j ≡ i + suc j = omega arith in
          rw e (h (suc j) (omega arith))

      go : (u : Bool) → ltb (rk y) r ≡ u → passed f (length s) (suc i) r ≡ suc i + ahead rk r s
          → passed f (suc (length s)) i r ≡ i + cond (leb r (rk y)) 0 (suc (ahead rk r s))
      go true t ih = rw (here, t, lt-leb r (rk y) (ltb-true (rk y) r t)) (omega arith)
      go false t ih = rw (here, t, le-leb r (rk y) (ltb-false (rk y) r t)) (omega arith)

-- the rank of the record at a place
abbrev pub rank_at : (ℕ → ℕ) → List Record → ℕ → ℕ
rank_at h rs j = rank h (get_or rs j vacant)

module _ (h : ℕ → ℕ) (r : ℕ) (rs : List Record) where
  -- the test of a record whose home was worked out from its key
  pub key_test : (i k home : ℕ) (t u : Bool) → t ≡ u → k ≡ key (get_or rs i vacant) → home ≡ h k → t ≡ ltb (ranked home k) r → ltb (rank_at h rs i) r ≡ u
  key_test i k home t u v d e q = rw (← d, ← e, ← q, v)

  -- the places passed by all records are those ahead of r
  pub records_ahead : (n : ℕ) → n ≡ length rs → passed (rank_at h rs) n 0 r ≡ ahead (rank h) r rs
  records_ahead n e = rw e (passed-ahead (rank h) (rank_at h rs) r vacant 0 rs (λ j l. rw zero-add)) ∙ zero-add (ahead (rank h) r rs)

  -- how many of the first i records are left from the back
  abbrev pub back : ℕ → ℕ
  back i = up_to_back (rank h) r vacant rs i

  -- where the last of them stands before r, all are left
  pub back_here : (i : ℕ) → 0 < i → ltb (rank_at h rs (i - 1)) r ≡ true → back i ≡ i
  back_here zero l t = absurd (omega arith)
  back_here (suc i) l t =
      let e : suc i - 1 ≡ i = omega arith in
      let g : ltb (rank_at h rs i) r ≡ true = rw e at t in
      rw g

  -- where it does not, it is passed over
  pub back_turn : (i : ℕ) → 0 < i → ltb (rank_at h rs (i - 1)) r ≡ false → back (i - 1) ≡ back i
  back_turn zero l t = absurd (omega arith)
  back_turn (suc i) l t =
      let e : suc i - 1 ≡ i = omega arith in
      let g : ltb (rank_at h rs i) r ≡ false = rw e at t in
      rw (g, e)
