-- The order of (home, key) as one number, and the records of a page's rows by their keys.
use mathlib.Core.Path.{◌≡◌, refl, sym, ap, ◌∙◌}
use mathlib.Core.Bool.{Bool, true, false, ◌&&◌, ◌||◌}
use mathlib.Core.List.{List, [], ◌∷◌, ◌++◌, map}
use Prim.Native.Nat.{ℕ, zero, suc, ◌+◌, ◌^◌, ◌<◌}
use native.Mathlib.Numerals.{add-one}
use native.Mathlib.Omega.{arith}
use borrow.Author.Tests.{ltb-true, ltb-false, eqb-true, eqb-false, lt-ltb, le-ltb}
use lib.Dec.{eqb, ltb}
use lib.ListN.{length, drop, get_or}
use Rattle.pages.specs.Page.{record_with, key, vacant, home_for, padded}
use Rattle.placing.specs.Lay.{ranked}
use Rattle.pages.specs.Steps.Slots.{paired}
use Rattle.pages.proofs.Rows.{row_at}

-- the order of (home, key) is that of the ranks
pub before_ranked : (h k h2 k2 : ℕ) → k < 2 ^ 64 → k2 < 2 ^ 64 → (ltb h h2 || (eqb h h2 && ltb k k2)) ≡ ltb (ranked h k) (ranked h2 k2)
before_ranked h k h2 k2 f g = go (ltb h h2) (eqb h h2) (ltb k k2) refl refl refl
  where
    go : (a b d : Bool) → ltb h h2 ≡ a → eqb h h2 ≡ b → ltb k k2 ≡ d → (a || (b && d)) ≡ ltb (ranked h k) (ranked h2 k2)
    go true b d p q r = sym (lt-ltb (ranked h k) (ranked h2 k2) (omega (arith, ltb-true h h2 p)))
    go false true true p q r = sym (lt-ltb (ranked h k) (ranked h2 k2) (omega (arith, eqb-true h h2 q, ltb-true k k2 r)))
    go false true false p q r = sym (le-ltb (ranked h k) (ranked h2 k2) (omega (arith, eqb-true h h2 q, ltb-false k k2 r)))
    go false false d p q r = sym (le-ltb (ranked h k) (ranked h2 k2) (omega (arith, ltb-false h h2 p, eqb-false h h2 q)))

-- the first n of the rows are n records
pub paired-length : (n : ℕ) (ks vs us : List ℕ) → length (paired n ks vs us) ≡ n
paired-length zero ks vs us = refl
paired-length (suc n) ks vs us = ap suc (paired-length n (drop 1 ks) (drop 1 vs) (drop 1 us))

-- a place of the tail is the next of the whole
get_d_tail : (l : List ℕ) (j : ℕ) → get_or (drop 1 l) j 0 ≡ get_or l (suc j) 0
get_d_tail [] j = refl
get_d_tail (x ∷ l) j = refl

-- one record more
pub paired_last : (n : ℕ) (ks vs us : List ℕ) → paired (suc n) ks vs us ≡ paired n ks vs us ++ (record_with (get_or ks n 0) (get_or vs n 0) (get_or us n 0) ∷ [])
paired_last zero ks vs us = refl
paired_last (suc n) ks vs us = rw (paired_last n (drop 1 ks) (drop 1 vs) (drop 1 us), get_d_tail ks n, get_d_tail vs n, get_d_tail us n)

pub paired_turn : (n : ℕ) (ks vs us : List ℕ) → paired (n + 1) ks vs us ≡ paired n ks vs us ++ (record_with (get_or ks n 0) (get_or vs n 0) (get_or us n 0) ∷ [])
paired_turn n ks vs us = rw (add-one n) (paired_last n ks vs us)

-- each has its key from the row
pub paired-key : (n : ℕ) (ks vs us : List ℕ) (j : ℕ) → j < n → key (get_or (paired n ks vs us) j vacant) ≡ get_or ks j 0
paired-key zero ks vs us j h = absurd (omega arith)
paired-key (suc n) ks vs us zero h = refl
paired-key (suc n) ks vs us (suc j) h = paired-key n (drop 1 ks) (drop 1 vs) (drop 1 us) j (omega arith) ∙ get_d_tail ks j

-- in a row of homes stands the home of the key at that place
pub homes_key : (h : ℕ → ℕ) (n : ℕ) (ks vs us hs : List ℕ) → hs ≡ padded (map (home_for h) (paired n ks vs us)) → (j : ℕ) → j < n
    → get_or hs j 0 ≡ h (get_or ks j 0)
homes_key h n ks vs us hs e j l =
    rw (e, row_at (home_for h) (paired n ks vs us) _ j vacant (omega (arith, paired-length n ks vs us)), paired-key n ks vs us j l)
