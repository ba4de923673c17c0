-- The heads and the room of a run, looked at before any item is run.
use mathlib.Core.Path.{◌≡◌, refl, sym, ◌∙◌}
use mathlib.Core.Bool.{Bool, true, false, ◌&&◌}
use mathlib.Core.List.{List}
use Prim.Native.Nat.{ℕ, suc, ◌+◌, ◌-◌, ◌*◌, ◌≤◌, ◌<◌}
use native.Mathlib.Omega.{arith}
use lib.Dec.{eqb}
use lib.ListN.{length, drop, length-drop}
use lib.Seq.{drop-drop}
use borrow.Author.Tests.{eq-eqb, eqb-true, ne_eqb, eqb-false}
use Rattle.records.specs.Records.{first_of, is_put}
use Rattle.records.proofs.Lent.{from, from-drop}
use Rattle.pay_runs.specs.PayRun.{end_to_end}

-- the heads of the first i records are right: what is left decides
pub record Looking (l : List ℕ) (count i : ℕ) : Type 0 where
  pub high : i ≤ count
  pub within : 20 * count ≤ length l
  pub rest : end_to_end count l ≡ end_to_end (count - i) (drop (20 * i) l)

-- before the first is looked at
pub looks_first : (l : List ℕ) (count : ℕ) → 20 * count ≤ length l → Looking l count 0
looks_first l count w = let z : count - 0 ≡ count = omega arith in record { high = omega arith; within = w; rest = rw z }

module _ {l : List ℕ} {count i : ℕ} (w : Looking l count i) where
  module _ (k : i < count) (u : Bool) (is : u ≡ is_put (first_of (from l (20 * i)))) where
    -- what is left begins with the record that was looked at
    one_head : end_to_end count l ≡ (u && end_to_end (count - (i + 1)) (drop (20 * (i + 1)) l))
    unfolding end_to_end
    one_head =
        let left : count - i ≡ suc (count - (i + 1)) = omega arith in
        let next : 20 * i + 20 ≡ 20 * (i + 1) = omega arith in
        w.rest ∙ rw (left, is, from-drop l (20 * i), drop-drop, next)

    -- a wrong head decides
    pub wrong_head : u ≡ false → false ≡ end_to_end count l
    wrong_head e = sym (one_head ∙ rw e)

    -- after a right one the rest is looked at
    pub right_head : u ≡ true → Looking l count (i + 1)
    right_head e = record { high = omega arith; within = w.within; rest = one_head ∙ rw e }

  -- all heads are right: there must be nothing behind them
  pub last_head : count ≤ i → eqb (length l) (20 * count) ≡ end_to_end count l
  unfolding end_to_end
  last_head k =
      let z : count - i ≡ 0 = omega (arith, w.high) in
      let e : i ≡ count = omega (arith, w.high) in
      rw (w.rest, z, e, length-drop (20 * count) l) (ends (length l) (20 * count) w.within)
    where
      ends : (n m : ℕ) → m ≤ n → eqb n m ≡ eqb (n - m) 0
      ends n m h = go (eqb n m) refl
        where
          go : (u : Bool) → eqb n m ≡ u → u ≡ eqb (n - m) 0
          go true e = let d : n ≡ m = eqb-true n m e in sym (eq-eqb (n - m) 0 (omega arith))
          go false e = sym (ne_eqb (n - m) 0 (λ z. eqb-false n m e (omega arith)))
