-- The slot that holds a key, and the record that is sought by its key or by its rank.
use mathlib.Core.Path.{◌≡◌, refl, sym, ap, ◌∙◌}
use mathlib.Core.Bool.{Bool, true, false, cond}
use mathlib.Core.Option.{Option, none, some}
use mathlib.Core.List.{List, [], ◌∷◌}
use Prim.Native.Nat.{ℕ, suc, ◌+◌, ◌^◌, ◌<◌}
use native.Mathlib.Omega.{arith}
use lib.Dec.{eqb}
use borrow.Author.Tests.{eqb-true}
use Rattle.placing.specs.Image.{All}
use Rattle.placing.specs.Lay.{rank_of, rank_in}
use Rattle.placing.specs.Walks.{seek, del}
use Rattle.placing.proofs.Rank.{seek-key, del-key}
use Rattle.pages.specs.Page.{Record, key, value, run, record_with}
use Rattle.pages.specs.Places.{closed}
use Rattle.walks.specs.Walks.{held_at}

-- keys of 64 bits
abbrev pub Small : Record → Type 0
Small x = key x < 2 ^ 64

module _ (k : ℕ) where
  -- what a slot tells of the records p, the first in slot i: the record found, and the records left
  -- without it
  abbrev Tells : (i : ℕ) (p left : List Record) → Option Record → Option (ℕ × ℕ) → Type 0
  Tells i p left found none = found ≡ none
  Tells i p left found (some w) = (m : ℕ) × (w.0 ≡ i + m) × (left ≡ closed m p) × ((r : ℕ) × (found ≡ some (record_with k w.1 r)))

  slot_tells : (i : ℕ) (p : List Record) → Tells i p (del key k p) (seek key k p) (held_at k i p)
  unfolding closed
  slot_tells i [] = refl
  slot_tells i (x ∷ p) = go (eqb (key x) k) (held_at k (suc i) p) refl (slot_tells (suc i) p)
    where
      go : (u : Bool) (o : Option (ℕ × ℕ)) → eqb (key x) k ≡ u → Tells (suc i) p (del key k p) (seek key k p) o
          → Tells i (x ∷ p) (cond u p (x ∷ del key k p)) (cond u (some x) (seek key k p)) (cond u (some (i, value x)) o)
      go true o e t = let s : key x ≡ k = eqb-true (key x) k e in (0, omega arith, refl, (run x, rw (← s)))
      go false none e t = t
      go false (some w) e t = (suc t.0, omega (arith, t.1), ap (λ (s : List Record). x ∷ s) t.2, t.3)

  -- a key that no slot holds is not found
  away : (p : List Record) → held_at k 0 p ≡ none → seek key k p ≡ none
  away p e = rw e at (slot_tells 0 p)

  pub here : (p : List Record) {i v : ℕ} → held_at k 0 p ≡ some (i, v) → (r : ℕ) × (seek key k p ≡ some (record_with k v r))
  here p {i} {v} e = let t : Tells 0 p (del key k p) (seek key k p) (some (i, v)) = rw e at (slot_tells 0 p) in t.3

  -- nor by its rank
  module _ (h : ℕ → ℕ) (p : List Record) (l : k < 2 ^ 64) (s : All Small p) where
    pub away_rank : held_at k 0 p ≡ none → seek (rank_in key h) (rank_of h k) p ≡ none
    away_rank e = seek-key key h k p l s ∙ away p e

    module _ {i v : ℕ} (e : held_at k 0 p ≡ some (i, v)) where
      pub here_rank : seek (rank_in key h) (rank_of h k) p ≡ some (record_with k v (here p e).0)
      here_rank = seek-key key h k p l s ∙ (here p e).1

      -- the slots closed up over the key are those with its rank taken out
      pub here_del : closed i p ≡ del (rank_in key h) (rank_of h k) p
      here_del =
          let t : Tells 0 p (del key k p) (seek key k p) (some (i, v)) = rw e at (slot_tells 0 p) in
          let n : i ≡ t.0 = omega (arith, t.1) in
          rw n (sym t.2) ∙ sym (del-key key h k p l s)
