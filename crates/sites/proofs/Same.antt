-- Records that say the same: in the layout in use they are equal, so that what two sets hold together is the same
-- both ways.
use mathlib.Core.Path.{◌≡◌, refl, sym, ◌∙◌}
use mathlib.Core.Bool.{Bool, true, false, cond}
use mathlib.Core.Option.{none, some}
use mathlib.Core.List.{List, [], ◌∷◌, Permᴰ}
use Prim.Native.Nat.{ℕ}
use native.Mathlib.Omega.{arith}
use lib.Dec.{eqb}
use borrow.Author.Tests.{eqb-true, eqb-false, eq-eqb, ne_eqb}
use Rattle.layouts.specs.Layout.{in_use}
use Rattle.placing.specs.Image.{All, RecordSet}
use Rattle.placing.specs.Walks.{seek}
use Rattle.placing.proofs.Seek.{clash}
use Rattle.pages.specs.Page.{Record, record_with, key, value, run}
use Rattle.pages.specs.Small.{Small}
use Rattle.two_sets.specs.Union.{union, lowest_clash}
use Rattle.two_sets.specs.UnionPromises.{SameIs}
use Rattle.two_sets.proofs.Differences.{seek_is}
use Rattle.two_sets.proofs.Union.{union_both}
use Rattle.two_sets.proofs.Clash.{agreeing}
use Rattle.sites.specs.Held.{same}

-- two records say the same whichever is told first
pub same_sides : (x y : Record) → same x y ≡ same y x
same_sides x y = go (eqb (value y) (value x)) refl
  where
    go : (u : Bool) → eqb (value y) (value x) ≡ u → eqb (value x) (value y) ≡ u
    go true e = eq-eqb (value x) (value y) (sym (eqb-true (value y) (value x) e))
    go false e = ne_eqb (value x) (value y) (λ q. eqb-false (value y) (value x) e (sym q))

-- what holds of all holds of the one that is found
seek_all : (P : Record → Type 0) (k : ℕ) (s : List Record) (x : Record) → All P s → seek key k s ≡ some x → P x
seek_all P k [] x h e = absurd (clash e)
seek_all P k (y ∷ s) x h e = go (eqb (key y) k) e (seek_all P k s x h.1)
  where
    go : (u : Bool) → cond u (some y) (seek key k s) ≡ some x → (seek key k s ≡ some x → P x) → P x
    go true q rest = let z : y ≡ x = cc in rw (← z) h.0
    go false q rest = rest q

module _ (xs ys : List Record) (p : All (Small in_use) xs) (q : All (Small in_use) ys) where
  -- there are no runs in which they could differ
  same_is : SameIs key same xs ys
  same_is k x y d e t =
      let keys : key x ≡ key y = seek_is key k xs x d ∙ sym (seek_is key k ys y e) in
      let values : value x ≡ value y = eqb-true (value x) (value y) t in
      let runs : run x ≡ run y = omega (arith, (seek_all (Small in_use) k xs x p d).2, (seek_all (Small in_use) k ys y q e).2) in
      λ i. record_with (keys i) (values i) (runs i)

  pub same-union : RecordSet key xs → RecordSet key ys → lowest_clash key same xs ys ≡ none → Permᴰ (union key xs ys) (union key ys xs)
  same-union f g n = union_both key xs ys f g (agreeing key same xs ys f.once g.once same_is n)
