-- Two files after fresh histories: what a comparison lists of them.
use mathlib.Core.Path.{◌≡◌, refl, sym, ap, ◌∙◌}
use mathlib.Core.Bool.{Bool, true, false, cond}
use mathlib.Core.Logic.{◌↔◌}
use mathlib.Core.Option.{Option, none, some, map}
use mathlib.Core.List.Permᴰ
use mathlib.Core.List.{List, [], Permᴰ}
use Prim.Native.Nat.{ℕ, ◌+◌, ◌*◌, ◌≤◌}
use native.Mathlib.Omega.{arith}
use borrow.Author.Tests.{eqb-true, eqb-false}
use lib.Dec.{eqb}
use lib.ListN.{length}
use Rattle.layouts.specs.Layout.{Layout, in_use}
use Rattle.placing.specs.Walks.{seek}
use Rattle.placing.proofs.Seek.{clash}
use Rattle.pages.specs.Page.{Record, key, value}
use Rattle.pages.specs.Area.{area_from}
use Rattle.state.specs.declared.State.{State}
use Rattle.state.specs.State.{homes}
use Rattle.walks.proofs.Clean.{clean_pass, read_held}
use Rattle.register.specs.Files.{File}
use Rattle.register.proofs.OnImage.{OnImage, on_clean}
use Rattle.register.proofs.RemadeImage.{check_open}
use Rattle.demands.specs.Histories.{Kept, state_of, record_of, commit_of}
use Rattle.demands.proofs.Sets.{record_found, commit_found, same_records}
use Rattle.demands.proofs.Standing.{Stands, file_of}
use Rattle.demands.proofs.Demands.{stands}
use Rattle.sites.specs.Held.{same, held_in}
use Rattle.sites.proofs.Same.{same_sides}
use Rattle.two_sets.specs.Differences.{unlike, key_of, differences, differ_at}
use Rattle.two_sets.specs.Promises.{SetsPromises}
use Rattle.two_sets.proofs.Promises.{two_sets_promises}
use Rattle.two_sets.proofs.Counting.{balance}
use Rattle.differences.specs.Listing.{listing}
use Rattle.comparisons.specs.Compare.{filled, contrasted, compared}
use Rattle.comparisons.proofs.Contrasting.{list_length}
use Rattle.comparison_demands.specs.ComparisonDemands.{TwoFresh, differing, Lists}

-- the records that stand on an image are those of its set
held_perm : (l : Layout) (s : State) (rs : List Record) (ps : List (List Record)) → OnImage l s rs ps → Permᴰ (held_in l s (area_from l 0 ps)) rs
unfolding held_in
held_perm l s rs ps w = rw (read_held l (homes s) (area_from l 0 ps) s.cap 0 ps (clean_pass (on_clean w))) w.image.arranged.holds

-- nothing differs at a key exactly where both have one commit there
none_differs : (o p : Option Record) → (differ_at key same o p ≡ none) ↔ (map value o ≡ map value p)
none_differs none none = (λ e. refl, λ e. refl)
none_differs none (some y) = (λ e. absurd (clash (sym e)), λ e. absurd (clash e))
none_differs (some x) none = (λ e. absurd (clash (sym e)), λ e. absurd (clash (sym e)))
none_differs (some x) (some y) = go (eqb (value x) (value y)) refl
  where
    go : (u : Bool) → eqb (value x) (value y) ≡ u → (cond u none (some (unlike x y)) ≡ none) ↔ (some (value x) ≡ some (value y))
    go true e = (λ q. ap some (eqb-true (value x) (value y) e), λ q. refl)
    go false e = (λ q. absurd (clash (sym q)), λ q. absurd (eqb-false (value x) (value y) e (let z : value x ≡ value y = cc in z)))

-- two files that are images of what they keep
module _ (a b : Kept) (ps qs : List (List Record)) (s : Stands a ps) (t : Stands b qs) (e : a.layout ≡ b.layout) where
  abbrev sets : SetsPromises key same a.held b.held
  sets = (two_sets_promises key same).of_sets a.held b.held s.set.once t.set.once

  listed : (room : List ℕ) → let f = file_of a ps in let g = file_of b qs in compared a.layout f.state f.area g.state g.area room ≡ filled (a.cap + b.cap) (listing a.layout (differing a b)) room
  unfolding compared contrasted
  listed room =
      let p = held_perm a.layout (state_of a) a.held ps s in
      let q = held_perm b.layout (state_of b) b.held qs t in
      let d : differing a b ≡ differences key same (held_in a.layout (state_of a) (area_from a.layout 0 ps)) (held_in b.layout (state_of b) (area_from b.layout 0 qs)) = sets.sets_alone (Permᴰ.symm p) (Permᴰ.symm q) in
      rw (d, check_open s, e, check_open t)

  says_at : (k : ℕ) → seek (key_of key) k (differing a b) ≡ differ_at key same (record_of k a.held) (record_of k b.held)
  says_at k = rw (record_found k a.held, record_found k b.held) (sets.at k)

  equal_at : (differing a b ≡ []) ↔ ((k : ℕ) → commit_of k a.held ≡ commit_of k b.held)
  equal_at = (
    λ z k. commit_found k a.held ∙ (none_differs (seek key k a.held) (seek key k b.held)).0 (sets.empty.0 z k) ∙ sym (commit_found k b.held),
    λ h. sets.empty.1 (λ k. (none_differs (seek key k a.held) (seek key k b.held)).1 (sym (commit_found k a.held) ∙ h k ∙ commit_found k b.held)),
  )

  enough : length (listing in_use (differing a b)) ≤ 20 * (length a.held + length b.held) + 16
  enough =
      let c = balance key same a.held b.held s.set.once t.set.once in
      omega (arith, list_length (differing a b) _ refl, c.first, c.second, c.both, c.few, c.many)

  pub lists : Lists a b (file_of a ps) (file_of b qs)
  lists = record {
    lists = listed;
    says = says_at;
    rises = sets.rises;
    turns = sets.turns same_sides;
    equal = equal_at;
    enough = enough;
  }

pub after_fresh : (a b : Kept) (f g : File) → TwoFresh a b f g → Lists a b f g
after_fresh a b f g w =
    let s = stands a f w.first in
    let t = stands b g w.second in
    rw (s.1.0, t.1.0) (lists a b s.0 t.0 s.1.1 t.1.1 w.layout)

pub sets_alone : (a b a' b' : Kept) (f g f' g' : File) → TwoFresh a b f g → TwoFresh a' b' f' g'
    → ((k : ℕ) → record_of k a.held ≡ record_of k a'.held) → ((k : ℕ) → record_of k b.held ≡ record_of k b'.held) → differing a b ≡ differing a' b'
sets_alone a b a' b' f g f' g' w v h k =
    let s = (stands a f w.first).1.1 in
    let t = (stands b g w.second).1.1 in
    let s' = (stands a' f' v.first).1.1 in
    let t' = (stands b' g' v.second).1.1 in
    ((two_sets_promises key same).of_sets a.held b.held s.set.once t.set.once).sets_alone (same_records s.set s'.set h) (same_records t.set t'.set k)
