-- The two phases of a remove together are the whole walk: what the first plans, the second writes.
use mathlib.Core.Path.{◌≡◌, refl, sym, ap, ◌∙◌}
use mathlib.Core.Bool.{Bool, true, false, cond}
use mathlib.Core.Option.{Option, none, some}
use mathlib.Core.List.{List, [], ◌∷◌}
use Prim.Native.Nat.{ℕ, zero, suc, ◌+◌, ◌-◌, ◌<◌}
use native.Mathlib.Nat.{zero-add}
use native.Mathlib.Omega.{arith}
use lib.Dec.{leb, ltb}
use lib.ListN.{length}
use lib.Seq.{take_all}
use Rattle.std.proofs.Common.{Ok, Err}
use Rattle.layouts.specs.Layout.{in_use}
use Rattle.placing.specs.Lay.{rank_in, ins, Sorted}
use Rattle.placing.proofs.Order.{ins-length}
use Rattle.pages.specs.Page.{Record, key, vacant, rises, read_page}
use Rattle.pages.specs.Places.{closed}
use Rattle.pages.specs.Steps.Slots.{backed}
use Rattle.pages.proofs.Rows.{closed-length, all_closed}
use Rattle.pages.specs.Area.{part_at, pages_from}
use Rattle.pages.proofs.RoundTrip.{Good, read_good}
use Rattle.pages.proofs.Rules.{rises_sorted}
use Rattle.pages.proofs.Places.{back_ahead, ins-opened}
use Rattle.walks.specs.Walks.{Walked, went, stopped, and_page, pull_back}
use Rattle.walks.specs.Steps.Plans.{Plan, change, slots, held, first_of, drawn, reached_back, planned}
use Rattle.walks.proofs.Formed.{LastFrom, later}

-- a record at its place from the back, where there is room for it
back_ins : (b : ℕ) (h : ℕ → ℕ) (y : Record) (s : List Record) → Sorted (rank_in key h) s → length s < b → backed b h y s ≡ ins (rank_in key h) y s
back_ins b h y s k n =
    rw (back_ahead (rank_in key h) (rank_in key h y) vacant s k, ← ins-opened (rank_in key h) y s)
    (take_all b (ins (rank_in key h) y s) (omega (arith, ins-length (rank_in key h) y s)))

-- closing up a slot keeps records sorted
module _ {R : Type 0} where
  sorted_closed : (rank : R → ℕ) (i : ℕ) (s : List R) → Sorted rank s → Sorted rank (closed i s)
  unfolding closed
  sorted_closed rank zero [] k = tt
  sorted_closed rank zero (x ∷ s) k = k.1
  sorted_closed rank (suc i) [] k = tt
  sorted_closed rank (suc i) (x ∷ s) k = (all_closed (λ y. rank x < rank y) i s k.0, sorted_closed rank i s k.1)

  closed_first : (y : R) (q : List R) → closed 0 (y ∷ q) ≡ q
  unfolding closed
  closed_first y q = refl

-- a plan begins where it was asked to, and goes to page a at least
pub begins : (b : ℕ) (told : ℕ → Bool) (h : ℕ → ℕ) (f at a n : ℕ) (ps : List (Option (List Record))) → LastFrom f at told a (reached_back b told h f at a n ps)
begins b told h f at a n [] = (refl, refl, omega arith, refl)
begins b told h f at a n (none ∷ ps) = tt
begins b told h f at a n (some [] ∷ ps) = (refl, refl, omega arith, refl)
begins b told h f at a n (some (y ∷ q) ∷ ps) = go (leb (h (key y)) a) (ltb (suc (length q)) b) (begins b told h f at (suc a) (suc n) ps)
  where
    go : (u v : Bool) → LastFrom f at told (suc a) (reached_back b told h f at (suc a) (suc n) ps)
        → LastFrom f at told a (cond u (cond v (Ok (change f at (suc a) (suc n) (told (suc a)))) (reached_back b told h f at (suc a) (suc n) ps)) (Ok (change f at a (suc n) (told a))))
    go false v l = (refl, refl, omega arith, refl)
    go true true l = (refl, refl, omega arith, refl)
    go true false l = later f at told a (reached_back b told h f at (suc a) (suc n) ps) l

module _ (h : ℕ → ℕ) (area : List ℕ) (told : ℕ → Bool) where
  -- what a plan comes to from page a on, after m records moved
  abbrev from : (a slot m : ℕ) → Plan → Walked
  from a slot m (Ok c) = went (drawn h area (c.last - a) a slot) c.read (m + (c.last - a))
  from a slot m (Err why) = stopped why

  -- a plan from its first page on
  from_first : (f at : ℕ) (p : Plan) → LastFrom f at told f p → planned (drawn h area) p ≡ from f at 0 p
  from_first f at (Ok c) b = rw (b.0, b.1, zero-add (c.last - f))
  from_first f at (Err why) b = refl

  -- page a is filled, and the plan goes on from the next page
  from_next : (f at a slot m : ℕ) (p : Plan) → LastFrom f at told (suc a) p
      → from a slot m p ≡ and_page a (backed slots h (first_of (held area (suc a))) (closed slot (held area a))) (from (suc a) 0 (suc m) p)
  from_next f at a slot m (Ok c) b =
      let e : c.last - a ≡ suc (c.last - suc a) = omega arith in
      let k : m + suc (c.last - suc a) ≡ suc m + (c.last - suc a) = omega arith in
      rw (e, k)
  from_next f at a slot m (Err why) b = refl

  -- page a is the last
  from_last : (f at a slot n m : ℕ) → from a slot m (Ok (change f at a n (told a))) ≡ went ((a, closed slot (held area a)) ∷ []) n m
  from_last f at a slot n m =
      let e : a - a ≡ 0 = omega arith in
      let k : m + 0 ≡ m = omega arith in
      rw (e, k)

  -- from a page that lost a record on, the plan comes to the walk
  pulled : (k f at a slot n m : ℕ) → Sorted (rank_in key h) (closed slot (held area a)) → length (closed slot (held area a)) < slots
      → from a slot m (reached_back slots told h f at a n (pages_from in_use h area k (suc a))) ≡ pull_back slots h a n m (closed slot (held area a)) (pages_from in_use h area k (suc a))
  pulled zero f at a slot n m s l = from_last f at a slot n m
  pulled (suc k) f at a slot n m s l = go (read_page in_use h (suc a) (part_at area (suc a))) refl (pulled k f at (suc a) 0 (suc n) (suc m))
    where
      ps : List (Option (List Record))
      ps = pages_from in_use h area k (suc (suc a))

      p : List Record
      p = closed slot (held area a)

      -- the record that comes back is the first of the next page, which then is without it
      on : (u v : Bool) (y : Record) (q : List Record) → held area (suc a) ≡ y ∷ q
          → from (suc a) 0 (suc m) (reached_back slots told h f at (suc a) (suc n) ps) ≡ pull_back slots h (suc a) (suc n) (suc m) (closed 0 (held area (suc a))) ps
          → from a slot m (cond u (cond v (Ok (change f at (suc a) (suc n) (told (suc a)))) (reached_back slots told h f at (suc a) (suc n) ps)) (Ok (change f at a (suc n) (told a))))
          ≡ cond u (and_page a (ins (rank_in key h) y p) (cond v (went ((suc a, q) ∷ []) (suc n) (suc m)) (pull_back slots h (suc a) (suc n) (suc m) q ps)))
          (went ((a, p) ∷ []) (suc n) m)
      on false v y q e ih = from_last f at a slot (suc n) m
      on true true y q e ih =
          from_next f at a slot m (Ok (change f at (suc a) (suc n) (told (suc a)))) (refl, refl, omega arith, refl)
          ∙ ap (and_page a (backed slots h (first_of (held area (suc a))) p)) (from_last f at (suc a) 0 (suc n) (suc m))
          ∙ rw (e, back_ins slots h y p s l, closed_first y q)
      on true false y q e ih =
          from_next f at a slot m (reached_back slots told h f at (suc a) (suc n) ps) (begins slots told h f at (suc a) (suc n) ps)
          ∙ rw (ih, e, back_ins slots h y p s l, closed_first y q)

      go : (o : Option (List Record)) → read_page in_use h (suc a) (part_at area (suc a)) ≡ o
          → (Sorted (rank_in key h) (closed 0 (held area (suc a))) → length (closed 0 (held area (suc a))) < slots
          → from (suc a) 0 (suc m) (reached_back slots told h f at (suc a) (suc n) ps) ≡ pull_back slots h (suc a) (suc n) (suc m) (closed 0 (held area (suc a))) ps)
          → from a slot m (reached_back slots told h f at a n (o ∷ ps)) ≡ pull_back slots h a n m p (o ∷ ps)
      go none e ih = refl
      go (some []) e ih = from_last f at a slot (suc n) m
      go (some (y ∷ q)) e ih =
          let g : Good in_use h (suc a) (part_at area (suc a)) (y ∷ q) = read_good in_use h (suc a) (part_at area (suc a)) (y ∷ q) e in
          let r : held area (suc a) ≡ y ∷ q = sym g.records in
          on (leb (h (key y)) a) (ltb (suc (length q)) slots) y q r
          (ih (rw (r, closed_first y q) (rises_sorted h (y ∷ q) g.rising).1) (rw (r, closed_first y q) g.few))

  -- the plan of a remove from a page of twelve records comes to the walk
  pub remove_plan : (cap first slot n : ℕ) → rises h (held area first) ≡ true → length (held area first) ≡ slots → slot < slots
      → planned (drawn h area) (reached_back slots told h first slot first n (pages_from in_use h area (cap - suc first) (suc first)))
      ≡ pull_back slots h first n 0 (closed slot (held area first)) (pages_from in_use h area (cap - suc first) (suc first))
  remove_plan cap first slot n r e l =
      let ps : List (Option (List Record)) = pages_from in_use h area (cap - suc first) (suc first) in
      from_first first slot (reached_back slots told h first slot first n ps) (begins slots told h first slot first n ps)
      ∙ pulled (cap - suc first) first slot first slot n 0
      (sorted_closed (rank_in key h) slot (held area first) (rises_sorted h (held area first) r))
      (omega (arith, closed-length slot (held area first) (omega arith)))
