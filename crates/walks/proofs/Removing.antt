-- A remove by what its walk to the key met.
use mathlib.Core.Path.{◌≡◌, ap, ◌∙◌}
use mathlib.Core.Bool.{true}
use mathlib.Core.List.{List}
use Prim.Native.Nat.{ℕ, suc, ◌-◌, ◌≤◌, ◌<◌}
use native.Mathlib.Omega.{arith}
use lib.ListN.{length}
use borrow.Author.Tests.{lt-ltb, le-ltb}
use Rattle.std.proofs.Common.{Ok}
use Rattle.layouts.specs.Layout.{in_use}
use Rattle.pages.specs.Page.{well_formed}
use Rattle.pages.specs.Area.{part_at, pages_from}
use Rattle.pages.proofs.RoundTrip.{read_good}
use Rattle.walks.specs.declared.Met.{Met}
use Rattle.walks.specs.declared.Met.TheVariants.{Found}
use Rattle.walks.specs.Walks.{Walks, walk, remove_met, remove_walk}
use Rattle.walks.specs.Steps.Plans.{Plan, change, slots, held, drawn, rising, reached_back, planned, MetIn, FormedIn, RisesIn}
use Rattle.walks.proofs.Meeting.{Counted, walk_known}
use Rattle.walks.proofs.RemovePlan.{begins, remove_plan}
use Rattle.walks.proofs.Formed.{plan_formed, plan_rises, back_formed}

-- where the walk ended, by the case
pub found_in : (cap : ℕ) (met : Met) (a i c v n : ℕ) → met ≡ Found a i c v n → MetIn cap met → (a < cap) × (i < c) × (c ≤ 12) × (n ≤ suc a)
found_in cap met a i c v n e w = rw e at w

module _ (h : ℕ → ℕ) (area : List ℕ) (cap k : ℕ) where
  -- the whole walk goes by what was met
  pub remove_met_lem : (m : Walks) → walk in_use h area cap k ≡ m → remove_met in_use h area cap m ≡ remove_walk in_use h area cap k
  unfolding remove_walk
  remove_met_lem m e = rw e

  module _ (a i c v n : ℕ) (e : walk in_use h area cap k ≡ Ok (Found a i c v n)) where
    pub found_counted : Counted h area a c
    found_counted = walk_known h area k cap (Ok (Found a i c v n)) e

    -- a page that was not full only closes up
    pub remove_short : c < slots → planned (drawn h area) (Ok (change a i a n true)) ≡ remove_walk in_use h area cap k
    remove_short l =
        let z : a - a ≡ 0 = omega arith in
        rw z (rw (lt-ltb (length (held area a)) slots (omega (arith, found_counted.count))) at (remove_met_lem (Ok (Found a i c v n)) e))

    -- a full page is the first of the plan
    pub remove_full : (p : Plan) → slots ≤ c → c ≤ 12 → i < c → p ≡ reached_back slots (rising h area a) h a i a n (pages_from in_use h area (cap - suc a) (suc a))
        → planned (drawn h area) p ≡ remove_walk in_use h area cap k
    remove_full p l m j q =
        ap (planned (drawn h area)) q
        ∙ remove_plan h area (rising h area a) cap a i n (read_good in_use h a (part_at area a) (held area a) found_counted.read).rising (omega (arith, found_counted.count)) (omega arith)
        ∙ rw (le-ltb (length (held area a)) slots (omega (arith, found_counted.count))) at (remove_met_lem (Ok (Found a i c v n)) e)

    -- the page's bytes are well formed, and those of the pages after it that the plan changes
    pub found_formed : well_formed in_use a (part_at area a) ≡ true
    found_formed = (read_good in_use h a (part_at area a) (held area a) found_counted.read).formed

    pub remove_formed : (p : Plan) → p ≡ reached_back slots (rising h area a) h a i a n (pages_from in_use h area (cap - suc a) (suc a)) → FormedIn area p
    remove_formed p q =
        rw q
        (plan_formed area a i (rising h area a) a (reached_back slots (rising h area a) h a i a n (pages_from in_use h area (cap - suc a) (suc a))) (begins slots (rising h area a) h a i a n (pages_from in_use h area (cap - suc a) (suc a)))
        found_formed (back_formed area h (rising h area a) a i (cap - suc a) a n))

    -- and the plan tells of their seams
    pub remove_rises : (p : Plan) → p ≡ reached_back slots (rising h area a) h a i a n (pages_from in_use h area (cap - suc a) (suc a)) → RisesIn h area p
    remove_rises p q =
        rw q
        (plan_rises area h a i a (reached_back slots (rising h area a) h a i a n (pages_from in_use h area (cap - suc a) (suc a)))
        (begins slots (rising h area a) h a i a n (pages_from in_use h area (cap - suc a) (suc a))))
