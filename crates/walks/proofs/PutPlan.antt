-- The plan of a put: its pages one by one, and that what it comes to is the walk.
use mathlib.Core.Path.{◌≡◌, refl, sym, ◌∙◌}
use mathlib.Core.Bool.{Bool, true, false, cond}
use mathlib.Core.Option.{Option, none, some}
use mathlib.Core.List.{List, [], ◌∷◌}
use Prim.Native.Nat.{ℕ, zero, suc, ◌+◌, ◌-◌, ◌≤◌, ◌<◌}
use native.Mathlib.Nat.{sub-zero}
use native.Mathlib.Numerals.{add-one}
use native.Mathlib.Omega.{arith}
use borrow.Author.Tests.{ltb-true, lt-ltb, le-ltb}
use lib.Dec.{ltb}
use lib.ListN.{length, take, get_or}
use lib.Seq.{take_all}
use Rattle.std.proofs.Common.{Option as Optional, Some, None, Ok, Err}
use Rattle.layouts.specs.Layout.{in_use}
use Rattle.placing.specs.Lay.{rank_in, ins}
use Rattle.placing.proofs.Order.{ins-length}
use Rattle.pages.specs.declared.Judged.{Judged}
use Rattle.pages.specs.Page.{Record, key, value, well_formed, read_page}
use Rattle.pages.specs.Area.{part_at, pages_from}
use Rattle.pages.proofs.RoundTrip.{read_good}
use Rattle.state.specs.declared.Refusal.{Refusal}
use Rattle.state.specs.declared.Refusal.TheVariants.{Broken, NoRoom}
use Rattle.state.specs.Answer.{again}
use Rattle.walks.specs.declared.Met.TheVariants.{Found, Ends, AtEnd}
use Rattle.walks.specs.Walks.{Walks, Pages, went, stopped, and_page, walk, carry, put_met, put_walk}
use Rattle.walks.specs.Steps.Plans.{Plan, change, slots, held, poured, rising, reached, planned, PlacedIn, FormedIn, RisesIn}
use Rattle.walks.proofs.Formed.{LastFrom, later, plan_formed, plan_rises, reached_formed}
use Rattle.walks.proofs.Meeting.{Seen, pages_next, page_broken, page_read, page_counts, Known, walk_known}

-- what is left of the way to the first page with room, from page a on, where n pages were read
abbrev pub reach_left : (ℕ → ℕ) → List ℕ → (cap f at a n : ℕ) → Plan
reach_left h area cap f at a n = reached slots (rising h area f) f at a n (pages_from in_use h area (cap - a) a)

module _ {h : ℕ → ℕ} {area : List ℕ} {cap a : ℕ} {o : Optional Judged} (seen : Seen h area cap a o) (f at n : ℕ) where
  -- a broken page stops it
  pub reach_sick : o ≡ None → Err (Broken a (n + 1)) ≡ reach_left h area cap f at a n
  reach_sick g = rw (pages_next seen, page_broken seen g, add-one)

  module _ {j : Judged} (g : o ≡ Some j) where
    at_page : reach_left h area cap f at a n ≡ cond (ltb j.count slots) (Ok (change f at a (n + 1) (rising h area f a))) (reach_left h area cap f at (a + 1) (n + 1))
    at_page = rw (pages_next seen, page_read seen g, ← page_counts seen g, add-one n, add-one a)

    -- a page with room is the last
    pub reach_here : j.count < slots → (u : Bool) → u ≡ rising h area f a → Ok (change f at a (n + 1) u) ≡ reach_left h area cap f at a n
    reach_here l u e = rw e (sym (at_page ∙ rw (lt-ltb j.count slots l)))

    -- after a full one it goes on
    pub reach_on : slots ≤ j.count → reach_left h area cap f at (a + 1) (n + 1) ≡ reach_left h area cap f at a n
    reach_on l = sym (at_page ∙ rw (le-ltb j.count slots l))

module _ (f at : ℕ) (told : ℕ → Bool) where
  -- so is one to the first page with room
  reached_from : (b a n : ℕ) (ps : List (Option (List Record))) → LastFrom f at told a (reached b told f at a n ps)
  reached_from b a n [] = tt
  reached_from b a n (none ∷ ps) = tt
  reached_from b a n (some p ∷ ps) = go (ltb (length p) b) (later f at told a (reached b told f at (suc a) (suc n) ps) (reached_from b (suc a) (suc n) ps))
    where
      go : (u : Bool) → LastFrom f at told a (reached b told f at (suc a) (suc n) ps) → LastFrom f at told a (cond u (Ok (change f at a (suc n) (told a))) (reached b told f at (suc a) (suc n) ps))
      go true l = (refl, refl, omega arith, refl)
      go false l = l

module _ (h : ℕ → ℕ) (area : List ℕ) (f at : ℕ) (told : ℕ → Bool) where
  -- the pages that are poured from page a on, which is the m-th after the first of the plan
  abbrev poured_on : (m a : ℕ) → Record → (n b i : ℕ) → Pages
  poured_on m a x n b i = poured h area (suc (n - m)) a x

  -- a full page before those that are left
  wrote_on : (m a : ℕ) (x : Record) (p : Plan) → f + m ≡ a → LastFrom f at told (suc a) p
      → and_page a (take slots (ins (rank_in key h) x (held area a))) (planned (poured_on (suc m) (suc a) (get_or (ins (rank_in key h) x (held area a)) slots x)) p)
      ≡ planned (poured_on m a x) p
  wrote_on m a x (Err why) e l = refl
  wrote_on m a x (Ok c) e l =
      let k : c.last - c.first - m ≡ suc (c.last - c.first - suc m) = omega (arith, l.0, l.2) in
      rw k

  module _ (a n m : ℕ) (x : Record) (ps : List (Option (List Record))) (e : f + m ≡ a)
      (on : (y : Record) → carry slots h (suc a) (suc n) (suc m) y ps ≡ planned (poured_on (suc m) (suc a) y) (reached slots told f at (suc a) (suc n) ps)) where
    good_page : (p : List Record) → p ≡ held area a → (u : Bool) → ltb (length p) slots ≡ u
        → cond u (went ((a, ins (rank_in key h) x p) ∷ []) (suc n) m)
        (and_page a (take slots (ins (rank_in key h) x p)) (carry slots h (suc a) (suc n) (suc m) (get_or (ins (rank_in key h) x p) slots x) ps))
        ≡ planned (poured_on m a x) (cond u (Ok (change f at a (suc n) (told a))) (reached slots told f at (suc a) (suc n) ps))
    good_page p q true t =
        let k : a - f ≡ m = omega arith in
        let z : m - m ≡ 0 = omega arith in
        let l : length (ins (rank_in key h) x p) ≤ slots = omega (arith, ins-length (rank_in key h) x p, ltb-true (length p) slots t) in
        let w : take slots (ins (rank_in key h) x p) ≡ ins (rank_in key h) x p = take_all slots (ins (rank_in key h) x p) l in
        rw (k, z, ← q, w)
    good_page p q false t =
        rw (q, on (get_or (ins (rank_in key h) x (held area a)) slots x)) (wrote_on m a x (reached slots told f at (suc a) (suc n) ps) e (reached_from f at told slots (suc a) (suc n) ps))

    any_page : (o : Option (List Record)) → read_page in_use h a (part_at area a) ≡ o → carry slots h a n m x (o ∷ ps) ≡ planned (poured_on m a x) (reached slots told f at a n (o ∷ ps))
    any_page none r = refl
    any_page (some p) r = good_page p (read_good in_use h a (part_at area a) p r).records (ltb (length p) slots) refl

  -- what is carried from page a on is what the plan pours
  carried : (c a n m : ℕ) (x : Record) → f + m ≡ a
      → carry slots h a n m x (pages_from in_use h area c a) ≡ planned (poured_on m a x) (reached slots told f at a n (pages_from in_use h area c a))
  carried zero a n m x e = refl
  carried (suc c) a n m x e =
      any_page a n m x (pages_from in_use h area c (suc a)) e (λ y. carried c (suc a) (suc n) (suc m) y (omega arith)) (read_page in_use h a (part_at area a)) refl

  from_first : (x : Record) (p : Plan) → LastFrom f at told f p → planned (poured_on 0 f x) p ≡ planned (λ n a i. poured h area (suc n) a x) p
  from_first x (Err why) l = refl
  from_first x (Ok c) l = rw (sub-zero, l.0)

  -- from a good page on, a put is its plan
  pub put_planned : (cap n : ℕ) (x : Record) (p : List Record) → f < cap → 1 ≤ n → read_page in_use h f (part_at area f) ≡ some p
      → planned (λ k b i. poured h area (suc k) b x) (cond (ltb (length p) slots) (Ok (change f at f n (told f))) (reached slots told f at (suc f) n (pages_from in_use h area (cap - suc f) (suc f))))
      ≡ carry slots h f (n - 1) 0 x (pages_from in_use h area (cap - f) f)
  put_planned cap n x p l k r =
      let e : cap - f ≡ suc (cap - suc f) = omega arith in
      let q : suc (n - 1) ≡ n = omega arith in
      let ps : List (Option (List Record)) = pages_from in_use h area (cap - suc f) (suc f) in
      let plan : Plan = cond (ltb (length p) slots) (Ok (change f at f n (told f))) (reached slots told f at (suc f) n ps) in
      let first : reached slots told f at f (n - 1) (pages_from in_use h area (cap - f) f) ≡ plan = rw (e, r, q) in
      let from : LastFrom f at told f plan = rw first at (reached_from f at told slots f (n - 1) (pages_from in_use h area (cap - f) f)) in
      sym (carried (cap - f) f (n - 1) 0 x (omega arith) ∙ rw first (from_first x plan from))

module _ (h : ℕ → ℕ) (area : List ℕ) (x : Record) where
  -- the key that is sought
  abbrev k : ℕ
  k = key x

  -- each page that a put meets, and what it then does
  module _ (cap : ℕ) where
    -- the whole walk goes by what is met
    put_met_lem : (met : Walks) → walk in_use h area cap k ≡ met → put_met in_use h area cap x met ≡ put_walk in_use h area cap x
    unfolding put_walk
    put_met_lem met e = rw e

    pub put_found : (a i c old n : ℕ) → walk in_use h area cap k ≡ Ok (Found a i c old n) → stopped (again (value x) old n) ≡ put_walk in_use h area cap x
    put_found a i c old n e = put_met_lem (Ok (Found a i c old n)) e

    pub put_refused : (why : Refusal) → walk in_use h area cap k ≡ Err why → stopped why ≡ put_walk in_use h area cap x
    put_refused why e = put_met_lem (Err why) e

    pub put_past : (n : ℕ) → walk in_use h area cap k ≡ Ok (AtEnd n) → stopped (NoRoom n) ≡ put_walk in_use h area cap x
    put_past n e = put_met_lem (Ok (AtEnd n)) e

    module _ (a i c n : ℕ) (e : walk in_use h area cap k ≡ Ok (Ends a i c n)) where
      -- what is known of the ending page
      pub put_at : Known h area k (Ok (Ends a i c n))
      put_at = walk_known h area k cap (Ok (Ends a i c n)) e

      put_ends : a < cap → 1 ≤ n
          → planned (λ n a i. poured h area (suc n) a x) (cond (ltb c slots) (Ok (change a i a n (rising h area a a))) (reach_left h area cap a i (suc a) n)) ≡ put_walk in_use h area cap x
      put_ends l s =
          let w : c ≡ length (held area a) = put_at.0.count in
          rw w (put_planned h area a i (rising h area a) cap n x (held area a) l s put_at.0.read) ∙ put_met_lem (Ok (Ends a i c n)) e

      -- with room the ending page is the last
      pub put_here : a < cap → 1 ≤ n → c < slots → planned (λ n a i. poured h area (suc n) a x) (Ok (change a i a n true)) ≡ put_walk in_use h area cap x
      put_here l s t = rw (lt-ltb c slots t) at (put_ends l s)

      -- else one after it
      pub put_on : a < cap → 1 ≤ n → slots ≤ c → (p : Plan) → p ≡ reach_left h area cap a i (suc a) n
          → planned (λ n a i. poured h area (suc n) a x) p ≡ put_walk in_use h area cap x
      put_on l s t p q = rw q (rw (le-ltb c slots t) at (put_ends l s))

      placed : (b : ℕ) (p : Plan) → LastFrom a i (rising h area a) b p → PlacedIn h area k p
      placed b (Ok c) l = l.1 ∙ put_at.1 ∙ rw l.0
      placed b (Err why) l = tt

      -- with the key's place on the first page of the plan
      pub put_placed : (p : Plan) → p ≡ reach_left h area cap a i (suc a) n → PlacedIn h area k p
      put_placed p q = rw q (placed (suc a) (reach_left h area cap a i (suc a) n) (reached_from a i (rising h area a) slots (suc a) n (pages_from in_use h area (cap - suc a) (suc a))))

      -- whose bytes are well formed
      pub put_formed : well_formed in_use a (part_at area a) ≡ true
      put_formed = (read_good in_use h a (part_at area a) (held area a) put_at.0.read).formed

      -- with those of the pages after it
      pub put_reached : (p : Plan) → p ≡ reach_left h area cap a i (suc a) n → FormedIn area p
      put_reached p q =
          rw q
          (plan_formed area a i (rising h area a) (suc a) (reach_left h area cap a i (suc a) n) (reached_from a i (rising h area a) slots (suc a) n (pages_from in_use h area (cap - suc a) (suc a)))
          put_formed (reached_formed area h (rising h area a) a i (cap - suc a) (suc a) n))

      -- and what it tells of their seams
      pub put_rises : (p : Plan) → p ≡ reach_left h area cap a i (suc a) n → RisesIn h area p
      put_rises p q =
          rw q (plan_rises area h a i (suc a) (reach_left h area cap a i (suc a) n) (reached_from a i (rising h area a) slots (suc a) n (pages_from in_use h area (cap - suc a) (suc a))))
