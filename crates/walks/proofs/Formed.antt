-- The pages that a plan changes were judged, so their bytes are well formed.
use mathlib.Core.Path.{◌≡◌, refl, ◌∙◌}
use mathlib.Core.Bool.{Bool, true, false, cond}
use mathlib.Core.Option.{Option, none, some}
use mathlib.Core.List.{List, [], ◌∷◌}
use Prim.Native.Nat.{ℕ, zero, suc, ◌≤◌, ◌<◌}
use native.Mathlib.Decide.{dec_lt}
use native.Mathlib.Omega.{arith}
use lib.Dec.{leb, ltb}
use lib.ListN.{length}
use Rattle.std.proofs.Common.{Ok, Err}
use Rattle.layouts.specs.Layout.{in_use}
use Rattle.pages.specs.Page.{Record, key, well_formed, read_page}
use Rattle.pages.specs.Area.{part_at, pages_from}
use Rattle.pages.proofs.RoundTrip.{read_good}
use Rattle.walks.specs.Steps.Plans.{Plan, change, slots, rising, reached, reached_back, Formed, FormedIn, RisesIn}

module _ (f at : ℕ) (told : ℕ → Bool) where
  -- a plan from page f on whose last page is page a or a later one, and what it tells of its seams
  abbrev pub LastFrom : ℕ → Plan → Type 0
  LastFrom a (Ok c) = (c.first ≡ f) × (c.at ≡ at) × (a ≤ c.last) × (c.rises ≡ told c.last)
  LastFrom a (Err why) = Unit {0}

  pub later : (a : ℕ) (p : Plan) → LastFrom (suc a) p → LastFrom a p
  later a (Ok c) l = (l.0, l.1, omega arith, l.3)
  later a (Err why) l = tt

module _ (area : List ℕ) where
  -- the pages of a plan from page a on are well formed
  abbrev pub FormedFrom : ℕ → Plan → Type 0
  FormedFrom a (Ok c) = Formed area a c.last
  FormedFrom a (Err why) = Unit {0}

  -- and so with the page before it
  one_more : (a : ℕ) (p : Plan) → well_formed in_use a (part_at area a) ≡ true → FormedFrom (suc a) p → FormedFrom a p
  one_more a (Ok c) w g = λ b l m. go b l m (dec_lt a b)
    where
      go : (b : ℕ) → a ≤ b → b ≤ c.last → Dec (a < b) → well_formed in_use b (part_at area b) ≡ true
      go b l m (yes k) = g b k m
      go b l m (no k) = let e : b ≡ a = omega arith in rw e w
  one_more a (Err why) w g = tt

  -- of one page alone
  pub one_page : (a : ℕ) → well_formed in_use a (part_at area a) ≡ true → Formed area a a
  one_page a w = one_more a (Ok (change a 0 a 0 true)) w (λ b l m. absurd (omega arith))

  -- a plan from page f on, which is well formed too
  pub plan_formed : (f at : ℕ) (told : ℕ → Bool) (b : ℕ) (p : Plan) → LastFrom f at told b p → well_formed in_use f (part_at area f) ≡ true → FormedFrom (suc f) p → FormedIn area p
  plan_formed f at told b (Ok c) l w k = rw l.0 (one_more f (Ok c) w k)
  plan_formed f at told b (Err why) l w k = tt

  -- and one that tells of the seams between its pages
  pub plan_rises : (h : ℕ → ℕ) (f at b : ℕ) (p : Plan) → LastFrom f at (rising h area f) b p → RisesIn h area p
  plan_rises h f at b (Ok c) l = l.3 ∙ rw l.0
  plan_rises h f at b (Err why) l = tt

  module _ (h : ℕ → ℕ) (told : ℕ → Bool) (f at : ℕ) where
    -- a page that is read is
    read_formed : (a : ℕ) (p : List Record) → read_page in_use h a (part_at area a) ≡ some p → well_formed in_use a (part_at area a) ≡ true
    read_formed a p e = (read_good in_use h a (part_at area a) p e).formed

    -- so are those on the way to the first page with room
    pub reached_formed : (c a n : ℕ) → FormedFrom a (reached slots told f at a n (pages_from in_use h area c a))
    reached_formed zero a n = tt
    reached_formed (suc c) a n = go (read_page in_use h a (part_at area a)) refl (reached_formed c (suc a) (suc n))
      where
        on : Plan
        on = reached slots told f at (suc a) (suc n) (pages_from in_use h area c (suc a))

        good : (u : Bool) → well_formed in_use a (part_at area a) ≡ true → FormedFrom (suc a) on → FormedFrom a (cond u (Ok (change f at a (suc n) (told a))) on)
        good true w g = one_page a w
        good false w g = one_more a on w g

        go : (o : Option (List Record)) → read_page in_use h a (part_at area a) ≡ o → FormedFrom (suc a) on
            → FormedFrom a (reached slots told f at a n (o ∷ pages_from in_use h area c (suc a)))
        go none e g = tt
        go (some p) e g = good (ltb (length p) slots) (read_formed a p e) g

    -- and those from which a record comes back
    pub back_formed : (c a n : ℕ) → FormedFrom (suc a) (reached_back slots told h f at a n (pages_from in_use h area c (suc a)))
    back_formed zero a n = λ b l m. absurd (omega arith)
    back_formed (suc c) a n = go (read_page in_use h (suc a) (part_at area (suc a))) refl (back_formed c (suc a) (suc n))
      where
        on : Plan
        on = reached_back slots told h f at (suc a) (suc n) (pages_from in_use h area c (suc (suc a)))

        good : (u v : Bool) → well_formed in_use (suc a) (part_at area (suc a)) ≡ true → FormedFrom (suc (suc a)) on
            → FormedFrom (suc a) (cond u (cond v (Ok (change f at (suc a) (suc n) (told (suc a)))) on) (Ok (change f at a (suc n) (told a))))
        good false v w g = λ b l m. absurd (omega arith)
        good true true w g = one_page (suc a) w
        good true false w g = one_more (suc a) on w g

        go : (o : Option (List Record)) → read_page in_use h (suc a) (part_at area (suc a)) ≡ o → FormedFrom (suc (suc a)) on
            → FormedFrom (suc a) (reached_back slots told h f at a n (o ∷ pages_from in_use h area c (suc (suc a))))
        go none e g = tt
        go (some []) e g = λ b l m. absurd (omega arith)
        go (some (y ∷ q)) e g = good (leb (h (key y)) a) (ltb (suc (length q)) slots) (read_formed (suc a) (y ∷ q) e) g
