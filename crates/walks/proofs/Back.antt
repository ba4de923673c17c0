-- The first phase of a remove, page by page: the page after page a as it was judged, and how the
-- plan goes on.
use mathlib.Core.Path.{◌≡◌, refl, sym, ◌∙◌}
use mathlib.Core.Bool.{Bool, true, false, cond, ◌||◌}
use mathlib.Core.Option.{Option, none, some}
use mathlib.Core.List.{List, [], ◌∷◌}
use Prim.Native.Nat.{ℕ, suc, ◌+◌, ◌-◌, ◌≤◌, ◌<◌}
use native.Mathlib.Numerals.{add-one}
use native.Mathlib.Omega.{arith}
use lib.Dec.{leb, ltb, eqb}
use lib.ListN.{length, get_or}
use borrow.Author.Tests.{ltb-true, ltb-false, lt-ltb, le-ltb, le-leb, lt-leb, ne_eqb}
use Rattle.std.proofs.Common.{Option as Optional, Some, None, Ok, Err}
use Rattle.layouts.specs.Layout.{in_use}
use Rattle.pages.specs.declared.Judged.{Judged}
use Rattle.pages.specs.Page.{Record, key, judged, judged_page, read_page}
use Rattle.pages.specs.Area.{part_at, pages_from}
use Rattle.state.specs.declared.Refusal.TheVariants.{Broken}
use Rattle.walks.specs.Steps.Plans.{Plan, change, slots, rising, reached_back}
use Rattle.walks.proofs.Meeting.{Seen}

-- the test of a judged page: it holds no record, or the home of its first is above page a
abbrev pub apart : ℕ → Judged → Bool
apart a j = eqb j.count 0 || ltb a (get_or j.homes 0 0)

-- how the plan goes on after page a, by the next page as it was judged; `on` is the plan from there
abbrev after_page : (b : ℕ) (told : ℕ → Bool) (f at a n : ℕ) (on : Plan) → Optional Judged → Plan
after_page b told f at a n on None = Err (Broken (a + 1) (n + 1))
after_page b told f at a n on (Some j) =
    cond (apart a j) (Ok (change f at a (n + 1) (told a))) (cond (ltb j.count b) (Ok (change f at (a + 1) (n + 1) (told (a + 1)))) on)

next_page : (b : ℕ) (told : ℕ → Bool) (h : ℕ → ℕ) (f at a n : ℕ) (o : Option (List Record)) (ps : List (Option (List Record)))
    → reached_back b told h f at a n (o ∷ ps) ≡ after_page b told f at a n (reached_back b told h f at (a + 1) (n + 1) ps) (judged h o)
unfolding judged_page
next_page b told h f at a n none ps = rw (add-one a, add-one n)
next_page b told h f at a n (some []) ps = rw (add-one n)
next_page b told h f at a n (some (y ∷ q)) ps = rw (ne_eqb (suc (length q)) 0 (λ e. omega arith), add-one a, add-one n) (go (ltb a (h (key y))) refl)
  where
    on : Plan
    on = cond (ltb (suc (length q)) b) (Ok (change f at (suc a) (suc n) (told (suc a)))) (reached_back b told h f at (suc a) (suc n) ps)

    go : (u : Bool) → ltb a (h (key y)) ≡ u → cond (leb (h (key y)) a) on (Ok (change f at a (suc n) (told a))) ≡ cond u (Ok (change f at a (suc n) (told a))) on
    go true e = rw (lt-leb (h (key y)) a (ltb-true a (h (key y)) e))
    go false e = rw (le-leb (h (key y)) a (ltb-false a (h (key y)) e))

module _ (h : ℕ → ℕ) (area : List ℕ) (cap f at : ℕ) where
  -- the plan from page a on
  abbrev pub plan_from : (a n : ℕ) → Plan
  plan_from a n = reached_back slots (rising h area f) h f at a n (pages_from in_use h area (cap - suc a) (suc a))

  module _ (a n : ℕ) {o : Optional Judged} (seen : Seen h area cap (a + 1) o) where
    plan_next : plan_from a n ≡ after_page slots (rising h area f) f at a n (plan_from (a + 1) (n + 1)) o
    plan_next =
        let m : cap - suc a ≡ suc (cap - suc (a + 1)) = omega (arith, seen.lies) in
        let z : suc a ≡ a + 1 = omega arith in
        rw (seen.is, m, z) (next_page slots (rising h area f) h f at a n (read_page in_use h (a + 1) (part_at area (a + 1))) (pages_from in_use h area (cap - suc (a + 1)) (suc (a + 1))))

    pub plan_broken : o ≡ None → Err (Broken (a + 1) (n + 1)) ≡ plan_from a n
    plan_broken g = sym (plan_next ∙ rw g)

    module _ {j : Judged} (g : o ≡ Some j) where
      pub plan_apart : apart a j ≡ true → (u : Bool) → u ≡ rising h area f a → Ok (change f at a (n + 1) u) ≡ plan_from a n
      plan_apart t u e = rw e (sym (plan_next ∙ rw (g, t)))

      pub plan_short : apart a j ≡ false → j.count < slots → (u : Bool) → u ≡ rising h area f (a + 1) → Ok (change f at (a + 1) (n + 1) u) ≡ plan_from a n
      plan_short t c u e = rw e (sym (plan_next ∙ rw (g, t, lt-ltb j.count slots c)))

      pub plan_full : apart a j ≡ false → slots ≤ j.count → plan_from (a + 1) (n + 1) ≡ plan_from a n
      plan_full t c = sym (plan_next ∙ rw (g, t, le-ltb j.count slots c))
