-- The laws of a state: its ranges as inequalities, and which steps keep them.
--
use Prim.Native.Nat.{ℕ, zero, suc, ◌*◌, ◌≤◌, ◌<◌}
use mathlib.Core.Path.{◌≡◌, refl}
use mathlib.Core.Bool.{Bool, true, false, ◌&&◌, and_assoc, and-true}
use mathlib.Core.List.{List, [], ◌∷◌}
use native.Mathlib.Nat.{mul-le-mul}
use native.Mathlib.Omega.{arith}
use lib.ListN.{get_or}
use borrow.Author.Tests.{leb-true, le-leb}
use Rattle.layouts.specs.Layout.{Layout, slots_on}
use Rattle.homes.specs.Homes.{InRange, first_pages}
use Rattle.state.specs.declared.State.{State}
use Rattle.state.specs.State.{all, ranges, in_range, one_more, one_less, grown, shrunk}
use Rattle.state.specs.Promises.{Ranged}

-- Thirteen tests joined from left to right are all of their list.
pub tests_all : (a b c d e f g h i j k l m : Bool) → (a && b && c && d && e && f && g && h && i && j && k && l && m) ≡ all (a ∷ b ∷ c ∷ d ∷ e ∷ f ∷ g ∷ h ∷ i ∷ j ∷ k ∷ l ∷ m ∷ [])
unfolding all
tests_all a b c d e f g h i j k l m = simp (and_assoc, and-true)

-- The product of two numbers of 16 bits fits 32.
pub product_fits : (a b : ℕ) → a < 65536 → b < 65536 → a * b < 4294967296
product_fits a b h k =
    let a_high : a ≤ 65535 = omega arith in
    let b_high : b ≤ 65535 = omega arith in
    let high : a * b ≤ 65535 * 65535 = mul-le-mul a_high b_high in
    omega arith

-- Where all tests hold, the one at k does.
every : (l : List Bool) → all l ≡ true → (k : ℕ) → get_or l k true ≡ true
unfolding all
every [] h k = refl
every (true ∷ l) h zero = refl
every (true ∷ l) h (suc k) = every l h k
every (false ∷ l) h zero = h
every (false ∷ l) h (suc k) = absurd (let z : ◌≡◌ {A = ℕ} 0 1 = cc in omega arith)

-- A state whose tests hold is in its ranges.
pub ranged : (f : Layout) (s : State) → in_range f s ≡ true → Ranged f s
unfolding in_range
ranged f s h =
    let holds : (k : ℕ) → get_or (ranges f s) k true ≡ true = every (ranges f s) h in
    record {
      n0_low = leb-true _ _ (holds 0);
      n0_high = leb-true _ _ (holds 1);
      n_low = leb-true _ _ (holds 2);
      n_high = leb-true _ _ (holds 3);
      s_low = leb-true _ _ (holds 4);
      s_high = leb-true _ _ (holds 5);
      edition_low = leb-true 1 s.params.edition (holds 6);
      edition_high = leb-true _ _ (holds 7);
      cap_low = leb-true _ _ (holds 8);
      cap_high = leb-true _ _ (holds 9);
      p_low = leb-true _ _ (holds 10);
      p_high = leb-true _ _ (holds 11);
      r_high = leb-true _ _ (holds 12);
    }

-- The tests hold of a state in its ranges.
pub in_range_lem : (f : Layout) (s : State) → Ranged f s → in_range f s ≡ true
unfolding in_range all
in_range_lem f s r =
    simp (
      le-leb _ _ r.n0_low,
      le-leb _ _ r.n0_high,
      le-leb _ _ r.n_low,
      le-leb _ _ r.n_high,
      le-leb _ _ r.s_low,
      le-leb _ _ r.s_high,
      le-leb _ _ r.edition_low,
      le-leb _ _ r.edition_high,
      le-leb _ _ r.cap_low,
      le-leb _ _ r.cap_high,
      le-leb _ _ r.p_low,
      le-leb _ _ r.p_high,
      le-leb _ _ r.r_high,
    )

-- The homes of a state's keys are those of a shape in range.
pub in_shape : (f : Layout) (s : State) → in_range f s ≡ true → InRange s.params s.p
in_shape f s h = let r : Ranged f s = ranged f s h in search arith

-- One page more, where the lent pages have one more.
pub grown_range : (f : Layout) (s : State) → in_range f s ≡ true → s.p < s.cap → in_range f (grown s) ≡ true
grown_range f s h room = let r : Ranged f s = ranged f s h in in_range_lem f (grown s) (search arith)

-- One page less, where the file has more than at the start.
pub shrunk_range : (f : Layout) (s : State) → in_range f s ≡ true → first_pages s.params < s.p → in_range f (shrunk s) ≡ true
shrunk_range f s h more = let r : Ranged f s = ranged f s h in in_range_lem f (shrunk s) (search arith)

-- One record more, where the capacity has one more.
pub more_range : (f : Layout) (s : State) → in_range f s ≡ true → s.r < slots_on f s.cap → in_range f (one_more s) ≡ true
more_range f s h room = let r : Ranged f s = ranged f s h in in_range_lem f (one_more s) (search arith)

-- One record less.
pub less_range : (f : Layout) (s : State) → in_range f s ≡ true → in_range f (one_less s) ≡ true
less_range f s h = let r : Ranged f s = ranged f s h in in_range_lem f (one_less s) (search arith)
