-- How many a page takes of a sorted list, by the counts of homes.
use mathlib.Core.Path.{◌≡◌, refl, ap}
use mathlib.Core.List.{List, [], ◌∷◌, ◌++◌}
use Prim.Native.Nat.{ℕ, suc, ◌+◌, ◌-◌, ◌≤◌, ◌<◌, min}
use native.Mathlib.Omega.{arith}
use native.Mathlib.Decide.{dec_le}
use lib.Dec.{leb, eqb}
use lib.ListN.{length, take, drop, take-append-drop}
use lib.Seq.{take-take, length-take-le}
use borrow.Author.Tests.{ne_eqb}
use Rattle.placing.specs.Image.{All}
use Rattle.placing.specs.Lay.{up_to, Sorted}
use Rattle.placing.specs.Rows.{at_home}
use Rattle.placing.proofs.Lists.{all_map, all_take, count-le, count-append, up_to-append, up_to_all}
use Rattle.placing.proofs.Laid.{cut}
use Rattle.placing.proofs.Rows.{below, below_next}

module _ {R : Type 0} (home : R → ℕ) where
  pub home_none : (c : ℕ) (s : List R) → All (λ x. home x < c) s → at_home home c s ≡ 0
  home_none c [] h = refl
  home_none c (x ∷ s) h = rw (ne_eqb (home x) c (λ q. omega (arith, h.0))) (omega (arith, home_none c s h.1))

module _ {R : Type 0} (rank home : R → ℕ) (mono : (x y : R) → rank x ≤ rank y → home x ≤ home y) (b a : ℕ) (s : List R) (sorted : Sorted rank s) where
  -- how many page a takes
  abbrev pub many : ℕ
  many = min b (up_to home a s)

  within : many ≤ up_to home a s
  within = omega arith

  pub taken_length : length (take many s) ≡ many
  taken_length = length-take-le many s (omega (arith, count-le (λ x. leb (home x) a) s))

  taken_low : All (λ x. home x ≤ a) (take many s)
  taken_low = rw (take-take many (up_to home a s) s within) at (all_take (λ x. home x ≤ a) many (take (up_to home a s) s) (cut rank home b mono a s sorted).0)

  parts : take many s ++ drop many s ≡ s
  parts = take-append-drop many s

  -- those of lower homes that wait, and those of its own
  pub many_waiting : (over : ℕ) → over ≡ below home s a → many ≡ min b (over + at_home home a s)
  many_waiting over e = omega (arith, below_next home s a)

  -- what waits then
  pub waits_on : (over : ℕ) → over ≡ below home s a → over + at_home home a s - many ≡ below home (drop many s) (suc a)
  waits_on over e =
      omega (
        arith,
        below_next home s a,
        ap (up_to home a) parts,
        up_to-append home a (take many s) (drop many s),
        up_to_all home a (take many s) taken_low,
        taken_length,
      )

  pub later_homes : (c : ℕ) → a < c → at_home home c (drop many s) ≡ at_home home c s
  later_homes c l =
      omega (arith, ap (at_home home c) parts, count-append (λ x. eqb (home x) c) (take many s) (drop many s), home_none home c (take many s) (all_map (λ x. home x ≤ a) (λ x. home x < c) (λ x k. omega arith) (take many s) taken_low))

  -- where one that could lie on the page is left, the page is full
  pub full_first : (x : R) (t : List R) → drop many s ≡ x ∷ t → home x ≤ a → many ≡ b
  full_first x t e l = go (dec_le b (up_to home a s))
    where
      go : Dec (b ≤ up_to home a s) → many ≡ b
      go (yes k) = omega arith
      go (no k) =
          let all : many ≡ up_to home a s = omega arith in
          let far : All (λ y. a < home y) (drop many s) = rw all (cut rank home b mono a s sorted).1 in
          let high = rw e at far in
          absurd (omega (arith, high.0))
