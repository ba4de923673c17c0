-- How many records each page holds is set by their homes: no order of the records has a part in it.
use mathlib.Core.Path.{◌≡◌, refl, sym, ap, ◌∙◌}
use mathlib.Core.List.{List, [], ◌∷◌, Permᴰ}
use Prim.Native.Nat.{ℕ, zero, suc, ◌+◌, ◌≤◌, ◌<◌}
use native.Mathlib.Omega.{arith}
use native.Mathlib.Decide.{dec_lt}
use lib.ListN.{length, take, length-append, get_or-eq_default}
use Rattle.placing.specs.Image.{cat, page, home_of, Arrangement, NoGap}
use Rattle.placing.specs.Lay.{taken}
use Rattle.placing.proofs.Taken.{packed_below, taken_cong}
use Rattle.placing.proofs.Perms.{perm-up_to}
use Rattle.placing.proofs.Tidy.{arranged_packed}

module _ {R : Type 0} where
  -- one page more holds its own records more
  next_page : (ps : List (List R)) (a : ℕ) → length (cat (take (suc a) ps) []) ≡ length (cat (take a ps) []) + length (page ps a)
  next_page [] zero = refl
  next_page [] (suc a) = refl
  next_page (p ∷ ps) zero = omega (arith, length-append p [])
  next_page (p ∷ ps) (suc a) = omega (arith, length-append p (cat (take (suc a) ps) []), length-append p (cat (take a ps) []), next_page ps a)

module _ {R : Type 0} (key : R → ℕ) (h : ℕ → ℕ) (b : ℕ) where
  -- the pages below a hold what they can take
  below : {n : ℕ} {s : List R} {ps : List (List R)} → Arrangement key h b n s ps → NoGap key h b ps → (a : ℕ) → a ≤ n
      → length (cat (take a ps) []) ≡ taken (home_of key h) b s a
  below {s = s} {ps = ps} i full a l =
      sym (packed_below (home_of key h) b ps [] a (omega (arith, i.many)) (arranged_packed key h b i full))
      ∙ taken_cong (home_of key h) b (cat ps []) s (λ j. perm-up_to (home_of key h) j i.holds) a

  -- "The number of records on each page is the same either way."
  pub page_counts : {n : ℕ} {s t : List R} {ps qs : List (List R)} → Permᴰ s t → Arrangement key h b n s ps → NoGap key h b ps
      → Arrangement key h b n t qs → NoGap key h b qs → (a : ℕ) → length (page ps a) ≡ length (page qs a)
  page_counts {n} {s} {t} {ps} {qs} p i full j full' a = go (dec_lt a n)
    where
      same : (c : ℕ) → c ≤ n → length (cat (take c ps) []) ≡ length (cat (take c qs) [])
      same c l = below i full c l ∙ taken_cong (home_of key h) b s t (λ k. perm-up_to (home_of key h) k p) c ∙ sym (below j full' c l)

      go : Dec (a < n) → length (page ps a) ≡ length (page qs a)
      go (yes l) = omega (arith, next_page ps a, next_page qs a, same a (omega arith), same (suc a) (omega arith))
      go (no l) =
          ap length (get_or-eq_default ps [] {n = a} (omega (arith, i.many)) ∙ sym (get_or-eq_default qs [] {n = a} (omega (arith, j.many))))
