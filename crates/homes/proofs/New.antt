-- The page that a group grows into lies among the pages of that step: from F on, and below F + G.
--
use mathlib.Core.Logic.{⊎_elim}
use mathlib.Core.Path.{◌≡◌}
use Prim.Native.Nat.{ℕ, suc, ◌+◌, ◌-◌, ◌*◌, ◌/◌, ◌%◌, ◌≤◌, ◌<◌, min}
use native.Mathlib.Nat.{mod-lt, div-add-mod', mul-le-mul_right, lt_of_mul-lt-mul_right}
use native.Mathlib.Omega.{arith}
use Rattle.draws.proofs.Split.{split}
use Rattle.homes.specs.Homes.{swept, new_page}

-- where the new pages of sweep w start, counted from F, of G = q * s + r groups
abbrev pub starts : (q r w : ℕ) → ℕ
starts q r w = w * q + min w r

-- The page of k = m * s + w, where k is below G, comes before the next sweep's.
in_sweep : (q r s m w : ℕ) → w < s → r < s → m * s + w < q * s + r → starts q r w + m < starts q r (suc w)
in_sweep q r s m w ws rs h =
    ⊎_elim
    (λ wr. let e : m < q + 1 = lt_of_mul-lt-mul_right s (omega arith) in omega arith)
    (λ rw. let e : m < q = lt_of_mul-lt-mul_right s (omega arith) in omega arith)
    (split w r)

-- The same of k and G by their quotients and remainders.
pub swept_sweep : (s G k : ℕ) → 0 < s → k < G → starts (G / s) (G % s) (k % s) + k / s < starts (G / s) (G % s) (suc (k % s))
swept_sweep s G k hs hk = in_sweep (G / s) (G % s) s (k / s) (k % s) (mod-lt k hs) (mod-lt G hs) (omega (arith, div-add-mod' G s, div-add-mod' k s))

-- The page of the k-th group in order of growth is below F + G.
pub swept_high : (s F G k : ℕ) → 0 < s → k < G → swept s F G k < F + G
unfolding swept
swept_high s F G k hs hk = omega (arith, swept_sweep s G k hs hk, mul-le-mul_right (G / s) (mod-lt k hs), div-add-mod' G s)

-- A new page is as far behind F as it is from 0 at size 0.
pub swept_from : (s F G k : ℕ) → swept s F G k ≡ F + swept s 0 G k
unfolding swept
swept_from s F G k = omega arith

-- A new page is not one of the F pages before it.
pub new_low : (s F G a : ℕ) → F ≤ new_page s F G a
unfolding swept
new_low s F G a = omega arith

-- A new page is below the size after the step.
pub new_high : (s F G a : ℕ) → 0 < s → 0 < G → new_page s F G a < F + G
new_high s F G a hs h_g = swept_high s F G (G - 1 - a % G) hs (omega arith)
