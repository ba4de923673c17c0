-- The new pages of one step's groups are all different, and fill [F, F + G): each sweep has its own
-- run of pages, and the next starts where it ends.
--
use mathlib.Core.Path.{◌≡◌, ap}
use mathlib.Core.Logic.{⊎_elim}
use Prim.Native.Nat.{ℕ, zero, suc, ◌+◌, ◌-◌, ◌*◌, ◌/◌, ◌%◌, ◌≤◌, ◌<◌}
use native.Mathlib.Nat.{mod-lt, mod-eq_of_lt, div-add-mod', mul-le-mul_right}
use native.Mathlib.Omega.{arith}
use lib.Arith.{digits_div, digits_mod}
use Rattle.homes.specs.Homes.{swept, new_page}
use Rattle.draws.proofs.Split.{split}
use Rattle.homes.proofs.New.{starts, swept_sweep}

-- A later sweep starts where an earlier one ends, or after that.
start_after : (q r v w : ℕ) → v < w → starts q r (suc v) ≤ starts q r w
start_after q r v w h = omega (arith, mul-le-mul_right q h)

-- So one page is of one sweep, and of one turn in it.
one_sweep : (q r v w m n : ℕ) → starts q r v + m < starts q r (suc v) → starts q r w + n < starts q r (suc w) → starts q r v + m ≡ starts q r w + n → (v ≡ w) × (m ≡ n)
one_sweep q r v w m n h k e =
    ⊎_elim
    (λ lt. absurd (omega (arith, start_after q r v w lt)))
    (λ ge. ⊎_elim (λ lt. absurd (omega (arith, start_after q r w v lt))) (λ le. same (omega arith)) (split w v))
    (split v w)
  where
    same : v ≡ w → (v ≡ w) × (m ≡ n)
    same d = (d, omega (arith, ap (starts q r) d))

-- And a page before the start of sweep n is of an earlier sweep.
sweep_of : (q r o n : ℕ) → o < starts q r n → (w : ℕ) × (w < n) × (starts q r w ≤ o) × (o < starts q r (suc w))
sweep_of q r o zero h = absurd (omega arith)
sweep_of q r o (suc n) h =
    ⊎_elim
    (λ lt. let f = sweep_of q r o n lt in (f.0, omega (arith, f.1), f.2, f.3))
    (λ ge. (n, omega arith, ge, h))
    (split o (starts q r n))

-- A page of sweep w is that of a k below G.
below_groups : (q r s m w : ℕ) → w < s → r < s → starts q r w + m < starts q r (suc w) → m * s + w < q * s + r
below_groups q r s m w ws rs h =
    ⊎_elim
    (λ wr. let e : m ≤ q = omega arith in omega (arith, mul-le-mul_right s e))
    (λ rw. let e : m + 1 ≤ q = omega arith in omega (arith, mul-le-mul_right s e))
    (split w r)

-- No two groups grow into one page.
swept_one : (s F G k l : ℕ) → 0 < s → k < G → l < G → swept s F G k ≡ swept s F G l → k ≡ l
unfolding swept
swept_one s F G k l hs hk hl e =
    let o = one_sweep (G / s) (G % s) (k % s) (l % s) (k / s) (l / s) (swept_sweep s G k hs hk) (swept_sweep s G l hs hl) (omega arith) in
    omega (arith, o.0, ap (λ (m : ℕ). m * s) o.1, div-add-mod' k s, div-add-mod' l s)

-- Each page is that of the group that stands at its turn in its sweep.
swept_onto : (s F G p : ℕ) → 0 < s → F ≤ p → p < F + G → (k : ℕ) × (k < G) × (swept s F G k ≡ p)
unfolding swept
swept_onto s F G p hs low high =
    let rs = mod-lt G hs in
    let f = sweep_of (G / s) (G % s) (p - F) s (omega (arith, div-add-mod' G s, rs)) in
    let w = f.0 in
    let m = p - F - starts (G / s) (G % s) w in (
      m * s + w,
      omega (arith, below_groups (G / s) (G % s) s m w f.1 rs (omega (arith, f.2, f.3)), div-add-mod' G s),
      rw (digits_div m f.1, digits_mod m f.1) (omega (arith, f.2)),
    )

-- The same of addresses: only those of one group have one new page.
pub new_one : (s F G a c : ℕ) → 0 < s → 0 < G → new_page s F G a ≡ new_page s F G c → a % G ≡ c % G
new_one s F G a c hs h_g e =
    omega (arith, swept_one s F G (G - 1 - a % G) (G - 1 - c % G) hs (omega arith) (omega arith) e, mod-lt a h_g, mod-lt c h_g)

-- Each page that a step adds is the new page of a group.
pub new_onto : (s F G p : ℕ) → 0 < s → F ≤ p → p < F + G → (g : ℕ) × (g < G) × (new_page s F G g ≡ p)
new_onto s F G p hs low high =
    let f = swept_onto s F G p hs low high in
    let l : G - 1 - f.0 < G = omega arith in
    let e : G - 1 - (G - 1 - f.0) ≡ f.0 = omega (arith, f.1) in
    (G - 1 - f.0, l, rw (mod-eq_of_lt l, e) f.2)
