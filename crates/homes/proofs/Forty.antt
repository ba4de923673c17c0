-- At most forty steps are taken in range: after forty the size is 4,096 at least, the largest P.
--
use mathlib.Core.Path.{◌≡◌, refl, sym, ap, ◌∙◌}
use mathlib.Core.Bool.{Bool, true, false, cond}
use Prim.Native.Nat.{ℕ, zero, suc, ◌+◌, ◌-◌, ◌*◌, ◌%◌, ◌≤◌}
use native.Mathlib.Nat.{suc-add, add-mul, mul_assoc, mul-le-mul_right}
use native.Mathlib.Omega.{arith}
use lib.Dec.{ltb, eqb, lit≤}
use Rattle.homes.specs.declared.Params.{Params}
use Rattle.draws.specs.Draws.{later}
use Rattle.homes.specs.Homes.{next_groups, steps, mover, new_page, first_pages, home_within, home, InRange}
use Rattle.homes.proofs.Steps.{stopped, enough}

-- The size after n steps, from step x on.
unfoldable pub size_after : (n0 n x F G : ℕ) → ℕ
size_after n0 zero x F G = F
size_after n0 (suc n) x F G = size_after n0 n (suc x) (F + G) (next_groups n0 x G)

-- Once the size has reached P, more steps change nothing.
pub cut : (moves : ℕ → ℕ → Bool) (goes : ℕ → ℕ → ℕ → ℕ) (n0 P n m x F G a : ℕ) → P ≤ size_after n0 n x F G → steps moves goes n0 P (n + m) x F G a ≡ steps moves goes n0 P n x F G a
unfolding steps size_after
cut moves goes n0 P zero m x F G a h = stopped moves goes n0 P (zero + m) x F G a h
cut moves goes n0 P (suc n) m x F G a h =
    rw (suc-add n m) (ap (λ (on : ℕ). cond (ltb F P) on a) (cut moves goes n0 P n m (suc x) (F + G) (next_groups n0 x G) _ h))

-- With N times the groups there are N times the groups after a step,
groups_scaled : (n0 N x G : ℕ) → next_groups n0 x (G * N) ≡ next_groups n0 x G * N
unfolding next_groups
groups_scaled n0 N x G = go (eqb ((x - 1) % n0) (n0 - 1))
  where
    go : (t : Bool) → cond t (2 * (G * N)) (G * N) ≡ cond t (2 * G) G * N
    go true = sym (mul_assoc 2 G N)
    go false = refl

-- and N times the size after n steps, if there was at the start.
size_scaled : (n0 N n x F G : ℕ) → size_after n0 n x (F * N) (G * N) ≡ size_after n0 n x F G * N
unfolding size_after
size_scaled n0 N zero x F G = refl
size_scaled n0 N (suc n) x F G =
    rw (groups_scaled n0 N x G, ← add-mul F G N) (size_scaled n0 N n (suc x) (F + G) (next_groups n0 x G))

-- with one group at the start
from_one : (n0 : ℕ) → 1 ≤ n0 → n0 ≤ 4 → 4096 ≤ size_after n0 40 1 n0 1
unfolding size_after next_groups
from_one zero h k = absurd (omega arith)
from_one (suc zero) h k = lit≤ tt
from_one (suc (suc zero)) h k = lit≤ tt
from_one (suc (suc (suc zero))) h k = lit≤ tt
from_one (suc (suc (suc (suc zero)))) h k = lit≤ tt
from_one (suc (suc (suc (suc (suc n))))) h k = absurd (omega arith)

-- After forty steps the size is 4,096 at least.
pub size_forty : (n0 N : ℕ) → 1 ≤ n0 → n0 ≤ 4 → 1 ≤ N → 4096 ≤ size_after n0 40 1 (n0 * N) N
size_forty n0 N h k l =
    let one : 1 * N ≡ N = omega arith in
    let scaled : size_after n0 40 1 (n0 * N) N ≡ size_after n0 40 1 n0 1 * N = ap (size_after n0 40 1 (n0 * N)) (sym one) ∙ size_scaled n0 N 40 1 n0 1 in
    omega (arith, from_one n0 h k, mul-le-mul_right (size_after n0 40 1 n0 1) l)

-- As many steps as `home` takes are enough.
pub whole : (left : ℕ) (q : Params) (P K : ℕ) → InRange q P → P - first_pages q ≤ left → home q P K ≡ home_within left q P K
unfolding home
whole left q P K r h =
    enough (λ x F. mover (later q.edition) q.n0 K x) (new_page q.s) q.n0 P (P - first_pages q) left 1 (first_pages q) q.n (K % first_pages q) r.n_low (omega arith) h

-- A home is found in forty steps.
pub forty : (q : Params) (P K : ℕ) → InRange q P → home q P K ≡ home_within 40 q P K
unfolding home
forty q P K r =
    let F = first_pages q in
    let left = P - F in
    whole (40 + left) q P K r (omega arith)
    ∙ cut (λ x F. mover (later q.edition) q.n0 K x) (new_page q.s) q.n0 P 40 left 1 F q.n (K % F) (omega (arith, r.p_high, size_forty q.n0 q.n r.n0_low r.n0_high r.n_low))
