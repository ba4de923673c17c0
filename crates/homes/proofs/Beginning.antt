-- What the loops of `Shape::home` and `lanes::homes` start from: the first step's numbers, and what
-- is prepared from them. On plain numbers.
use mathlib.Core.Path.{◌≡◌, refl, sym, ap, ◌∙◌}
use Prim.Native.Nat.{ℕ, ◌+◌, ◌*◌, ◌%◌, ◌≤◌, ◌<◌}
use native.Mathlib.Nat.{mod-lt, div-le_self, mul-pos, mul-le-mul, mul-le-mul_right}
use native.Mathlib.Omega.{arith}
use Rattle.homes.specs.declared.Params.{Params}
use Rattle.homes.specs.declared.Stage.{Stage}
use Rattle.homes.specs.declared.lane.Lane.{Lane}
use Rattle.homes.specs.declared.starts.Start.{Start}
use Rattle.homes.specs.declared.sweeps.Sweeps.{Sweeps}
use Rattle.homes.specs.Homes.{first_pages, InRange}
use Rattle.homes.specs.Steps.Stages.{stage_at}
use Rattle.homes.specs.Steps.Starts.{start_of}
use Rattle.homes.specs.Steps.Sweeps.{sweeps_of}
use Rattle.homes.specs.Steps.Lanes.{lane_at, address_of, InGroup}
use Rattle.homes.proofs.Addresses.{at_fits, at_address}
use Rattle.homes.proofs.Turn.{Leads, leads_first}

-- The first step has 256 pages at most, and four for each group.
pub record First (N : ℕ) (t : Stage) : Type 0 where
  pub low : 1 ≤ t.f
  pub high : t.f ≤ 256
  pub four : t.f ≤ 4 * N
  pub groups : t.g ≡ N

pub first_is : (q : Params) (P : ℕ) (t : Stage) → InRange q P → t ≡ stage_at q.n0 1 (first_pages q) q.n → First q.n t
first_is q P t ranges e =
    rw e
    record {
      low = mul-pos ranges.n0_low ranges.n_low;
      high = mul-le-mul {n₂ = 4} {m₂ = 64} ranges.n0_high ranges.n_high;
      four = mul-le-mul_right q.n ranges.n0_high;
      groups = refl;
    }

-- What remainders by m are found by serves for its own m, which is m.
pub start_is : (m : ℕ) (r : Start) → r ≡ start_of m → 1 ≤ m → m ≤ 256 → (1 ≤ r.m) × (r.m ≤ 256) × (r ≡ start_of r.m)
start_is m r e low high = rw e (low, high, refl)

pub start_by : (m : ℕ) (r : Start) → r ≡ start_of m → r.m ≡ m
start_by m r e = ap (λ (u : Start). u.m) e

-- The lane of a page is one of the groups' lanes, with that page.
pub lane_is : (G N a : ℕ) (l : Lane) → G ≡ N → l ≡ lane_at N a → 1 ≤ N → a < 4 * N → (address_of G l ≡ a) × InGroup G l
lane_is G N a l q e low high = rw (q, e) (sym (at_address N a), at_fits N a low high)

-- The first step leads home from a page that is the key's remainder.
pub leads_begin : (d n0 N s P K a : ℕ) (t : Stage) → t ≡ stage_at n0 1 (n0 * N) N → a ≡ K % t.f → Leads d n0 t.g s P K 1 t a
leads_begin d n0 N s P K a t e f = rw f (leads_first d n0 N s P K t e)

-- Sweeps that are those of s over G groups are so by their own s, which is s,
pub sweeps_are : (s G : ℕ) (w : Sweeps) → w ≡ sweeps_of s G → (w.s ≡ s) × (w ≡ sweeps_of w.s G)
sweeps_are s G w e = (ap (λ (v : Sweeps). v.s) e, rw e)

-- and small enough to be doubled,
pub sweeps_fit : (s G : ℕ) (w : Sweeps) → w ≡ sweeps_of s G → 1 ≤ s → s ≤ 8 → G ≤ 4096 → (w.each ≤ 4096) × (w.more < w.s) × (w.s ≤ 8)
sweeps_fit s G w e low high top = rw e (omega (arith, div-le_self G s), mod-lt G low, high)

-- which makes them those over twice as many.
pub sweeps_twice : (s G G' : ℕ) (w r : Sweeps) → w ≡ sweeps_of s G → ((g : ℕ) → w ≡ sweeps_of w.s g → r ≡ sweeps_of w.s (2 * g)) → G' ≡ 2 * G → r ≡ sweeps_of s G'
sweeps_twice s G G' w r e d f =
    let own = sweeps_are s G w e in
    d G own.1 ∙ rw (own.0, f)

-- A lane's page fits.
pub page_fits : (t g r : ℕ) → g ≤ 8192 → t < 8 → r < g → t * g + r < 65536
page_fits t g r h k l = omega (arith, mul-le-mul_right g k)
