-- The steps of a file as the code holds them: the size and the groups before a step, and its np,
-- which stands for its number. A step between code and definition.
use Rattle.std.specs.Prelude.{ℕ, suc, ◌+◌, ◌*◌, ◌≤◌, ◌<◌, ◌≡◌}
use Rattle.homes.specs.declared.Shape.{Shape}
use Rattle.homes.specs.declared.Stage.{Stage}
use Rattle.homes.specs.Homes.{np, next_groups, first_pages}

-- step x, at size F with G groups
abbrev pub stage_at : (n0 x F G : ℕ) → Stage
stage_at n0 x F G = record { f = F; g = G; np = np n0 x }

-- the first step of a file of that shape
abbrev pub first_step : Shape → Stage
first_step shape = stage_at shape.params.n0 1 (first_pages shape.params) shape.params.n

-- the step after t, where t is step x
abbrev pub next_step : (n0 x : ℕ) → Stage → Stage
next_step n0 x t = stage_at n0 (suc x) (t.f + t.g) (next_groups n0 x t.g)

-- r is the step after t, whichever step of that np it is
abbrev pub After : (n0 : ℕ) (t r : Stage) → Type 0
After n0 t r = (x : ℕ) → 1 ≤ x → t.np ≡ np n0 x → r ≡ next_step n0 x t

-- a step has a group at least, no more groups than pages, and fewer than 2 n0 pages a group
abbrev pub Bounded : (n0 : ℕ) → Stage → Type 0
Bounded n0 t = (1 ≤ t.g) × (t.g ≤ t.f) × (t.np < 2 * n0)
