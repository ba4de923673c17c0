-- The last step of a file, by which its last page was added: what it leaves as it was. A step
-- between code and definition.
use Rattle.std.specs.Prelude.{ℕ, zero, suc, ◌+◌, ◌-◌, ◌≤◌, ◌<◌, ◌≡◌, Bool, cond, not, ◌&&◌, ltb, eqb}
use Rattle.homes.specs.declared.Shape.{Shape}
use Rattle.homes.specs.declared.Stage.{Stage}
use Rattle.homes.specs.declared.giving.Numbered.{Numbered}
use Rattle.homes.specs.Homes.{np, first_pages, new_page}
use Rattle.homes.specs.Steps.Stages.{first_step, next_step, Bounded}

-- t is step x
abbrev pub numbered : (x : ℕ) → Stage → Numbered
numbered x t = record { x = x; stage = t }

-- the step after which the size is P at least, from t on, where t is step x, with at most `left`
-- steps more
unfoldable pub last_from : (n0 P left x : ℕ) → Stage → Numbered
last_from n0 P zero x t = numbered x t
last_from n0 P (suc left) x t = cond (ltb (t.f + t.g) P) (last_from n0 P left (suc x) (next_step n0 x t)) (numbered x t)

-- the last step of a file of that shape, with its number and without
abbrev pub last_of : Shape → Numbered
last_of shape = last_from shape.params.n0 shape.p (shape.p - first_pages shape.params) 1 (first_step shape)

abbrev pub last_step : Shape → Stage
last_step shape = (last_of shape).stage

-- a step that reaches size P, and is one of the forty
pub record Lasts (n0 P : ℕ) (last : Numbered) : Type 0 where
  pub np_is : last.stage.np ≡ np n0 last.x
  pub sound : Bounded n0 last.stage
  pub few : last.x ≤ 40
  pub below : last.stage.f < P
  pub reach : P ≤ last.stage.f + last.stage.g

-- a step has a group at least, and no more groups than pages
abbrev pub Within : Stage → Type 0
Within t = (1 ≤ t.g) × (t.g ≤ t.f) × (t.f < 4096)

-- whether a page is below the one that a step adds, and of a group that doesn't grow into it
unfoldable pub stays_at : (s : ℕ) → Stage → (added a : ℕ) → Bool
stays_at s last added a = ltb a added && not (eqb (new_page s last.f last.g a) added)
