-- How a file grows into its last page: which pages give keys to it, and which of their keys go. A
-- step between code and definition.
use Rattle.std.specs.Prelude.{ℕ, zero, suc, ◌+◌, ◌-◌, ◌*◌, ◌%◌, ◌≤◌, ◌<◌, ◌≡◌, Bool, cond, ◌&&◌, leb, ltb, eqb}
use Rattle.draws.specs.Draws.{seed_of, later}
use Rattle.draws.specs.Steps.Powers.{power, limit}
use Rattle.homes.specs.declared.Shape.{Shape}
use Rattle.homes.specs.declared.giving.Numbered.{Numbered}
use Rattle.homes.specs.declared.giving.Giving.{Giving}
use Rattle.homes.specs.Homes.{np, new_page}
use Rattle.homes.specs.Steps.Last.{last_of}

-- how a file of that shape grew into its last page, by its last step and how that draws
abbrev pub made_by : Shape → Numbered → (power limit : ℕ) → Giving
made_by shape last p l =
    record { s = shape.params.s; f = last.stage.f; g = last.stage.g; added = shape.p - 1; power = p; limit = l }

abbrev pub giving_by : Shape → Numbered → Giving
giving_by shape last =
    made_by shape last (power (last.x + later shape.params.edition)) (limit (np shape.params.n0 last.x))

unfoldable pub giving_of : Shape → Giving
giving_of shape = giving_by shape (last_of shape)

-- the added page is one that the step adds, and the power one of a draw
pub record Gives (t : Giving) : Type 0 where
  pub s_low : 1 ≤ t.s
  pub s_high : t.s ≤ 8
  pub groups : 1 ≤ t.g
  pub more : t.g ≤ t.f
  pub small : t.f < 4096
  pub low : t.f ≤ t.added
  pub high : t.added < t.f + t.g
  pub number : ℕ
  pub power_is : t.power ≡ power number

-- whether a page was there before the step, and is of the group that grows into the added page
unfoldable pub gives_at : Giving → (a : ℕ) → Bool
gives_at t a = ltb a t.f && eqb (new_page t.s t.f t.g a) t.added

-- whether the step's draw makes a key a mover
unfoldable pub takes_key : Giving → (K : ℕ) → Bool
takes_key t K = leb (t.power * seed_of K % 2147483647) t.limit

-- the lowest page that gives, from page a on and before page a + left
unfoldable pub giver_from : Giving → (left a : ℕ) → ℕ
giver_from t zero a = a
giver_from t (suc left) a = cond (gives_at t a) a (giver_from t left (suc a))

-- and of them all, of which one is among the first g
abbrev pub first_giver : Giving → ℕ
first_giver t = giver_from t t.g 0
