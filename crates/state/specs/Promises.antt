-- What is promised of a state's tests (01, 'The register'; 02, request 4): each says the
-- inequalities that 01 and 02 write. What is quoted is 01's, or 02's where that is said.
use Rattle.std.specs.Prelude.{ℕ, ◌*◌, ◌≤◌, ◌<◌, ◌≡◌, true, ◌↔◌}
use Rattle.layouts.specs.Layout.{Layout, slots_on, twelve, ten}
use Rattle.state.specs.declared.State.{State}
use Rattle.state.specs.State.{in_range, is_due}

-- "Ranges: n0 1 to 4, N 1 to 64, s 1 to 8, cap 1 to 4,096, n0 x N <= P <= cap, r <= 12 x cap." 02,
-- request 4: "The state carries the edition, 1 or 2". Twelve are the slots of a page.
pub record Ranged (f : Layout) (x : State) : Type 0 where
  pub n0_low : 1 ≤ x.params.n0
  pub n0_high : x.params.n0 ≤ 4
  pub n_low : 1 ≤ x.params.n
  pub n_high : x.params.n ≤ 64
  pub s_low : 1 ≤ x.params.s
  pub s_high : x.params.s ≤ 8
  pub edition_low : 1 ≤ x.params.edition
  pub edition_high : x.params.edition ≤ 2
  pub cap_low : 1 ≤ x.cap
  pub cap_high : x.cap ≤ 4096
  pub p_low : x.params.n0 * x.params.n ≤ x.p
  pub p_high : x.p ≤ x.cap
  pub r_high : x.r ≤ slots_on f x.cap

pub record StatePromises : Type 0 where
  -- the tests are of these ranges, and of no narrower and no wider ones
  pub in_range : (f : Layout) (x : State) → (in_range f x ≡ true) ↔ Ranged f x
  -- growth is due where the records are more than four fifths of the slots; of a state out of range
  -- "due answers no"
  pub due : (f : Layout) (x : State) → (is_due f x ≡ true) ↔ (Ranged f x × (4 * slots_on f x.p < 5 * x.r))
  -- so with twelve slots "exactly when 5r > 48P"; 02, request 8: with ten "when 5r > 40P"
  pub twelve : (p : ℕ) → 4 * slots_on twelve p ≡ 48 * p
  pub ten : (p : ℕ) → 4 * slots_on ten p ≡ 40 * p
