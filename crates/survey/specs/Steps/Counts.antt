-- What a survey counts beside its verdict. What is quoted is 01's.
use Rattle.std.specs.Prelude.{ℕ, ◌≡◌, List, Ok, Err}
use Rattle.placing.specs.Rows.{counts}
use Rattle.pages.specs.Page.{Record, home_for}
use Rattle.survey.specs.Survey.{Verdict}

-- what a survey leaves in a row of n counts where no page is broken, h being the home of a key: "the
-- number of records of each home"
abbrev pub Counts : Verdict → (h : ℕ → ℕ) → List Record → (n : ℕ) → List ℕ → Type 0
Counts (Err a) h rs n row = Unit {0}
Counts (Ok w) h rs n row = row ≡ counts (home_for h) rs n 0
