-- A state and an answer as bytes: in the slips of the calls for other languages, and in the records
-- of raw calls. What is quoted is 01's.
use Rattle.std.specs.Prelude.{ℕ, ◌+◌, List, [], ◌∷◌}
use Rattle.numbers.specs.Little.{number_at}
use Rattle.numbers.specs.Fields.{Field}
use Rattle.homes.specs.Homes.{params}
use Rattle.state.specs.declared.State.{State}
use Rattle.state.specs.declared.Numbers.{Numbers}

-- the state whose sixteen bytes stand at an offset: "n0 .., N .., s .., P .., cap .., r", with the
-- edition (02, request 4) before r
abbrev pub state_at : List ℕ → ℕ → State
state_at l at =
    record { params = params (number_at 2 l at) (number_at 2 l (at + 2)) (number_at 2 l (at + 4)) (number_at 2 l (at + 10)); p = number_at 2 l (at + 6); cap = number_at 2 l (at + 8); r = number_at 4 l (at + 12) }

-- a state's bytes
abbrev pub state_fields : State → List Field
state_fields s = (2, s.params.n0) ∷ (2, s.params.n) ∷ (2, s.params.s) ∷ (2, s.p) ∷ (2, s.cap) ∷ (2, s.params.edition) ∷ (4, s.r) ∷ []

-- an answer's bytes in a slip, in 01's numbers, with the file that a refusal of a call on two files is about
-- (02, request 9), and two zeros at the end
abbrev pub answer_fields : Numbers → (file : ℕ) → List Field
answer_fields n file = (8, n.value) ∷ (4, n.read) ∷ (4, n.moved) ∷ (2, n.refusal) ∷ (2, n.page) ∷ (2, file) ∷ (2, 0) ∷ []

-- and in a reply, where the run, which is always 0, stands before the pages read
abbrev pub reply_fields : Numbers → List Field
reply_fields n = (2, n.refusal) ∷ (2, n.page) ∷ (8, n.value) ∷ (4, 0) ∷ (4, n.read) ∷ (4, n.moved) ∷ []
