-- What is left of a call: the state after it, and what it came to.
use Rattle.std.specs.Prelude.{Result, Ok, Err}
use Rattle.state.specs.declared.Accepted.{Accepted}
use Rattle.state.specs.declared.Refusal.{Refusal}
use Rattle.state.specs.declared.State.{State}
use Rattle.state.specs.declared.Done.{Done}
use Rattle.state.specs.Answer.{Answer}

abbrev pub done : State → Answer → Done Answer
done s answer = record { state = s; answer = answer }

-- "A refusal leaves area and state unchanged": with it goes the state that was given
abbrev pub done_of : State → Result (State × Accepted) Refusal → Done Answer
done_of s (Ok (next, a)) = done next (Ok a)
done_of s (Err why) = done s (Err why)
