-- Put and remove where nothing was refused before the walk: what each answers, and the state and the
-- area that it leaves. What is quoted is 01's.
use Rattle.std.specs.Prelude.{ℕ, Bool, cond, List, eqb, Ok, Err}
use Rattle.layouts.specs.Layout.{Layout, slots_on}
use Rattle.pages.specs.Page.{Record}
use Rattle.state.specs.declared.State.{State}
use Rattle.state.specs.State.{homes, one_more, one_less}
use Rattle.state.specs.declared.Done.{Done}
use Rattle.state.specs.declared.Refusal.{Refusal}
use Rattle.state.specs.declared.Refusal.TheVariants.{NotImage}
use Rattle.state.specs.Answer.{Answer, accepted}
use Rattle.state.specs.Done.{done}
use Rattle.walks.specs.Walks.{Walked, went, stopped, put_walk, remove_walk, writes}

-- what a call that may write comes to
pub record Outcome : Type 0 where
  pub done : Done Answer
  pub area : List ℕ

-- "A refusal leaves area and state unchanged"
abbrev pub refused : State → List ℕ → Refusal → Outcome
refused s area why = record { done = done s (Err why); area = area }

-- "Put and remove 1, 2, the walk (4, 5, 6 or 7 as met), then 9", with 13 beside 6 (02, request 1):
-- where it went well, the state after it is `next`, unless the count is wrong
abbrev pub settled : Layout → State → List ℕ → (next : State) → (wrong : Bool) → Walked → Outcome
settled f s area next wrong (stopped why) = refused s area why
settled f s area next wrong (went pages read moved) =
    cond wrong (refused s area (NotImage read)) (record { done = done next (Ok (accepted 0 read moved)); area = writes f area pages })

-- 9: "put where r = 12 x cap", where twelve are the slots of a page
abbrev pub put_open : Layout → State → List ℕ → Record → Outcome
put_open f s area x = settled f s area (one_more s) (eqb s.r (slots_on f s.cap)) (put_walk f (homes s) area s.cap x)

-- 9: "remove where r = 0"
abbrev pub remove_open : Layout → State → List ℕ → (k : ℕ) → Outcome
remove_open f s area k = settled f s area (one_less s) (eqb s.r 0) (remove_walk f (homes s) area s.cap k)
