-- What is to be known of the numbers that a call tells on any bytes.
use mathlib.Core.Path.{◌≡◌, refl}
use mathlib.Core.Bool.{true, false}
use mathlib.Core.Logic.{inl, inr}
use mathlib.Core.List.{List, [], ◌∷◌}
use Prim.Native.Nat.{ℕ}
use Rattle.std.proofs.Common.{Ok, Err}
use Rattle.state.specs.declared.State.{State}
use Rattle.state.specs.declared.Done.{Done}
use Rattle.state.specs.declared.Numbers.{Numbers}
use Rattle.state.specs.Answer.{Answer, told, numbers, refused as why_told}
use Rattle.state.specs.Done.{done}
use Rattle.gates.specs.Gates.{Gate, on_gate}
use Rattle.changes.specs.Changes.{Outcome, refused}
use Rattle.register.specs.Files.{Call, File}
use Rattle.demands.specs.Refusals.{BrokenAt, order, OneOf, gives, AcceptedTells}
use Rattle.demands.proofs.InOrder.{listed, one_of, none_of, Comes}

-- what is to be known of the numbers n of a call
pub record Known (f : File) (c : Call) (n : Numbers) : Type 0 where
  pub comes : Comes n.refusal (order f c) (order f c)
  pub gives : OneOf n.refusal (gives c)
  pub accepted : n.refusal ≡ 0 → AcceptedTells f c n
  pub broken : n.refusal ≡ 4 → BrokenAt f n.page

-- a refusal but 4
pub refuses : (f : File) (c : Call) (k read : ℕ) → listed k (0 ∷ 4 ∷ []) ≡ false → listed k (gives c) ≡ true → Comes k (order f c) (order f c) → Known f c (told k 0 0 read 0)
refuses f c k read p g w =
    record {
      comes = w;
      gives = one_of k (gives c) g;
      accepted = λ e. absurd (none_of k (0 ∷ 4 ∷ []) p (inl e));
      broken = λ e. absurd (none_of k (0 ∷ 4 ∷ []) p (inr (inl e)));
    }

-- the numbers of a call that is refused at a gate, or goes on
pub gated : (s : State) (area : List ℕ) (o : Outcome) (g : Gate) → numbers (on_gate g (refused s area) o).done.answer ≡ on_gate g why_told (numbers o.done.answer)
gated s area o (Ok u) = refl
gated s area o (Err why) = refl

pub looks : (s : State) (d : Done Answer) (g : Gate) → numbers (on_gate g (λ why. done s (Err why)) d).answer ≡ on_gate g why_told (numbers d.answer)
looks s d (Ok u) = refl
looks s d (Err why) = refl
