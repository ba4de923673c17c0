-- A state is read back where it was written.
use mathlib.Core.Path.{◌≡◌}
use mathlib.Core.Bool.{true}
use mathlib.Core.List.{List, [], ◌∷◌, ◌++◌}
use Prim.Native.Nat.{ℕ}
use lib.ListN.{length}
use Rattle.numbers.specs.Fields.{Field, encode, matches}
use Rattle.numbers.proofs.Records.{Fit, match_first, matches_complete, match_at}
use Rattle.state.specs.declared.State.{State}
use Rattle.slips.specs.Slips.{state_at, state_fields}

-- between other bytes, where its numbers fit their widths
pub state_again : (s : State) (p q : List ℕ) (at : ℕ) → length p ≡ at → Fit (state_fields s) → state_at (p ++ (encode (state_fields s) ++ q)) at ≡ s
state_again s p q at n fit =
    let l : List ℕ = p ++ (encode (state_fields s) ++ q) in
    let k : matches l at (state_fields s) ≡ true = matches_complete (state_fields s) p q at n fit in
    let f₆ : List Field = (4, s.r) ∷ [] in
    let f₅ : List Field = (2, s.params.edition) ∷ f₆ in
    let f₄ : List Field = (2, s.cap) ∷ f₅ in
    let f₃ : List Field = (2, s.p) ∷ f₄ in
    let f₂ : List Field = (2, s.params.s) ∷ f₃ in
    let f₁ : List Field = (2, s.params.n) ∷ f₂ in
    rw (
      match_first 2 s.params.n0 f₁ l at k,
      match_at ((2, s.params.n0) ∷ []) 2 s.params.n f₂ l at k,
      match_at ((2, s.params.n0) ∷ (2, s.params.n) ∷ []) 2 s.params.s f₃ l at k,
      match_at ((2, s.params.n0) ∷ (2, s.params.n) ∷ (2, s.params.s) ∷ []) 2 s.p f₄ l at k,
      match_at ((2, s.params.n0) ∷ (2, s.params.n) ∷ (2, s.params.s) ∷ (2, s.p) ∷ []) 2 s.cap f₅ l at k,
      match_at ((2, s.params.n0) ∷ (2, s.params.n) ∷ (2, s.params.s) ∷ (2, s.p) ∷ (2, s.cap) ∷ []) 2 s.params.edition f₆ l at k,
      match_at ((2, s.params.n0) ∷ (2, s.params.n) ∷ (2, s.params.s) ∷ (2, s.p) ∷ (2, s.cap) ∷ (2, s.params.edition) ∷ []) 4 s.r [] l at k,
    )
