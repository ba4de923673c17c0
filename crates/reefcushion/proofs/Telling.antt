-- What is stored in a slip is all of it, and brings the next call the state.
use mathlib.Core.Path.{◌≡◌, refl, ap, ◌∙◌}
use mathlib.Core.List.{List, [], ◌++◌}
use Prim.Native.Nat.{ℕ, ◌+◌, ◌%◌, ◌<◌}
use native.Mathlib.Omega.{arith}
use lib.ListN.{length}
use Rattle.numbers.specs.Little.{bytes_of, written}
use Rattle.numbers.specs.Fields.{Field, encode}
use Rattle.numbers.proofs.Laws.{written_all, written-written}
use Rattle.numbers.proofs.Records.{Fit, length-encode, encode-append, puts-written}
use Rattle.state.specs.declared.State.{State}
use Rattle.state.specs.declared.Numbers.{Numbers}
use Rattle.comparisons.specs.declared.ComparedNumbers.{ComparedNumbers}
use Rattle.slips.specs.Slips.{state_at, state_fields, answer_fields}
use Rattle.slips.proofs.Again.{state_again}
use Rattle.reefcushion.specs.Slip.{comparison_fields, renumbered, state_in, slip_about}

-- a state that is renumbered there and back is the same, where its edition is of two bytes
renumbered_back : (s : State) → s.params.edition < 65536 → renumbered 1 (renumbered 65535 s) ≡ s
renumbered_back s h = let e : ((s.params.edition + 65535) % 65536 + 1) % 65536 ≡ s.params.edition = omega arith in rw e

-- seven numbers that were written are all that a comparison is told in
pub comparison_stored : (n : ComparedNumbers) (l l₁ l₂ l₃ l₄ l₅ l₆ l₇ : List ℕ) → length l ≡ 20
    → l₁ ≡ written l 0 (bytes_of 2 n.numbers.refusal)
    → l₂ ≡ written l₁ 2 (bytes_of 2 n.file)
    → l₃ ≡ written l₂ 4 (bytes_of 2 n.numbers.page)
    → l₄ ≡ written l₃ 6 (bytes_of 2 0)
    → l₅ ≡ written l₄ 8 (bytes_of 4 n.numbers.read)
    → l₆ ≡ written l₅ 12 (bytes_of 4 n.taken)
    → l₇ ≡ written l₆ 16 (bytes_of 4 n.wanted)
    → l₇ ≡ encode (comparison_fields n)
comparison_stored n l l₁ l₂ l₃ l₄ l₅ l₆ l₇ h p q r s t u v =
    rw (v, u, t, s, r, q, p) (puts-written (comparison_fields n) l 0 (omega arith) ∙ written_all l (encode (comparison_fields n)) (omega (arith, length-encode (comparison_fields n))))

module _ (s : State) (n : Numbers) (file : ℕ) where
  -- the fields of the state in a slip
  abbrev fields : List Field
  fields = state_fields (renumbered 65535 s)

  -- a state and then an answer leave their bytes, and none of those before
  pub slip_stored : (l : List ℕ) → length l ≡ 40 → {z : State} → z ≡ renumbered 65535 s → {a b : List ℕ} → a ≡ written l 0 (encode (state_fields z)) → b ≡ written a 16 (encode (answer_fields n file)) → b ≡ slip_about s n file
  slip_stored l h e q₁ q₂ =
      let v : List ℕ = encode fields in
      let w : List ℕ = encode (answer_fields n file) in
      let k : length v ≡ 16 = length-encode fields in
      let all : length (slip_about s n file) ≡ 40 = length-encode (fields ++ answer_fields n file) in
      let two : written (written l 0 v) 16 w ≡ written l 0 (v ++ w) = rw k at (written-written l 0 v w (omega arith)) in
      rw (q₂, q₁, e, two, ← encode-append fields (answer_fields n file)) (written_all l (slip_about s n file) (omega arith))

  -- it brings the next call the state, where its numbers fit their widths
  pub slip_again : {l : List ℕ} → Fit fields → s.params.edition < 65536 → l ≡ slip_about s n file → state_in l ≡ s
  slip_again fit small q =
      let there : state_at (encode fields ++ encode (answer_fields n file)) 0 ≡ renumbered 65535 s = state_again (renumbered 65535 s) [] (encode (answer_fields n file)) 0 refl fit in
      rw (q ∙ encode-append fields (answer_fields n file)) (ap (renumbered 1) there ∙ renumbered_back s small)
