-- A reply's fields, stored one after the other over all its bytes.
use mathlib.Core.Path.{◌≡◌, refl, ◌∙◌}
use mathlib.Core.Bool.{Bool, true, false}
use mathlib.Core.List.{List}
use Prim.Native.Nat.{ℕ}
use native.Mathlib.Omega.{arith}
use lib.ListN.{length}
use mir.Val.{bool_byte}
use Rattle.numbers.specs.Little.{bytes_of, written}
use Rattle.numbers.specs.Fields.{encode}
use Rattle.numbers.proofs.Laws.{written_all}
use Rattle.numbers.proofs.Records.{puts, length-encode, puts-written}
use Rattle.layouts.specs.Layout.{in_use}
use Rattle.state.specs.declared.State.{State}
use Rattle.state.specs.declared.Numbers.{Numbers}
use Rattle.state.specs.State.{is_due}
use Rattle.records.specs.Records.{bit, reply_of}

-- the byte of a Boolean is its bit
pub byte_bit : (u : Bool) → bool_byte u ≡ bit u
byte_bit true = refl
byte_bit false = refl

module _ (n : Numbers) (s : State) (l : List ℕ) (h : length l ≡ 28) where
  -- stored over as many bytes as they take, the fields leave their bytes and no others
  all_stored : puts l 0 (reply_of n s) ≡ encode (reply_of n s)
  all_stored =
      puts-written (reply_of n s) l 0 (omega arith) ∙ written_all l (encode (reply_of n s)) (omega (arith, length-encode (reply_of n s)))

  -- and so do they store by store
  pub reply_stored : {due : ℕ} {a b c d e f g i j : List ℕ} → due ≡ bit (is_due in_use s) → a ≡ written l 0 (bytes_of 2 28) → b ≡ written a 2 (bytes_of 2 513)
      → c ≡ written b 4 (bytes_of 2 n.refusal) → d ≡ written c 6 (bytes_of 2 n.page) → e ≡ written d 8 (bytes_of 8 n.value)
      → f ≡ written e 16 (bytes_of 4 n.read) → g ≡ written f 20 (bytes_of 4 n.moved) → i ≡ written g 24 (bytes_of 2 s.p)
      → j ≡ written i 26 (bytes_of 2 due) → j ≡ encode (reply_of n s)
  reply_stored u q₁ q₂ q₃ q₄ q₅ q₆ q₇ q₈ q₉ = rw (q₉, q₈, q₇, q₆, q₅, q₄, q₃, q₂, q₁, u) all_stored
