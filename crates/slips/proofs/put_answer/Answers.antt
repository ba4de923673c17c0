-- `slips::put_answer` meets its contract: the answer's numbers, stored one after the other, are one
-- write of their bytes.
use mathlib.Core.Path.{◌≡◌}
use mathlib.Core.List.{List}
use Prim.Native.Nat.{ℕ, ◌+◌, ◌≤◌}
use native.Mathlib.Nat.{add_assoc}
use lib.ListN.{length}
use Rattle.numbers.specs.Little.{bytes_of, written}
use Rattle.numbers.specs.Fields.{encode}
use Rattle.numbers.proofs.Records.{puts-written}
use Rattle.state.specs.declared.Numbers.{Numbers}
use Rattle.slips.specs.Slips.{answer_fields}
use Rattle.slips.proofs.put_answer.Goals as goal

-- an answer, store by store
stored : (n : Numbers) (file : ℕ) (l : List ℕ) (at : ℕ) → at + 24 ≤ length l → {a b c d e f g : List ℕ} → a ≡ written l at (bytes_of 8 n.value) → b ≡ written a (at + 8) (bytes_of 4 n.read)
    → c ≡ written b (at + 12) (bytes_of 4 n.moved) → d ≡ written c (at + 16) (bytes_of 2 n.refusal) → e ≡ written d (at + 18) (bytes_of 2 n.page)
    → f ≡ written e (at + 20) (bytes_of 2 file) → g ≡ written f (at + 22) (bytes_of 2 0) → g ≡ written l at (encode (answer_fields n file))
stored n file l at h q₁ q₂ q₃ q₄ q₅ q₆ q₇ = rw (q₇, q₆, q₅, q₄, q₃, q₂, q₁) (simp add_assoc at (puts-written (answer_fields n file) l at h))

pub returns : goal.returns
returns c =
    stored c.args.told c.args.file c.args.bytes.now c.args.at c.requires c.put.ensures c.put-2.ensures c.put-3.ensures c.put-4.ensures c.put-5.ensures c.put-6.ensures c.put-7.ensures
