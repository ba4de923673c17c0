-- `slips::put_state` meets its contract: the state's numbers, stored one after the other, are one
-- write of their bytes.
use mathlib.Core.Path.{◌≡◌}
use mathlib.Core.List.{List}
use Prim.Native.Nat.{ℕ, ◌+◌, ◌≤◌}
use native.Mathlib.Nat.{add_assoc}
use lib.ListN.{length}
use Rattle.numbers.specs.Little.{bytes_of, written}
use Rattle.numbers.specs.Fields.{encode}
use Rattle.numbers.proofs.Records.{puts-written}
use Rattle.state.specs.declared.State.{State}
use Rattle.slips.specs.Slips.{state_fields}
use Rattle.slips.proofs.put_state.Goals as goal

-- a state, store by store
stored : (s : State) (l : List ℕ) (at : ℕ) {a b c d e f g : List ℕ} → at + 16 ≤ length l
    → a ≡ written l at (bytes_of 2 s.params.n0) → b ≡ written a (at + 2) (bytes_of 2 s.params.n) → c ≡ written b (at + 4) (bytes_of 2 s.params.s) → d ≡ written c (at + 6) (bytes_of 2 s.p)
    → e ≡ written d (at + 8) (bytes_of 2 s.cap) → f ≡ written e (at + 10) (bytes_of 2 s.params.edition) → g ≡ written f (at + 12) (bytes_of 4 s.r)
    → g ≡ written l at (encode (state_fields s))
stored s l at h q₁ q₂ q₃ q₄ q₅ q₆ q₇ = rw (q₇, q₆, q₅, q₄, q₃, q₂, q₁) (simp add_assoc at (puts-written (state_fields s) l at h))

pub returns : goal.returns
returns c =
    stored c.args.state _ c.args.at c.requires c.put.ensures c.put-2.ensures c.put-3.ensures c.put-4.ensures c.put-5.ensures c.put-6.ensures c.put-7.ensures
