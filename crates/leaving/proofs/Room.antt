-- Entries written to a room one after the other, as far as it has bytes.
use mathlib.Core.Path.{◌≡◌, sym, ap, ◌∙◌}
use mathlib.Core.List.{List, [], ◌∷◌, ◌++◌, append-nil}
use Prim.Native.Nat.{ℕ, suc, ◌+◌, ◌-◌, ◌*◌, ◌/◌, ◌≤◌, ◌<◌}
use native.Mathlib.Nat.{add-zero, sub-zero}
use native.Mathlib.Decide.{dec_le}
use native.Mathlib.Omega.{arith}
use lib.ListN.{length, take, length-take}
use lib.Seq.{take_all, take-nil, take-append-le, take-append-add}
use Rattle.numbers.specs.Little.{written}
use Rattle.numbers.proofs.Laws.{written-nil, written-length, written-written}
use Rattle.entries.specs.declared.Entry.{Entry}
use Rattle.entries.specs.Steps.Entries.{size, entry_bytes, row_bytes}
use Rattle.entries.proofs.Rows.{row_length, row_append}
use Rattle.leaving.specs.Steps.Leaving.{entered}

-- how many entries a room has bytes for, from an offset on
abbrev free : List ℕ → ℕ → ℕ
free l at = (length l - at) / size

-- from the start on
pub entered_first : (l : List ℕ) (es : List Entry) → entered l 0 es ≡ written l 0 (row_bytes (take (length l / size) es))
unfolding entered
entered_first l es = rw (sub-zero (length l))

module _ (l : List ℕ) (at : ℕ) where
  pub entered_none : entered l at [] ≡ l
  unfolding entered
  entered_none = rw take-nil (written-nil l at)

  pub entered-length : (es : List Entry) → length (entered l at es) ≡ length l
  unfolding entered
  entered-length es = go (dec_le at (length l))
    where
      go : Dec (at ≤ length l) → length (written l at (row_bytes (take (free l at) es))) ≡ length l
      go (yes h) = written-length l at (row_bytes (take (free l at) es)) (omega (arith, row_length (take (free l at) es), length-take (free l at) es))
      go (no h) =
          let z : free l at ≡ 0 = omega arith in
          rw z (ap length (written-nil l at))

  -- the first entry has its bytes, or none has
  pub one_put : (e : Entry) → at + size ≤ length l → written l at (entry_bytes e) ≡ entered l at (e ∷ [])
  unfolding entered
  one_put e h =
      let k : free l at ≡ suc (free l (at + size)) = omega arith in
      let t : take (free l at) (e ∷ []) ≡ e ∷ [] = rw k (ap (λ (es : List Entry). e ∷ es) (take-nil (free l (at + size)))) in
      rw (t, append-nil)

  pub one_lost : (e : Entry) → length l < at + size → l ≡ entered l at (e ∷ [])
  unfolding entered
  one_lost e h =
      let k : free l at ≡ 0 = omega arith in
      rw k (sym (written-nil l at))

  both : (v w : List ℕ) (n : ℕ) → length v ≡ n → at ≤ length l → written (written l at v) (at + n) w ≡ written l at (v ++ w)
  both v w n e h = rw (← e) (written-written l at v w h)

  -- some, and then others behind them
  some_append : (es fs : List Entry) → 0 < length es → entered (entered l at es) (at + size * length es) fs ≡ entered l at (es ++ fs)
  unfolding entered
  some_append es fs z = rw (entered-length es) (go (dec_le (length es) k))
    where
      k : ℕ
      k = free l at

      k' : ℕ
      k' = free l (at + size * length es)

      go : Dec (length es ≤ k) → written (written l at (row_bytes (take k es))) (at + size * length es) (row_bytes (take k' fs)) ≡ written l at (row_bytes (take k (es ++ fs)))
      go (yes h) =
          let n : k ≡ length es + k' = omega arith in
          let t : take k es ≡ es = take_all k es h in
          let u : take k (es ++ fs) ≡ es ++ take k' fs = rw n (take-append-add es fs k') in
          rw (t, u, row_append es (take k' fs)) (both (row_bytes es) (row_bytes (take k' fs)) (size * length es) (row_length es) (omega arith))
      go (no h) =
          let n : k' ≡ 0 = omega arith in
          rw n (written-nil (written l at (row_bytes (take k es))) (at + size * length es) ∙ rw (take-append-le k es fs (omega arith)))

  pub entered-append : (es fs : List Entry) → entered (entered l at es) (at + size * length es) fs ≡ entered l at (es ++ fs)
  entered-append [] fs = rw (entered_none, add-zero at)
  entered-append (e ∷ es) fs = some_append (e ∷ es) fs (omega arith)
