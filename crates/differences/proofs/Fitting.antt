-- Entries written to a row one after the other, as far as they have room.
use mathlib.Core.Path.{◌≡◌, refl, sym, ap, ◌∙◌}
use mathlib.Core.Bool.{Bool, true, false, cond}
use mathlib.Core.List.{List, [], ◌∷◌, ◌++◌}
use Prim.Native.Nat.{ℕ, suc, ◌+◌, ◌*◌, ◌≤◌}
use native.Mathlib.Nat.{add-zero}
use native.Mathlib.Omega.{arith}
use borrow.Author.Tests.{leb-true, le-leb}
use lib.Dec.{leb}
use lib.ListN.{length}
use Rattle.numbers.specs.Little.{written}
use Rattle.numbers.proofs.Laws.{written-nil, written-length, written-written}
use Rattle.entries.specs.declared.Entry.{Entry}
use Rattle.entries.specs.Steps.Entries.{size, entry_bytes, row_bytes}
use Rattle.entries.proofs.Entries.{length_entry}
use Rattle.differences.specs.Steps.Passes.{fitted}

one_length : (row : List ℕ) (at : ℕ) (e : Entry) → length (cond (leb (at + size) (length row)) (written row at (entry_bytes e)) row) ≡ length row
one_length row at e = go (leb (at + size) (length row)) refl
  where
    go : (u : Bool) → leb (at + size) (length row) ≡ u → length (cond u (written row at (entry_bytes e)) row) ≡ length row
    go true q = written-length row at (entry_bytes e) (omega (arith, leb-true (at + size) (length row) q, length_entry e))
    go false q = refl

pub fitted-length : (row : List ℕ) (at : ℕ) (es : List Entry) → length (fitted row at es) ≡ length row
unfolding fitted
fitted-length row at [] = refl
fitted-length row at (e ∷ es) = fitted-length (cond (leb (at + size) (length row)) (written row at (entry_bytes e)) row) (at + size) es ∙ one_length row at e

-- some, and then others behind them
pub fitted-append : (row : List ℕ) (at : ℕ) (es fs : List Entry) → fitted row at (es ++ fs) ≡ fitted (fitted row at es) (at + size * length es) fs
unfolding fitted
fitted-append row at [] fs = rw (add-zero at)
fitted-append row at (e ∷ es) fs =
    let n : at + size * suc (length es) ≡ at + size + size * length es = omega arith in
    rw n (fitted-append (cond (leb (at + size) (length row)) (written row at (entry_bytes e)) row) (at + size) es fs)

-- where all have room, all are written
pub fitted_all : (es : List Entry) (row : List ℕ) (at : ℕ) → at + size * length es ≤ length row → fitted row at es ≡ written row at (row_bytes es)
unfolding fitted
fitted_all [] row at h = sym (written-nil row at)
fitted_all (e ∷ es) row at h =
    let r : List ℕ = written row at (entry_bytes e) in
    let l : length r ≡ length row = written-length row at (entry_bytes e) (omega (arith, length_entry e)) in
    let n : at + size ≡ at + length (entry_bytes e) = omega (arith, length_entry e) in
    let two : written r (at + length (entry_bytes e)) (row_bytes es) ≡ written row at (entry_bytes e ++ row_bytes es) = written-written row at (entry_bytes e) (row_bytes es) (omega arith) in
    let go : fitted r (at + size) es ≡ written r (at + size) (row_bytes es) = fitted_all es r (at + size) (omega (arith, l)) in
    rw (le-leb (at + size) (length row) (omega arith)) (go ∙ ap (λ (j : ℕ). written r j (row_bytes es)) n ∙ two)
