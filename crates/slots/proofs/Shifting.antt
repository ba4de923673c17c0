-- Bytes moved up or down within a list, one by one, are one write of them all.
use mathlib.Core.Path.{◌≡◌, ap, ◌∙◌}
use mathlib.Core.List.{List, [], ◌∷◌, ◌++◌}
use Prim.Native.Nat.{ℕ, suc, ◌+◌, ◌-◌, ◌≤◌, ◌<◌}
use native.Mathlib.Omega.{arith}
use lib.ListN.{length, take, drop, get_or, set, length-drop}
use lib.Seq.{take-suc, drop-cons, get_or-drop}
use Rattle.numbers.specs.Little.{written}
use Rattle.numbers.proofs.Laws.{length_part, written-nil, written-length, written_below, written_above, written_one, written-written, written_before}

-- the bytes from one place up to another
abbrev pub between : List ℕ → (start end : ℕ) → List ℕ
between l start end = take (end - start) (drop start l)

-- of none of them nothing is moved
pub moved_none : (l : List ℕ) (at start end : ℕ) → end ≤ start → written l at (between l start end) ≡ l
moved_none l at start end h =
    let z : end - start ≡ 0 = omega arith in
    rw z (written-nil l at)

module _ (l : List ℕ) (end by : ℕ) (fits : end + by ≤ length l) where
  -- byte j is moved up where those after it have been
  pub moved_up : (m : List ℕ) (i j : ℕ) → i ≡ j + 1 → i ≤ end → m ≡ written l (i + by) (between l i end)
      → set m (j + by) (get_or m j 0) ≡ written l (j + by) (between l j end)
  moved_up m i j e h is =
      let at : ℕ = j + by in
      let v : List ℕ = between l i end in
      let n : length v ≡ end - i = length_part (end - i) l i (omega arith) in
      let to : i + by ≡ at + 1 = omega arith in
      let same : get_or m j 0 ≡ get_or l j 0 = rw is (written_below l (i + by) v j (omega arith) (omega arith)) in
      let more : length m ≡ length l = ap length is ∙ written-length l (i + by) v (omega arith) in
      let k : end - j ≡ suc (end - i) = omega arith in
      let s : suc j ≡ i = omega arith in
      let whole : between l j end ≡ get_or l j 0 ∷ v = rw (k, drop-cons l j 0 (omega arith), s) in
      written_one m at (get_or m j 0) (omega arith)
      ∙ rw (same, is, to, whole) (written_before l at (get_or l j 0 ∷ []) v (omega arith))

module _ (l : List ℕ) (start by : ℕ) (low : by ≤ start) where
  -- the bytes up to byte i, and that one
  between_more : (i : ℕ) → start ≤ i → i < length l → between l start (i + 1) ≡ between l start i ++ (get_or l i 0 ∷ [])
  between_more i h fits =
      let k : i + 1 - start ≡ suc (i - start) = omega arith in
      let s : start + (i - start) ≡ i = omega arith in
      rw (k, take-suc (drop start l) (i - start) 0 (omega (arith, length-drop start l)), get_or-drop, s)

  -- byte i is moved down where those before it have been
  pub moved_down : (m : List ℕ) (i : ℕ) → start ≤ i → i < length l → m ≡ written l (start - by) (between l start i)
      → set m (i - by) (get_or m i 0) ≡ written l (start - by) (between l start (i + 1))
  moved_down m i h fits is =
      let at : ℕ = start - by in
      let v : List ℕ = between l start i in
      let n : length v ≡ i - start = length_part (i - start) l start (omega arith) in
      let to : i - by ≡ at + length v = omega arith in
      let same : get_or m i 0 ≡ get_or l i 0 = rw is (written_above l at v i (omega arith) (omega arith)) in
      let more : length m ≡ length l = ap length is ∙ written-length l at v (omega arith) in
      let lies : i - by < length m = omega arith in
      written_one m (i - by) (get_or m i 0) lies
      ∙ rw (same, is, to, between_more i h fits) (written-written l at v (get_or l i 0 ∷ []) (omega arith))
