-- The first pages of a space and the first counts of a row lent to a call, and what it left of them
-- back in their place.
use mathlib.Core.Path.{◌≡◌, refl, sym, ap, ◌∙◌}
use mathlib.Core.Bool.{false}
use mathlib.Core.List.{List, [], ◌++◌, append_assoc}
use Prim.Native.Nat.{ℕ, ◌*◌, ◌≤◌, min}
use native.Mathlib.Nat.{zero-add}
use native.Mathlib.Omega.{arith}
use lib.ListN.{length, take, drop, length-append, length-drop, length-take, take-append-drop}
use lib.Seq.{length-take-le, take_all, take-take, drop-append-le}
use Rattle.numbers.specs.Little.{written}
use Rattle.numbers.proofs.Laws.{written_same, written-nil}
use Rattle.state.specs.declared.State.{State}
use Rattle.register.specs.Files.{file_of, left, Left}
use Rattle.records.specs.declared.Command.{Command}
use Rattle.state.specs.declared.Done.{Done}
use Rattle.state.specs.declared.Numbers.{Numbers}
use Rattle.commands.specs.Execute.{site, call_of, lent_to, too_many, Executed, executed, told_of}
use Rattle.commands.specs.Steps.Within.{told_left}

-- what a call comes to on what it is lent: what is told, the bytes, and the row
abbrev pub Comes : Done Numbers → (area row filled : List ℕ) → Left → Type 0
Comes t area row filled l = (t ≡ told_left l) × ((area ≡ l.file.area) × (filled ≡ written row 0 l.row))

-- what is told of a command, and the bytes and the row that it leaves
abbrev pub Leaves : Done Numbers → (space row : List ℕ) → Executed → Type 0
Leaves t space row c = (t ≡ told_of c) × ((space ≡ c.site.space) × (row ≡ c.site.row))

-- n elements, or all where there are fewer, are the first n
lent_part : (n end : ℕ) (l : List ℕ) → end ≡ min n (length l) → take end l ≡ take n l
lent_part n end l is = sym (take-take end n l (omega arith)) ∙ take_all end (take n l) (omega (arith, length-take n l))

-- the first elements written over themselves change nothing
pub written_first : (n : ℕ) (l : List ℕ) → written l 0 (take n l) ≡ l
written_first n l = rw (lent_part n (min n (length l)) l refl) at (written_same (min n (length l)) l 0 (omega arith))

-- no element written changes nothing
pub none_written : (l : List ℕ) → written l 0 [] ≡ l
none_written l = written-nil l 0

-- a write at the start
at_start : (l v : List ℕ) → written l 0 v ≡ v ++ drop (length v) l
unfolding written
at_start l v = rw zero-add

-- a write over a part at the start, before the rest, is a write over the whole
part_back : (end : ℕ) (l v new : List ℕ) → new ≡ written (take end l) 0 v → length new ≡ length (take end l) → new ++ drop end l ≡ written l 0 v
part_back end l v new e same =
    let part : List ℕ = take end l in
    let is : new ≡ v ++ drop (length v) part = e ∙ at_start part v in
    let fits : length v ≤ length part = omega (arith, ap length is, same, length-append v (drop (length v) part), length-drop (length v) part) in
    rw (is, append_assoc, at_start l v) (ap (λ (z : List ℕ). v ++ z) (sym (drop-append-le (length v) part (drop end l) fits) ∙ ap (drop (length v)) (take-append-drop end l)))

-- so is a part that was left otherwise, before the rest
left_back : (end : ℕ) (l new : List ℕ) → end ≤ length l → length new ≡ length (take end l) → new ++ drop end l ≡ written l 0 new
left_back end l new h same = let k : length new ≡ end = same ∙ length-take-le end l h in rw (at_start l new, k)

-- a command is the call on its pages, and on a count for each
pub lent_back : (s : State) (space row : List ℕ) (c : Command) (pages end counts : ℕ) → too_many c ≡ false → pages ≡ lent_to s c
    → end ≡ min (256 * pages) (length space) → counts ≡ min pages (length row) → (t : Done Numbers) (new filled : List ℕ)
    → Comes t new (take counts row) filled (left (file_of s (take end space)) (call_of c (take counts row)))
    → length new ≡ length (take end space) → length filled ≡ length (take counts row)
    → Leaves t (new ++ drop end space) (filled ++ drop counts row) (executed (site s space row) c)
unfolding executed
lent_back s space row c pages end counts few is e k t new filled came same rsame =
    let o : Left = left (file_of s (take (256 * pages) space)) (call_of c (take pages row)) in
    let w : Comes t new (take pages row) filled o = rw (lent_part (256 * pages) end space e, lent_part pages counts row k) at came in
    rw (few, ← is) (w.0, (left_back end space new (omega arith) same ∙ ap (written space 0) w.1.0, part_back counts row o.row filled (w.1.1 ∙ ap (λ (z : List ℕ). written z 0 o.row) (sym (lent_part pages counts row k))) rsame))
