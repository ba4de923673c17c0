-- The laws of little-endian numbers and of writes at an offset, once over the width.
use mathlib.Core.Path.{◌≡◌, refl, sym, ap, ◌∙◌}
use mathlib.Core.List.{List, [], ◌∷◌, ◌++◌, append_assoc, append-nil}
use Prim.Native.Nat.{ℕ, zero, suc, ◌+◌, ◌*◌, ◌-◌, ◌/◌, ◌%◌, ◌^◌, ◌≤◌, ◌<◌}
use native.Mathlib.Nat.{add_assoc, add-zero, zero-add, pow-suc}
use native.Mathlib.Numerals.{add-one}
use native.Mathlib.Omega.{arith}
use lib.ListN.{length, take, drop, get_or, set, length-append, length-take, length-drop, take-append-drop, get_or-append}
use lib.Seq.{take-append-le, drop-append-le, drop-cons, drop-drop, drop-length, length-take-le, take_at, drop_at, take-append_seam, get_or-take, get_or-drop, set_split}
use Rattle.numbers.specs.Little.{Bytes, little, bytes_of, number_at, written}

-- the bytes of a number are bytes
pub bytes_of_lem : (w x : ℕ) → Bytes (bytes_of w x)
unfolding bytes_of
bytes_of_lem zero x k h = omega arith
bytes_of_lem (suc w) x zero h = omega arith
bytes_of_lem (suc w) x (suc k) h = bytes_of_lem w (x / 256) k (omega arith)

-- bytes and then bytes are bytes
pub bytes_append : (a b : List ℕ) → Bytes a → Bytes b → Bytes (a ++ b)
bytes_append [] b ha hb k h = hb k h
bytes_append (x ∷ a) b ha hb zero h = ha 0 (omega arith)
bytes_append (x ∷ a) b ha hb (suc k) h = bytes_append a b (λ j l. ha (suc j) (omega arith)) hb k (omega arith)

-- so are the first of them, those that are left, and those between
pub bytes_take : (n : ℕ) (l : List ℕ) → Bytes l → Bytes (take n l)
bytes_take n l b k h =
    let below : k < n = omega (arith, length-take n l) in
    rw get_or-take (b k (omega (arith, length-take n l)))

pub bytes_drop : (n : ℕ) (l : List ℕ) → Bytes l → Bytes (drop n l)
bytes_drop n l b k h = rw get_or-drop (b (n + k) (omega (arith, length-drop n l)))

bytes_part : (w : ℕ) (l : List ℕ) (at : ℕ) → Bytes l → Bytes (take w (drop at l))
bytes_part w l at b = bytes_take w (drop at l) (bytes_drop at l b)

-- a number of w bytes has w bytes
pub length_bytes : (w x : ℕ) → length (bytes_of w x) ≡ w
unfolding bytes_of
length_bytes zero x = refl
length_bytes (suc w) x = ap suc (length_bytes w (x / 256))

-- the bytes of a number that fits make that number
pub little_bytes : (w x : ℕ) → x < 256 ^ w → little (bytes_of w x) ≡ x
unfolding little bytes_of
little_bytes zero x h = omega arith
little_bytes (suc w) x h =
    let e : 256 ^ suc w ≡ 256 ^ w * 256 = pow-suc 256 w in
    let r : little (bytes_of w (x / 256)) ≡ x / 256 = little_bytes w (x / 256) (omega arith) in
    omega arith

-- and the number that bytes make has those bytes
pub bytes_little : (bs : List ℕ) → Bytes bs → bytes_of (length bs) (little bs) ≡ bs
unfolding little bytes_of
bytes_little [] h = refl
bytes_little (b ∷ bs) h =
    let h₀ : b < 256 = h 0 (omega arith) in
    let q : (b + 256 * little bs) / 256 ≡ little bs = omega arith in
    let m : (b + 256 * little bs) % 256 ≡ b = omega arith in
    rw (m, q, bytes_little bs (λ k l. h (suc k) (omega arith)))

-- bytes make a number that fits as many bytes
pub little_bound : (bs : List ℕ) → Bytes bs → little bs < 256 ^ length bs
unfolding little
little_bound [] h = omega arith
little_bound (b ∷ bs) h =
    let h₀ : b < 256 = h 0 (omega arith) in
    let e : 256 ^ suc (length bs) ≡ 256 ^ length bs * 256 = pow-suc 256 (length bs) in
    let r : little bs < 256 ^ length bs = little_bound bs (λ k l. h (suc k) (omega arith)) in
    omega arith

-- what is read of w bytes at an offset has w bytes
pub length_part : (w : ℕ) (l : List ℕ) (at : ℕ) → at + w ≤ length l → length (take w (drop at l)) ≡ w
length_part w l at h = simp (length-take, length-drop) (omega arith)

-- the number of w bytes fits w bytes
pub number_bound : (w : ℕ) (l : List ℕ) (at : ℕ) → at + w ≤ length l → Bytes l → number_at w l at < 256 ^ w
unfolding number_at
number_bound w l at h b = rw (length_part w l at h) at (little_bound (take w (drop at l)) (bytes_part w l at b))

-- a number with one byte more in front
pub number_cons : (w : ℕ) (l : List ℕ) (at : ℕ) → at < length l → number_at (w + 1) l at ≡ get_or l at 0 + 256 * number_at w l (at + 1)
unfolding number_at little
number_cons w l at h = rw (add-one w, drop-cons l at 0 h, add-one at)

-- a number within bytes is the same with more behind them
pub number_front : (w : ℕ) (l m : List ℕ) (at : ℕ) → at + w ≤ length l → number_at w (l ++ m) at ≡ number_at w l at
unfolding number_at
number_front w l m at h =
    let n : w ≤ length (drop at l) = omega (arith, length-drop at l) in
    rw (drop-append-le at l m (omega arith), take-append-le w (drop at l) m n)

-- the number whose bytes stand between others
pub number_between : (w x : ℕ) (p q : List ℕ) (at : ℕ) → length p ≡ at → x < 256 ^ w → number_at w (p ++ (bytes_of w x ++ q)) at ≡ x
unfolding number_at
number_between w x p q at n f =
    rw (drop_at p (bytes_of w x ++ q) at n, take_at (bytes_of w x) q w (length_bytes w x), little_bytes w x f)

-- a write's end is as far as the part before it is long
length_front : (l : List ℕ) (at : ℕ) (v : List ℕ) → at ≤ length l → length (take at l ++ v) ≡ at + length v
length_front l at v h = simp (length-append, length-take) (omega arith)

-- a write keeps the length
pub written-length : (l : List ℕ) (at : ℕ) (v : List ℕ) → at + length v ≤ length l → length (written l at v) ≡ length l
unfolding written
written-length l at v h = simp (length-append, length-take, length-drop) (omega arith)

-- a write of bytes to bytes leaves bytes
pub written_bytes : (l : List ℕ) (at : ℕ) (v : List ℕ) → Bytes l → Bytes v → Bytes (written l at v)
unfolding written
written_bytes l at v b c =
    bytes_append (take at l) (v ++ drop (at + length v) l) (bytes_take at l b)
    (bytes_append v (drop (at + length v) l) c (bytes_drop (at + length v) l b))

-- a write changes no byte below its offset
pub written_below : (l : List ℕ) (at : ℕ) (v : List ℕ) (k : ℕ) → at ≤ length l → k < at → get_or (written l at v) k 0 ≡ get_or l k 0
unfolding written
written_below l at v k h lt =
    let n : length (take at l) ≡ at = length-take-le at l h in
    get_or-append (take at l) (v ++ drop (at + length v) l) 0 k (omega arith) ∙ get_or-take at l k 0 lt

-- what stands before the end of a write
pub written_front : (l : List ℕ) (at : ℕ) (v : List ℕ) → at ≤ length l → take (at + length v) (written l at v) ≡ take at l ++ v
unfolding written
written_front l at v h =
    rw (← append_assoc) (take_at (take at l ++ v) (drop (at + length v) l) (at + length v) (length_front l at v h))

-- what stands from the end of a write on is what stood there
pub written_after : (l : List ℕ) (at : ℕ) (v : List ℕ) → at ≤ length l → drop (at + length v) (written l at v) ≡ drop (at + length v) l
unfolding written
written_after l at v h =
    rw (← append_assoc) (drop_at (take at l ++ v) (drop (at + length v) l) (at + length v) (length_front l at v h))

-- so a write changes no byte from its end on
pub written_above : (l : List ℕ) (at : ℕ) (v : List ℕ) (k : ℕ) → at ≤ length l → at + length v ≤ k → get_or (written l at v) k 0 ≡ get_or l k 0
written_above l at v k h le =
    let j : ℕ = k - (at + length v) in
    let e : at + length v + j ≡ k = omega arith in
    rw (← e, ← get_or-drop (at + length v) (written l at v), written_after, get_or-drop)

-- what stands at the offset after a write is what was written
pub written_at : (l : List ℕ) (at : ℕ) (v : List ℕ) → at ≤ length l → take (length v) (drop at (written l at v)) ≡ v
unfolding written
written_at l at v h =
    rw (drop_at (take at l) (v ++ drop (at + length v) l) at (length-take-le at l h), take-append_seam)

-- a write of nothing changes nothing
pub written-nil : (l : List ℕ) (at : ℕ) → written l at [] ≡ l
unfolding written
written-nil l at = rw add-zero (take-append-drop at l)

-- a write over the whole leaves what was written
pub written_all : (l v : List ℕ) → length v ≡ length l → written l 0 v ≡ v
unfolding written
written_all l v h = rw (zero-add, h, drop-length, append-nil)

-- a write of what stands there changes nothing
pub written_same : (w : ℕ) (l : List ℕ) (at : ℕ) → at + w ≤ length l → written l at (take w (drop at l)) ≡ l
unfolding written
written_same w l at h = rw (length_part w l at h, ← drop-drop, take-append-drop, take-append-drop)

-- two writes, the second where the first ends, are one
pub written-written : (l : List ℕ) (at : ℕ) (v w : List ℕ) → at ≤ length l
    → written (written l at v) (at + length v) w ≡ written l at (v ++ w)
unfolding written
written-written l at v w h =
    rw
    (written_front l at v h, ← drop-drop (length w) (at + length v), written_after l at v h, drop-drop, length-append, add_assoc)
    (simp append_assoc)

-- and so are two where the first begins where the second ends
pub written_before : (l : List ℕ) (at : ℕ) (v w : List ℕ) → at + length v ≤ length l
    → written (written l (at + length v) w) at v ≡ written l at (v ++ w)
unfolding written
written_before l at v w h =
    let n : ℕ = at + length v in
    let rest : List ℕ = w ++ drop (n + length w) l in
    let k : length (take n l) ≡ n = length-take-le n l h in
    let low : take at (take n l ++ rest) ≡ take at l =
    take-append-le at (take n l) rest (omega arith) ∙ sym (take-append-le at (take n l) (drop n l) (omega arith)) ∙ rw take-append-drop in
    rw (low, drop_at (take n l) rest n k, length-append, ← add_assoc) (simp append_assoc)

-- a byte stored is a write of one byte
pub written_one : (l : List ℕ) (at b : ℕ) → at < length l → set l at b ≡ written l at (b ∷ [])
unfolding written
written_one l at b h = set_split l at b h ∙ rw add-one

-- a byte stored, and then the others behind it
pub written-cons : (l : List ℕ) (at b : ℕ) (v : List ℕ) → at < length l → written (set l at b) (at + 1) v ≡ written l at (b ∷ v)
written-cons l at b v h = rw written_one (written-written l at (b ∷ []) v (omega arith))

-- a number that fits is read back where it was written
pub read_back : (w x : ℕ) (l : List ℕ) (at : ℕ) → at + w ≤ length l → x < 256 ^ w → number_at w (written l at (bytes_of w x)) at ≡ x
unfolding written
read_back w x l at h f =
    number_between w x (take at l) (drop (at + length (bytes_of w x)) l) at (length-take-le at l (omega arith)) f

-- the bytes of the number that stands at an offset are those that stand there
pub bytes_number : (w : ℕ) (l : List ℕ) (at : ℕ) → at + w ≤ length l → Bytes l → bytes_of w (number_at w l at) ≡ take w (drop at l)
unfolding number_at
bytes_number w l at h b = rw (length_part w l at h) at (bytes_little (take w (drop at l)) (bytes_part w l at b))

-- so a number written back where it was read changes nothing
pub write_back : (w : ℕ) (l : List ℕ) (at : ℕ) → at + w ≤ length l → Bytes l → written l at (bytes_of w (number_at w l at)) ≡ l
write_back w l at h b = rw bytes_number (written_same w l at h)
