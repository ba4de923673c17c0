-- The laws of lists of fields, for any widths.
use mathlib.Core.Path.{◌≡◌, refl, sym, ap, ◌∙◌}
use mathlib.Core.Bool.{Bool, true, false, ◌&&◌, and_assoc}
use mathlib.Core.List.{List, [], ◌∷◌, ◌++◌, append_assoc}
use Prim.Native.Nat.{ℕ, ◌+◌, ◌^◌, ◌≤◌, ◌<◌}
use native.Mathlib.Nat.{add_assoc, add-zero}
use native.Mathlib.Omega.{arith}
use borrow.Author.Tests.{eqb-true, eq-eqb}
use lib.Dec.{eqb}
use lib.ListN.{length, take, drop, length-append}
use lib.Seq.{take-add, drop-drop}
use Rattle.numbers.specs.Little.{Bytes, bytes_of, number_at, written}
use Rattle.numbers.specs.Fields.{Field, width, encode, matches}
use Rattle.numbers.proofs.Laws.{bytes_of_lem, bytes_append, length_bytes, bytes_number, number_between, written-length, written-nil, written-written}

-- each number fits its width
abbrev pub Fit : List Field → Type 0
Fit [] = Unit
Fit (f ∷ fs) = (f.1 < 256 ^ f.0) × Fit fs

-- the fields stored one after the other from an offset on
abbrev pub puts : List ℕ → ℕ → List Field → List ℕ
puts l at [] = l
puts l at (f ∷ fs) = puts (written l at (bytes_of f.0 f.1)) (at + f.0) fs

pub fit_append : (fs gs : List Field) → Fit fs → Fit gs → Fit (fs ++ gs)
fit_append [] gs k g = g
fit_append (f ∷ fs) gs k g = (k.0, fit_append fs gs k.1 g)

-- two lists of fields take the bytes of both
pub width-append : (fs gs : List Field) → width (fs ++ gs) ≡ width fs + width gs
width-append [] gs = omega arith
width-append (f ∷ fs) gs = omega (arith, width-append fs gs)

-- the bytes of the fields are as many as their width says
pub length-encode : (fs : List Field) → length (encode fs) ≡ width fs
unfolding encode
length-encode [] = refl
length-encode (f ∷ fs) = rw (length-append, length_bytes, length-encode fs)

-- and they are bytes
pub bytes_encode : (fs : List Field) → Bytes (encode fs)
unfolding encode
bytes_encode [] = λ k h. omega arith
bytes_encode (f ∷ fs) = bytes_append (bytes_of f.0 f.1) (encode fs) (bytes_of_lem f.0 f.1) (bytes_encode fs)

-- the bytes of two lists of fields, one after the other
pub encode-append : (fs gs : List Field) → encode (fs ++ gs) ≡ encode fs ++ encode gs
unfolding encode
encode-append [] gs = refl
encode-append (f ∷ fs) gs = rw (encode-append fs gs, append_assoc)

-- the fields stored one after the other are one write of their bytes
pub puts-written : (fs : List Field) (l : List ℕ) (at : ℕ) → at + width fs ≤ length l → puts l at fs ≡ written l at (encode fs)
unfolding encode
puts-written [] l at h = sym (written-nil l at)
puts-written (f ∷ fs) l at h =
    let v : List ℕ = bytes_of f.0 f.1 in
    let n : length v ≡ f.0 = length_bytes f.0 f.1 in
    let k : length (written l at v) ≡ length l = written-length l at v (omega arith) in
    puts-written fs (written l at v) (at + f.0) (omega arith)
    ∙ rw n at (written-written l at v (encode fs) (omega arith))

-- where both of two tests hold, each does
pub and_left : (a b : Bool) → (a && b) ≡ true → a ≡ true
and_left true b e = refl
and_left false b e = e

pub and_right : (a b : Bool) → (a && b) ≡ true → b ≡ true
and_right true b e = e
and_right false b e = cc

-- where fields match, the number at the offset is the first field's
pub match_first : (w x : ℕ) (fs : List Field) (l : List ℕ) (at : ℕ) → matches l at ((w, x) ∷ fs) ≡ true → number_at w l at ≡ x
match_first w x fs l at e =
    eqb-true (number_at w l at) x (and_left (eqb (number_at w l at) x) (matches l (at + w) fs) e)

-- and the others match behind it
pub match_rest : (w x : ℕ) (fs : List Field) (l : List ℕ) (at : ℕ) → matches l at ((w, x) ∷ fs) ≡ true → matches l (at + w) fs ≡ true
match_rest w x fs l at e = and_right (eqb (number_at w l at) x) (matches l (at + w) fs) e

-- where the numbers match, the bytes are the fields'
pub matches_sound : (fs : List Field) (l : List ℕ) (at : ℕ) → Bytes l → at + width fs ≤ length l → matches l at fs ≡ true
    → take (width fs) (drop at l) ≡ encode fs
unfolding encode
matches_sound [] l at b h e = refl
matches_sound (f ∷ fs) l at b h e =
    let q : number_at f.0 l at ≡ f.1 = match_first f.0 f.1 fs l at e in
    let first : bytes_of f.0 f.1 ≡ take f.0 (drop at l) = rw q at (bytes_number f.0 l at (omega arith) b) in
    let m : matches l (at + f.0) fs ≡ true = match_rest f.0 f.1 fs l at e in
    rw (take-add, drop-drop, matches_sound fs l (at + f.0) b (omega arith) m, first)

-- where the bytes are the fields', and each number fits, the numbers match
pub matches_complete : (fs : List Field) (p q : List ℕ) (at : ℕ) → length p ≡ at → Fit fs → matches (p ++ (encode fs ++ q)) at fs ≡ true
unfolding encode
matches_complete [] p q at n h = refl
matches_complete (f ∷ fs) p q at n h =
    let v : List ℕ = bytes_of f.0 f.1 in
    let first : number_at f.0 (p ++ (v ++ (encode fs ++ q))) at ≡ f.1 = number_between f.0 f.1 p (encode fs ++ q) at n h.0 in
    let k : length (p ++ v) ≡ at + f.0 = rw (length-append, n, length_bytes) in
    let rest : matches ((p ++ v) ++ (encode fs ++ q)) (at + f.0) fs ≡ true = matches_complete fs (p ++ v) q (at + f.0) k h.1 in
    let whole : matches (p ++ (v ++ (encode fs ++ q))) at (f ∷ fs) ≡ true = rw (first, eq-eqb f.1 f.1 refl) (rw append_assoc at rest) in
    ap (λ (z : List ℕ). matches (p ++ z) at (f ∷ fs)) (append_assoc v (encode fs) q) ∙ whole

-- two lists of fields match where the first matches, and the second behind it
pub matches-append : (fs gs : List Field) (l : List ℕ) (at : ℕ)
    → matches l at (fs ++ gs) ≡ (matches l at fs && matches l (at + width fs) gs)
matches-append [] gs l at = rw add-zero
matches-append (f ∷ fs) gs l at = rw (matches-append fs gs l (at + f.0), and_assoc, add_assoc)

-- what fields that match say of one of them
pub match_at : (fs : List Field) (w x : ℕ) (gs : List Field) (l : List ℕ) (at : ℕ) → matches l at (fs ++ ((w, x) ∷ gs)) ≡ true
    → number_at w l (at + width fs) ≡ x
match_at fs w x gs l at e =
    match_first w x gs l (at + width fs)
    (and_right (matches l at fs) (matches l (at + width fs) ((w, x) ∷ gs)) (rw matches-append at e))
