-- Parts of bytes as the code lends them: an input from an offset on, and the place of a reply.
use mathlib.Core.Path.{◌≡◌}
use mathlib.Core.List.{List}
use Prim.Native.Nat.{ℕ, ◌+◌, ◌-◌, ◌*◌}
use native.Mathlib.Omega.{arith}
use lib.ListN.{length, take, drop, length-drop}
use lib.Seq.{take_all, drop-drop}
use borrow.Rule.Slice.PartMut.{put_mid}
use Rattle.numbers.specs.Little.{written}

-- the input from an offset on
abbrev pub from : List ℕ → ℕ → List ℕ
from l n = take (length l - n) (drop n l)

pub from-drop : (l : List ℕ) (n : ℕ) → from l n ≡ drop n l
from-drop l n = take_all (length l - n) (drop n l) (omega (arith, length-drop n l))

-- the bytes of a reply's place, and all bytes with others in that place
abbrev pub place : List ℕ → ℕ → List ℕ
place l k = take (28 * k + 28 - 28 * k) (drop (28 * k) l)

abbrev pub placed : List ℕ → ℕ → List ℕ → List ℕ
placed l k v = put_mid (28 * k) (28 * k + 28 - 28 * k) l v

-- a reply in its place is a write
pub placed-written : (l v : List ℕ) (k : ℕ) → length v ≡ 28 → placed l k v ≡ written l (28 * k) v
unfolding written
placed-written l v k n = let m : 28 * k + 28 - 28 * k ≡ length v = omega arith in rw (m, drop-drop)
