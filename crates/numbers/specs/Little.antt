-- Numbers of any width in bytes (01, 'Bytes of a page': "All numbers little-endian").
use Rattle.std.specs.Prelude.{ℕ, zero, suc, ◌+◌, ◌*◌, ◌/◌, ◌%◌, ◌<◌, List, [], ◌∷◌, ◌++◌, length, take, drop, get_or}

-- each element is a byte
abbrev pub Bytes : List ℕ → Type 0
Bytes bs = (k : ℕ) → k < length bs → get_or bs k 0 < 256

-- the number that bytes make, the lowest first
unfoldable pub little : List ℕ → ℕ
little [] = 0
little (x ∷ xs) = x + 256 * little xs

-- the lowest w bytes of a number, the lowest first
unfoldable pub bytes_of : ℕ → ℕ → List ℕ
bytes_of zero n = []
bytes_of (suc w) n = n % 256 ∷ bytes_of w (n / 256)

-- the number of w bytes at an offset
unfoldable pub number_at : ℕ → List ℕ → ℕ → ℕ
number_at w l at = little (take w (drop at l))

-- l with v in the place of as many of its bytes, from an offset on
unfoldable pub written : List ℕ → ℕ → List ℕ → List ℕ
written l at v = take at l ++ (v ++ drop (at + length v) l)
