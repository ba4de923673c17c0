-- The layout of a record: its numbers one after the other, each of a width of its own.
use Rattle.std.specs.Prelude.{ℕ, ◌+◌, Bool, true, ◌&&◌, List, [], ◌∷◌, ◌++◌, eqb}
use Rattle.numbers.specs.Little.{bytes_of, number_at}

-- a field: its width in bytes, and its number
abbrev pub Field : Type 0
Field = ℕ × ℕ

-- how many bytes the fields take
abbrev pub width : List Field → ℕ
width [] = 0
width (f ∷ fs) = f.0 + width fs

-- the bytes of the fields
unfoldable pub encode : List Field → List ℕ
encode [] = []
encode (f ∷ fs) = bytes_of f.0 f.1 ++ encode fs

-- whether the numbers from an offset on are those of the fields
abbrev pub matches : List ℕ → ℕ → List Field → Bool
matches l at [] = true
matches l at (f ∷ fs) = eqb (number_at f.0 l at) f.1 && matches l (at + f.0) fs
