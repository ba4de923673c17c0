-- The state of a file (01, 'The register'; 02, request 4: its edition). What is quoted is 01's, or
-- 02's where that is said.
use Rattle.std.specs.Prelude.{ℕ, ◌+◌, ◌-◌, ◌*◌, Bool, true, ◌&&◌, List, [], ◌∷◌, leb, ltb}
use Rattle.layouts.specs.Layout.{Layout, slots_on}
use Rattle.homes.specs.declared.Params.{Params}
use Rattle.homes.specs.Homes.{first_pages, home}
use Rattle.state.specs.declared.State.{State}

-- all of a list of tests
unfoldable pub all : List Bool → Bool
all [] = true
all (t ∷ ts) = t && all ts

-- "Ranges: n0 1 to 4, N 1 to 64, s 1 to 8, cap 1 to 4,096, n0 x N <= P <= cap, r <= 12 x cap." 02,
-- request 4: "The state carries the edition, 1 or 2". Twelve are the slots of a page.
abbrev pub ranges : Layout → State → List Bool
ranges f s =
    leb 1 s.params.n0 ∷ leb s.params.n0 4
    ∷ leb 1 s.params.n ∷ leb s.params.n 64
    ∷ leb 1 s.params.s ∷ leb s.params.s 8
    ∷ leb 1 s.params.edition ∷ leb s.params.edition 2
    ∷ leb 1 s.cap ∷ leb s.cap 4096
    ∷ leb (first_pages s.params) s.p ∷ leb s.p s.cap
    ∷ leb s.r (slots_on f s.cap)
    ∷ []

unfoldable pub in_range : Layout → State → Bool
in_range f s = all (ranges f s)

-- "Growth is due exactly when 5r > 48P", which is four times the slots of P pages; of a state out of
-- range "due answers no"
abbrev pub is_due : Layout → State → Bool
is_due f s = in_range f s && ltb (4 * slots_on f s.p) (5 * s.r)

-- the home of a key in a file of that state
abbrev pub homes : State → ℕ → ℕ
homes s K = home s.params s.p K

-- "empty file, P = n0 x N, r = 0"
abbrev pub fresh : Params → (cap : ℕ) → State
fresh q cap = record { params = q; p = first_pages q; cap = cap; r = 0 }

-- one record more
abbrev pub one_more : State → State
one_more s = record { params = s.params; p = s.p; cap = s.cap; r = s.r + 1 }

-- one record less
abbrev pub one_less : State → State
one_less s = record { params = s.params; p = s.p; cap = s.cap; r = s.r - 1 }

-- with so many records held
abbrev pub holding : State → (r : ℕ) → State
holding s r = record { params = s.params; p = s.p; cap = s.cap; r = r }

-- "one page more"
abbrev pub grown : State → State
grown s = record { params = s.params; p = s.p + 1; cap = s.cap; r = s.r }

-- 02, request 5: "from P to P - 1"
abbrev pub shrunk : State → State
shrunk s = record { params = s.params; p = s.p - 1; cap = s.cap; r = s.r }
