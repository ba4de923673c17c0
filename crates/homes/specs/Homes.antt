-- Where a key lives: the section of that name of document 01, in its words and its order, from where
-- its draws are there (draws/specs/Draws.antt has them, and 02's editions). What is quoted is 01's.
use Rattle.std.specs.Prelude.{ℕ, zero, suc, ◌+◌, ◌-◌, ◌*◌, ◌/◌, ◌%◌, ◌≤◌, min, Bool, cond, ◌&&◌, leb, ltb, eqb}
use Rattle.draws.specs.Draws.{seed_of, draw, later}
use Rattle.homes.specs.declared.Params.{Params}

-- "np = n0 + ((x - 1) mod n0)"
abbrev pub np : ℕ → ℕ → ℕ
np n0 x = n0 + (x - 1) % n0

-- "The key is a mover if draw x times (np + 1) is at most 2147483647.": here draw x + d, by the
-- edition
unfoldable pub mover : (d n0 K x : ℕ) → Bool
mover d n0 K x = leb (draw (seed_of K) (x + d) * (np n0 x + 1)) 2147483647

-- "w = k mod s, new = F + w x (G div s) + min(w, G mod s) + (k div s)"
unfoldable pub swept : (s F G k : ℕ) → ℕ
swept s F G k = F + k % s * (G / s) + min (k % s) (G % s) + k / s

-- "k = G - 1 - (address mod G)", and the new page of that k
abbrev pub new_page : (s F G address : ℕ) → ℕ
new_page s F G address = swept s F G (G - 1 - address % G)

-- "For a mover: .. If new < P, the address becomes new."
unfoldable pub moved_to : (P : ℕ) → Bool → (new address : ℕ) → ℕ
moved_to P moves new address = cond (moves && ltb new P) new address

-- "if (x - 1) mod n0 = n0 - 1, G doubles"
unfoldable pub next_groups : (n0 x G : ℕ) → ℕ
next_groups n0 x G = cond (eqb ((x - 1) % n0) (n0 - 1)) (2 * G) G

-- The steps, over any test for a mover (of x and F) and any way to the new page (of F, G and the
-- address).
module _ (moves : ℕ → ℕ → Bool) (goes : ℕ → ℕ → ℕ → ℕ) (n0 P : ℕ) where
  -- "For x = 1, 2, .. while F < P", from step x on; "F grows by G" in each. At most `left` steps,
  -- of which there are always enough.
  unfoldable pub steps : (left x F G address : ℕ) → ℕ
  steps zero x F G a = a
  steps (suc left) x F G a =
      let on = steps left (suc x) (F + G) (next_groups n0 x G) (moved_to P (moves x F) (goes F G a) a) in
      cond (ltb F P) on a

-- the parameters of a file, from their numbers
abbrev pub params : (n0 N s edition : ℕ) → Params
params n0 N s edition = record { n0 = n0; n = N; s = s; edition = edition }

-- the pages of a file at the start
abbrev pub first_pages : Params → ℕ
first_pages q = q.n0 * q.n

-- "Start with address K mod (n0 x N), size F = n0 x N, groups G = N.": where at most `left` steps
-- are taken
abbrev pub home_within : (left : ℕ) → (q : Params) → (P K : ℕ) → ℕ
home_within left q P K =
    steps (λ x F. mover (later q.edition) q.n0 K x) (new_page q.s) q.n0 P left 1 (first_pages q) q.n (K % first_pages q)

-- Each step adds a page at least, so P - F of them reach P. "The last address is the home."
unfoldable pub home : (q : Params) → (P K : ℕ) → ℕ
home q P K = home_within (P - first_pages q) q P K

-- 01, 'The register': "Ranges: n0 1 to 4, N 1 to 64, s 1 to 8, cap 1 to 4,096, n0 x N <= P <= cap",
-- as far as a home depends on them
pub record InRange (q : Params) (P : ℕ) : Type 0 where
  pub n0_low : 1 ≤ q.n0
  pub n0_high : q.n0 ≤ 4
  pub n_low : 1 ≤ q.n
  pub n_high : q.n ≤ 64
  pub s_low : 1 ≤ q.s
  pub s_high : q.s ≤ 8
  pub p_low : q.n0 * q.n ≤ P
  pub p_high : P ≤ 4096

-- what a home depends on, as clauses see a shape
pub record Shape : Type 0 where
  pub params : Params
  pub p : ℕ

-- the shape of these numbers
abbrev pub shape_of : Params → (P : ℕ) → Shape
shape_of q P = record { params = q; p = P }

-- a shape whose numbers are in range
abbrev pub Ready : Shape → Type 0
Ready shape = InRange shape.params shape.p

-- the home of a key in a file of that shape
abbrev pub home_in : Shape → ℕ → ℕ
home_in shape K = home shape.params shape.p K
