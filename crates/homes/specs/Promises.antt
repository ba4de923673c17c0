-- What is promised of the homes (01, 'Where a key lives'), for all numbers in range, every edition
-- and every key. What is quoted is 01's, or 02's where that is said.
use Rattle.std.specs.Prelude.{ℕ, ◌+◌, ◌-◌, ◌*◌, ◌%◌, ◌≤◌, ◌<◌, leb, ◌≡◌, ◌⊎◌}
use Rattle.homes.specs.declared.Params.{Params}
use Rattle.draws.specs.Draws.{seed_of, draw, later}
use Rattle.homes.specs.Homes.{np, mover, new_page, first_pages, home_within, home, InRange}

pub record HomesPromises : Type 0 where
  -- "draw 1 = 16807 x seed mod 2147483647, each next draw 16807 times the last, same modulus": so
  -- draw x of a key is its seed times draw x of the seed 1, a number that no key has a part in
  pub one_step : (K x : ℕ) → draw 1 x * seed_of K % 2147483647 ≡ draw (seed_of K) x
  -- "The key is a mover if draw x times (np + 1) is at most 2147483647." So it is in edition 1,
  pub edition_1 : (n0 K x : ℕ) → mover (later 1) n0 K x ≡ leb (draw (seed_of K) x * (np n0 x + 1)) 2147483647
  -- and 02, request 4: "From the new edition on, step x uses draw x + 10."
  pub edition_2 : (n0 K x : ℕ) → mover (later 2) n0 K x ≡ leb (draw (seed_of K) (x + 10) * (np n0 x + 1)) 2147483647
  -- "while F < P": the bound on the steps never cuts them short; any other that is no lower leads
  -- to the same page
  pub whole_loop : (left : ℕ) (q : Params) (P K : ℕ) → InRange q P → P - first_pages q ≤ left → home q P K ≡ home_within left q P K
  -- and in range forty of them are enough
  pub forty : (q : Params) (P K : ℕ) → InRange q P → home q P K ≡ home_within 40 q P K
  -- "If new < P, the address becomes new": so a home is one of the pages grown to
  pub home_below : (q : Params) (P K : ℕ) → InRange q P → home q P K < P
  -- "Going from P to P + 1, a home either stays or becomes P."
  pub home_grown : (q : Params) (P K : ℕ) → InRange q P → (home q (P + 1) K ≡ home q P K) ⊎ (home q (P + 1) K ≡ P)
  -- "the first new page is F", and "F grows by G": a new page is one of the G pages from F on
  pub new_range : (s F G address : ℕ) → 1 ≤ s → 1 ≤ G → (F ≤ new_page s F G address) × (new_page s F G address < F + G)
  -- "groups grow in the order .. into pages ..": each group into a page of its own
  pub new_differ : (s F G address other : ℕ) → 1 ≤ s → 1 ≤ G → new_page s F G address ≡ new_page s F G other → address % G ≡ other % G
  -- and the G groups into all of them, so that each of these pages is the new page of exactly one
  -- group
  pub new_fill : (s F G page : ℕ) → 1 ≤ s → F ≤ page → page < F + G → (group : ℕ) × (group < G) × (new_page s F G group ≡ page)
