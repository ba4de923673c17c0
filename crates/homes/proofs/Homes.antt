-- The laws of the homes of a file: a home is a page of it, and one page more leaves a key where it
-- is or takes it there.
--
use mathlib.Core.Path.{◌≡◌}
use mathlib.Core.Logic.{◌⊎◌, inl, inr, ⊎_elim}
use Prim.Native.Nat.{ℕ, ◌+◌, ◌-◌, ◌%◌, ◌<◌}
use native.Mathlib.Nat.{mod-lt, mul-pos}
use native.Mathlib.Omega.{arith}
use Rattle.homes.specs.declared.Params.{Params}
use Rattle.draws.specs.Draws.{later}
use Rattle.homes.specs.Homes.{mover, new_page, first_pages, home, InRange, shape_of}
use Rattle.homes.specs.Steps.Last.{last_of, last_step}
use Rattle.homes.proofs.New.{new_low, new_high}
use Rattle.homes.proofs.Steps.{Into, grown_to, grown_cases, steps_below, grown}

-- The sweeps lead to a page that the step adds.
pub new_into : (s : ℕ) → 0 < s → Into (new_page s)
new_into s h = record { low = new_low s; high = λ F G a h_g. new_high s F G a h h_g }

-- The page that a key starts from is one of the first.
first_below : (q : Params) (P K : ℕ) → InRange q P → K % first_pages q < first_pages q
first_below q P K r = mod-lt K (mul-pos r.n0_low r.n_low)

-- A home is a page of the file.
pub home_below : (q : Params) (P K : ℕ) → InRange q P → home q P K < P
unfolding home
home_below q P K r =
    steps_below (λ x F. mover (later q.edition) q.n0 K x) (new_page q.s) q.n0 P (P - first_pages q) 1 (first_pages q) q.n (K % first_pages q) (omega (arith, first_below q P K r, r.p_low))

-- With one page more a key's home is what the last step makes of it.
pub home_more : (q : Params) (P K : ℕ) → InRange q P → let last = last_of (shape_of q (P + 1)) in home q (P + 1) K ≡ grown_to (new_page q.s) P last.stage.f last.stage.g (mover (later q.edition) q.n0 K last.x) (home q P K)
unfolding home
home_more q P K r =
    grown (λ x F. mover (later q.edition) q.n0 K x) (new_page q.s) (new_into q.s r.s_low) q.n0 P 1 (first_pages q) q.n (K % first_pages q) (first_below q P K r) r.n_low

-- So it stays, or becomes that page, where the last step leads there from it.
pub home_cases : (q : Params) (P K : ℕ) → InRange q P → let last = last_step (shape_of q (P + 1)) in (home q (P + 1) K ≡ home q P K) ⊎ ((home q (P + 1) K ≡ P) × (new_page q.s last.f last.g (home q P K) ≡ P))
home_cases q P K r =
    let last = last_of (shape_of q (P + 1)) in
    rw (home_more q P K r) (grown_cases (new_page q.s) P last.stage.f last.stage.g (mover (later q.edition) q.n0 K last.x) (home q P K))

-- In short: it stays or becomes that page.
pub home_grown : (q : Params) (P K : ℕ) → InRange q P → (home q (P + 1) K ≡ home q P K) ⊎ (home q (P + 1) K ≡ P)
home_grown q P K r = ⊎_elim inl (λ w. inr w.0) (home_cases q P K r)
