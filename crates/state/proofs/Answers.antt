-- Which answer a put of a held key is given.
use mathlib.Core.Path.{◌≡◌}
use Prim.Native.Nat.{ℕ}
use borrow.Author.Tests.{eq-eqb, ne_eqb}
use Rattle.state.specs.declared.Refusal.TheVariants.{Held, Clash}
use Rattle.state.specs.Answer.{again}

module _ (offered held read : ℕ) where
  pub again_same : offered ≡ held → again offered held read ≡ Held held read
  again_same e = rw (eq-eqb offered held e)

  pub again_other : (offered ≡ held → ⊥) → again offered held read ≡ Clash held read
  again_other n = rw (ne_eqb offered held n)
