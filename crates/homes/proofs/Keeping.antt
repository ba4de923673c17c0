-- A page that is known to keep its keys does: after the homes of an old shape, new homes that follow
-- it agree with them.
use mathlib.Core.Bool.{true, false≢true}
use mathlib.Core.Path.{◌≡◌}
use Rattle.std.specs.Prelude.{Option, Some, None}
use mathlib.Core.Logic.{inl, inr}
use Prim.Native.Nat.{◌+◌}
use Rattle.homes.specs.declared.Shape.{Shape}
use Rattle.homes.specs.declared.new_homes.Beside.{Beside}
use Rattle.homes.specs.declared.new_homes.NewHomes.{NewHomes}
use Rattle.homes.specs.Homes.{Ready, shape_of, home_in}
use Rattle.homes.specs.Steps.NewHomes.{new_home, kept_by, keeps_at, Differ, Follows, Agrees}
use Rattle.homes.specs.Steps.Last.{last_step, stays_at}
use Rattle.homes.proofs.Last.{beside}

pub agrees : (old : Shape) (new : NewHomes) → Ready old → Ready new.shape → Follows old new new.stays → Agrees (home_in old) new
unfolding keeps_at
agrees old new r t f k a on = go new.stays f on
  where
    go : (s : Option Beside) → Follows old new s → kept_by new.shape s a ≡ true → (home_in old k ≡ a → new_home new k ≡ a) × (new_home new k ≡ a → home_in old k ≡ a)
    go None f on = absurd (false≢true on)
    go (Some b) f on = side f.2
      where
        on' : stays_at old.params.s (last_step (shape_of old.params (b.added + 1))) b.added a ≡ true
        on' = rw (f.1, f.0) at on

        side : Differ b.added old.p new.shape.p → (home_in old k ≡ a → new_home new k ≡ a) × (new_home new k ≡ a → home_in old k ≡ a)
        side (inl d) =
            let w = beside old.params b.added k a (rw d.0 at r) on' in
            rw (d.0, d.1, f.0) (w.0, w.1)
        side (inr d) =
            let w = beside old.params b.added k a (rw (d.1, f.0) at t) on' in
            rw (d.0, d.1, f.0) (w.1, w.0)
