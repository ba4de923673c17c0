-- Where both files pass: a clash decides, and then the row.
use mathlib.Core.Path.{◌≡◌, refl}
use mathlib.Core.Option.{none, some}
use mathlib.Core.List.{List}
use Prim.Native.Nat.{ℕ, ◌+◌}
use mathlib.Core.Bool.{Bool, true, false, cond}
use lib.Dec.{eqb}
use lib.ListN.{length}
use Rattle.std.specs.Prelude.{Ok, Err}
use Rattle.layouts.specs.Layout.{in_use, slots_of}
use Rattle.placing.specs.Lay.{taken}
use Rattle.placing.specs.Rows.{counts}
use Rattle.pages.specs.Page.{Record, key, home_for}
use Rattle.pages.specs.Area.{area_from}
use Rattle.rebuild.specs.Relaid.{laid_out}
use Rattle.state.specs.declared.State.{State}
use Rattle.state.specs.declared.Done.{Done}
use Rattle.state.specs.State.{homes, holding}
use Rattle.sites.specs.Held.{held_in, same}
use Rattle.two_sets.specs.Union.{union, lowest_clash}
use Rattle.merges.specs.declared.MergeRefusal.TheVariants.{Clash, NoRoom}
use Rattle.merges.specs.Merge.{Merged, done, Outcome, refused, joined, settled}
use Rattle.merges.proofs.Joining.{Comes}

-- with the row
abbrev pub Leaves : Done Merged → (area row : List ℕ) → Outcome → Type 0
Leaves r area row o = (r ≡ o.merge) × ((area ≡ o.area) × (row ≡ o.row))

module _ (s : State) (area row : List ℕ) (t : State) (other : List ℕ) where
  pub settle_clash : (k : ℕ) → some k ≡ lowest_clash key same (held_in in_use s area) (held_in in_use t other)
      → Leaves (done s (Err (Clash k (s.cap + t.cap)))) area row (settled in_use s area row t other)
  unfolding settled
  settle_clash k e = rw (← e) (refl, (refl, refl))

  pub settle_joins : none ≡ lowest_clash key same (held_in in_use s area) (held_in in_use t other)
      → (filled : List ℕ) → filled ≡ counts (home_for (homes s)) (union key (held_in in_use s area) (held_in in_use t other)) s.cap 0
      → (r : Done Merged) (new : List ℕ) → Comes r new (joined in_use s area (union key (held_in in_use s area) (held_in in_use t other)) (s.cap + t.cap))
      → Leaves r new filled (settled in_use s area row t other)
  unfolding settled joined
  settle_joins e filled f r new c = rw (← e) (go (eqb (taken (home_for (homes s)) (slots_of in_use) both s.cap) (length both)) c)
    where
      both : List Record
      both = union key (held_in in_use s area) (held_in in_use t other)

      laid : Outcome
      laid = record {
        merge = done (holding s (length both)) (Ok (record { read = s.cap + t.cap }));
        area = area_from in_use 0 (laid_out (slots_of in_use) (homes s) s.cap both);
        row = counts (home_for (homes s)) both s.cap 0;
      }

      full : Outcome
      full = refused s area (counts (home_for (homes s)) both s.cap 0) (NoRoom (s.cap + t.cap))

      -- the row is the same, with room and without
      go : (u : Bool) → Comes r new (cond u laid full) → Leaves r new filled (cond u laid full)
      go true c = (c.0, (c.1, f))
      go false c = (c.0, (c.1, f))
