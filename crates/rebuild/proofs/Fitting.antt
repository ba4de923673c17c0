-- The entries of an area's pages fit their bytes.
use mathlib.Core.List.{List, [], ◌∷◌}
use Prim.Native.Nat.{ℕ, zero, suc, ◌+◌, ◌*◌, ◌^◌, ◌≤◌, ◌<◌}
use native.Mathlib.Omega.{arith}
use lib.ListN.{length}
use Rattle.numbers.specs.Little.{Bytes}
use Rattle.layouts.specs.Layout.{in_use}
use Rattle.placing.specs.Image.{All}
use Rattle.placing.proofs.Lists.{all_append}
use Rattle.pages.specs.Page.{Record, key, records_in}
use Rattle.pages.specs.Area.{part_at, held_from}
use Rattle.pages.specs.Small.{Small}
use Rattle.pages.proofs.Bounds.{part_small}
use Rattle.entries.proofs.Entries.{SizedEntry}
use Rattle.rebuild.specs.Steps.Rebuild.{tagged, tagged_from}

pub tagged_fit : (h : ℕ → ℕ) (a : ℕ) (p : List Record) → ((k : ℕ) → h k < 2 ^ 16) → a < 2 ^ 16 → All (Small in_use) p → All SizedEntry (tagged h a p)
tagged_fit h a [] low l k = tt
tagged_fit h a (x ∷ p) low l k = (record { home = low (key x); from = l; held = k.0 }, tagged_fit h a p low l k.1)

pub held_fit : (h : ℕ → ℕ) (area : List ℕ) (n a : ℕ) → ((k : ℕ) → h k < 2 ^ 16) → Bytes area → 256 * (a + n) ≤ length area → a + n ≤ 4096
    → All SizedEntry (tagged_from h a (held_from in_use area n a))
held_fit h area zero a low b e l = tt
held_fit h area (suc n) a low b e l =
    all_append SizedEntry (tagged h a (records_in in_use (part_at area a))) (tagged_from h (suc a) (held_from in_use area n (suc a)))
    (tagged_fit h a (records_in in_use (part_at area a)) low (omega arith) (part_small in_use area a (omega arith) b))
    (held_fit h area n (suc a) low b (omega arith) (omega arith))
