-- The entries of pages: how many they are, and that they fit.
use mathlib.Core.Path.{◌≡◌, refl, ap}
use mathlib.Core.List.{List, [], ◌∷◌, ◌++◌}
use Prim.Native.Nat.{ℕ, zero, suc, ◌*◌, ◌^◌, ◌≤◌, ◌<◌}
use native.Mathlib.Omega.{arith}
use lib.ListN.{length, length-append}
use Rattle.layouts.specs.Layout.{in_use}
use Rattle.homes.specs.declared.Shape.{Shape}
use Rattle.homes.specs.Homes.{Ready, home_in}
use Rattle.homes.proofs.Homes.{home_below}
use Rattle.pages.specs.declared.Page.{Page}
use Rattle.pages.specs.Page.{Record, in_memory, records_in}
use Rattle.pages.specs.Area.{part_at, held_from}
use Rattle.pages.proofs.Memory.{page_count}
use Rattle.pages.proofs.Read.{held_few}
use Rattle.rebuild.specs.Steps.Rebuild.{slots, tagged, tagged_from}

pub tagged-append : (h : ℕ → ℕ) (a : ℕ) (p q : List Record) → tagged h a (p ++ q) ≡ tagged h a p ++ tagged h a q
tagged-append h a [] q = refl
tagged-append h a (x ∷ p) q = rw (tagged-append h a p q)

pub tagged-length : (h : ℕ → ℕ) (a : ℕ) (p : List Record) → length (tagged h a p) ≡ length p
tagged-length h a [] = refl
tagged-length h a (x ∷ p) = ap suc (tagged-length h a p)

-- a page that is read holds twelve records at most
pub page_few : (p : Page) (l : List ℕ) → p ≡ in_memory (records_in in_use l) → p.count ≤ 12
page_few p l e = omega (arith, page_count p (records_in in_use l) e, held_few in_use l)

-- twelve entries a page at most, which take less than its bytes
pub entries_few : (h : ℕ → ℕ) (area : List ℕ) (n a : ℕ) → length (tagged_from h a (held_from in_use area n a)) ≤ slots * n
entries_few h area zero a = omega arith
entries_few h area (suc n) a =
    let p : List Record = records_in in_use (part_at area a) in
    omega (arith, length-append (tagged h a p) (tagged_from h (suc a) (held_from in_use area n (suc a))), tagged-length h a p, held_few in_use (part_at area a), entries_few h area n (suc a))

-- a home fits two bytes
pub home_small : (shape : Shape) (k r : ℕ) → Ready shape → r ≡ home_in shape k → r < 2 ^ 16
home_small shape k r h e = omega (arith, e, home_below shape.params shape.p k h, h.p_high)
