-- A file made empty, page by page.
use mathlib.Core.Path.{◌≡◌, ap, ◌∙◌}
use mathlib.Core.List.{List, [], ◌++◌, append_assoc}
use Prim.Native.Nat.{ℕ, suc, ◌+◌, ◌-◌, ◌*◌, ◌≤◌, ◌<◌}
use native.Mathlib.Numerals.{add-one}
use native.Mathlib.Omega.{arith}
use lib.ListN.{length, take, replicate}
use Rattle.numbers.proofs.Laws.{written_front}
use Rattle.layouts.specs.Layout.{in_use}
use Rattle.pages.specs.declared.Page.{Page}
use Rattle.pages.specs.Page.{page_bytes, in_memory}
use Rattle.pages.specs.Steps.Slots.{records_of}
use Rattle.pages.specs.Area.{area_from, with_page}
use Rattle.pages.proofs.Memory.{memory}
use Rattle.pages.proofs.Write.{page_length}
use Rattle.pages.proofs.Areas.{with_length}

-- the pages below a are empty, and those from a on are left to clear
pub record Cleared (cap : ℕ) (area : List ℕ) (a : ℕ) : Type 0 where
  pub low : a ≤ cap
  pub long : length area ≡ 256 * cap
  pub empty : take (256 * a) area ++ area_from in_use a (replicate (cap - a) []) ≡ area_from in_use 0 (replicate cap [])

-- a page more
pub clear_goes_on : {cap : ℕ} {area : List ℕ} {a : ℕ} → Cleared cap area a → a < cap → (p : Page) → p ≡ in_memory [] → (new : List ℕ) → new ≡ with_page in_use area a (records_of p)
    → Cleared cap new (a + 1)
clear_goes_on {cap} {area} {a} c l p blank new e =
    let m : new ≡ with_page in_use area a [] = e ∙ ap (λ (q : Page). with_page in_use area a (records_of q)) blank ∙ ap (with_page in_use area a) (memory []) in
    let n : 256 * (a + 1) ≡ 256 * a + length (page_bytes in_use a []) = omega (arith, page_length in_use a []) in
    let left : cap - a ≡ suc (cap - (a + 1)) = omega arith in
    let f : take (256 * (a + 1)) (with_page in_use area a []) ≡ take (256 * a) area ++ page_bytes in_use a [] = rw n (written_front area (256 * a) (page_bytes in_use a []) (omega (arith, c.long))) in
    record {
      low = omega arith;
      long = rw m (with_length in_use area a [] (omega (arith, c.long)) ∙ c.long);
      empty = rw (m, f, append_assoc, add-one) (rw (left, add-one) at c.empty);
    }
