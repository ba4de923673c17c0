-- The second phase of a put, page by page.
use mathlib.Core.Path.{◌≡◌, refl, sym, ap, ◌∙◌}
use mathlib.Core.Bool.{true}
use mathlib.Core.List.{List}
use Prim.Native.Nat.{ℕ, zero, suc, ◌+◌, ◌*◌, ◌-◌, ◌≤◌, ◌<◌}
use native.Mathlib.Numerals.{add-one}
use native.Mathlib.Omega.{arith}
use lib.ListN.{length, take, get_or}
use Rattle.layouts.specs.Layout.{in_use}
use Rattle.placing.specs.Lay.{rank_in, ins}
use Rattle.pages.specs.Page.{Record, key, rank, records_in, well_formed}
use Rattle.pages.specs.Places.{ahead}
use Rattle.pages.specs.Steps.Slots.{opened}
use Rattle.pages.specs.Area.{part_at, with_page}
use Rattle.pages.proofs.Read.{held_few}
use Rattle.pages.proofs.Places.{ins-opened}
use Rattle.pages.proofs.Areas.{with_length, part_other}
use Rattle.walks.specs.Walks.{writes}
use Rattle.walks.specs.Steps.Plans.{slots, held, seam, poured, Formed}
use Rattle.walks.proofs.Seams.{to_front}

-- the pages from page a on are as they were
abbrev pub Untouched : (start area : List ℕ) → ℕ → Type 0
Untouched start area a = (b : ℕ) → a ≤ b → part_at area b ≡ part_at start b

-- a page written in an area leaves the length and the pages after it
module _ (area new : List ℕ) (a : ℕ) (p : List Record) (e : new ≡ with_page in_use area a p) (fits : 256 * (a + 1) ≤ length area) where
  pub stored_length : length new ≡ length area
  stored_length = ap length e ∙ with_length in_use area a p fits

  pub stored_same : (entry : List ℕ) → Untouched entry area a → Untouched entry new (a + 1)
  stored_same entry same b l = rw e (part_other in_use area a p fits b (λ q. omega arith)) ∙ same b (omega arith)

-- so a page that was well formed and is not touched yet is
pub still_formed : (start area : List ℕ) (first last a b : ℕ) → Formed start first last → Untouched start area a → first ≤ b → a ≤ b → b ≤ last
    → well_formed in_use b (part_at area b) ≡ true
still_formed start area first last a b w same f l m = rw (same b l) (w b f m)

-- what is poured from page a on goes by the pages from there on
poured_same : (h : ℕ → ℕ) (start area : List ℕ) (n a : ℕ) (x : Record) → Untouched start area a → poured h area n a x ≡ poured h start n a x
poured_same h start area zero a x same = refl
poured_same h start area (suc n) a x same =
    rw (same a (omega arith), poured_same h start area n (suc a) (get_or (ins (rank_in key h) x (held start a)) slots x) (λ b l. same b (omega arith)))

module _ (h : ℕ → ℕ) (area to : List ℕ) (a last : ℕ) (x over : Record) (l : a ≤ last) where
  -- a page written with record x in its place, the pages after it are left, for the record that goes on
  pub pour_turn : over ≡ get_or (ins (rank_in key h) x (held area a)) slots x → to ≡ with_page in_use area a (take slots (ins (rank_in key h) x (held area a)))
      → (start : List ℕ) → Untouched start area a
      → writes in_use to (poured h start (suc last - (a + 1)) (a + 1) over) ≡ writes in_use area (poured h start (suc last - a) a x)
  pour_turn o t start same =
      let m : suc last - a ≡ suc (suc last - (a + 1)) = omega arith in
      rw (m, t, o, same a (omega arith), add-one)

  -- so on the first page, where the place is known
  pub pour_first : (at : ℕ) → at ≡ ahead (rank h) (rank h x) (held area a) → over ≡ get_or (opened at x (held area a)) slots x
      → to ≡ with_page in_use area a (take slots (opened at x (held area a))) → 256 * (a + 1) ≤ length area
      → writes in_use to (poured h to (suc last - (a + 1)) (a + 1) over) ≡ writes in_use area (poured h area (suc (last - a)) a x)
  pour_first at p o t fits =
      let is : opened at x (held area a) ≡ ins (rank_in key h) x (held area a) = rw p (sym (ins-opened (rank_in key h) x (held area a))) in
      let m : suc last - a ≡ suc (last - a) = omega arith in
      let same : Untouched area to (a + 1) = stored_same area to a _ t fits area (λ b k. refl) in
      ap (writes in_use to) (poured_same h area to (suc last - (a + 1)) (a + 1) over same)
      ∙ pour_turn (rw is at o) (rw is at t) area (λ b k. refl)
      ∙ ap (λ (n : ℕ). writes in_use area (poured h area n a x)) m

-- a record that went to the front of a page sends one on to the front of the next, where their seam
-- rises
pub pour_front : (h : ℕ → ℕ) (start area : List ℕ) (a : ℕ) (x over : Record) → Untouched start area a → seam h (held start a) (held start (a + 1)) ≡ true
    → ahead (rank h) (rank h x) (held start a) ≡ 0 → over ≡ get_or (ins (rank_in key h) x (held area a)) slots x → ahead (rank h) (rank h over) (held start (a + 1)) ≡ 0
pour_front h start area a x over same s z o =
    let e : held area a ≡ held start a = ap (records_in in_use) (same a (omega arith)) in
    to_front h (held start a) (held start (a + 1)) (held_few in_use (part_at start a)) s 0 x over (omega arith) (o ∙ rw (e, ins-opened (rank_in key h) x (held start a), z))

-- at the end nothing is left to write
pub pour_ends : (h : ℕ → ℕ) (start area : List ℕ) (last a : ℕ) (x : Record) → last < a → writes in_use area (poured h start (suc last - a) a x) ≡ area
pour_ends h start area last a x l =
    let e : suc last - a ≡ 0 = omega arith in
    rw e
