-- The gates that need no page: which way out of a call is which refusal.
use mathlib.Core.Path.{◌≡◌, sym, ap}
use mathlib.Core.Bool.{Bool, true, false, cond}
use mathlib.Core.List.{List}
use Prim.Native.Nat.{ℕ, ◌*◌, ◌<◌}
use native.Mathlib.Omega.{arith}
use lib.Dec.{eqb}
use lib.ListN.{length}
use Rattle.std.proofs.Common.{Ok, Err}
use borrow.Author.Tests.{eq-eqb, ne_eqb}
use Rattle.layouts.specs.Layout.{Layout}
use Rattle.homes.specs.Homes.{first_pages}
use Rattle.state.specs.declared.State.{State}
use Rattle.state.specs.declared.Refusal.{Refusal}
use Rattle.state.specs.declared.Refusal.TheVariants.{OutOfRange, WrongArea, WrongRow, AtCap, AtStart}
use Rattle.state.specs.State.{in_range}
use Rattle.state.specs.Promises.{Ranged}
use Rattle.state.proofs.Ranges.{ranged}
use Rattle.gates.specs.Gates.{Gate, opens, gate_of, image_gate, check_gate, row_entry, merge_gate, grow_entry, grow_gate, shrink_entry, shrink_gate}
use Rattle.gates.proofs.Judging.{pages_refuse}
use Rattle.gates.specs.Steps.Past.{OpenFor, Refuses, Checked, OpenWithRow, EnteredToGrow, EnteredToShrink}

module _ (form : Layout) (s : State) (n : ℕ) where
  -- a number out of range
  pub range_shut : in_range form s ≡ false → Err OutOfRange ≡ gate_of form s n
  unfolding gate_of
  range_shut e = rw e

  -- an area of another length
  pub area_shut : in_range form s ≡ true → (n ≡ 256 * s.cap → ⊥) → Err WrongArea ≡ gate_of form s n
  unfolding gate_of
  area_shut e f = rw (e, ne_eqb n (256 * s.cap) f)

  -- neither
  pub gate_open : in_range form s ≡ true → n ≡ 256 * s.cap → opens ≡ gate_of form s n
  unfolding gate_of
  gate_open e f = rw (e, eq-eqb n (256 * s.cap) f)

-- what is known past an open gate
pub past : (form : Layout) (s : State) (n : ℕ) (g : Gate) → OpenFor form s n g → g ≡ opens → (in_range form s ≡ true) × (n ≡ 256 * s.cap)
past form s n g k e = rw e at k

-- what a check refuses
module _ (form : Layout) (s : State) (area : List ℕ) (g : Gate) (gate : g ≡ gate_of form s (length area)) where
  pub check_shut : (why : Refusal) → g ≡ Err why → Err why ≡ check_gate form s area
  unfolding check_gate
  check_shut why e = rw (← gate, e)

  -- past its entry the pages decide
  pub check_pages : g ≡ opens → (i : Gate) → i ≡ image_gate form s area → i ≡ check_gate form s area
  unfolding check_gate
  check_pages e i k = rw (k, ← gate, e)

-- and what is known past it, or of its refusal
pub shut_refuses : (form : Layout) (s : State) (n : ℕ) (why : Refusal) → Err why ≡ gate_of form s n → Refuses why
unfolding gate_of
shut_refuses form s n why e = go (in_range form s) (eqb n (256 * s.cap)) e
  where
    go : (u v : Bool) → Err why ≡ cond u (cond v opens (Err WrongArea)) (Err OutOfRange) → Refuses why
    go true true q = absurd (let z : ◌≡◌ {A = ℕ} 1 0 = cc in omega arith)
    go true false q = let z : why ≡ WrongArea = cc in rw z (omega arith, λ p. omega arith)
    go false v q = let z : why ≡ OutOfRange = cc in rw z (omega arith, λ p. omega arith)

pub whole : (form : Layout) (s : State) (area : List ℕ) → in_range form s ≡ true → length area ≡ 256 * s.cap → (i : Gate) → i ≡ image_gate form s area → Checked form s area i
whole form s area r l (Ok u) k = (r, l, sym k)
whole form s area r l (Err why) k = pages_refuse form s area (ranged form s r).cap_high why k

-- what a call refuses that is lent a row, before it looks at a page
module _ (form : Layout) (s : State) (m n : ℕ) (g : Gate) (gate : g ≡ gate_of form s m) where
  pub lent_shut : (why : Refusal) → g ≡ Err why → Err why ≡ row_entry form s m n
  lent_shut why e = rw (← gate, e)

  module _ (e : g ≡ opens) where
    pub lent_row : (n ≡ s.cap → ⊥) → Err WrongRow ≡ row_entry form s m n
    lent_row f = rw (← gate, e, ne_eqb n s.cap f)

    pub lent_open : n ≡ s.cap → opens ≡ row_entry form s m n
    lent_open f = rw (← gate, e, eq-eqb n s.cap f)

-- what a merge refuses of the file that it goes into: after its entry the pages decide
module _ (form : Layout) (s : State) (area : List ℕ) (n : ℕ) (g : Gate) (gate : g ≡ row_entry form s (length area) n) where
  pub merge_shut : (why : Refusal) → g ≡ Err why → Err why ≡ merge_gate form s area n
  unfolding merge_gate
  merge_shut why e = rw (← gate, e)

  pub merge_pages : g ≡ opens → (i : Gate) → i ≡ image_gate form s area → i ≡ merge_gate form s area n
  unfolding merge_gate
  merge_pages e i k = rw (k, ← gate, e)

pub whole_row : (form : Layout) (s : State) (area : List ℕ) (n : ℕ) → (g : Gate) → Checked form s area g → n ≡ s.cap → OpenWithRow form s area n g
whole_row form s area n (Ok u) w e = (w, e)
whole_row form s area n (Err why) w e = w

-- what a growth refuses before it looks at a page
module _ (form : Layout) (s : State) (m n : ℕ) (g : Gate) (gate : g ≡ row_entry form s m n) where
  module _ (e : g ≡ opens) where
    pub grow_open : (s.p ≡ s.cap → ⊥) → opens ≡ grow_entry form s m n
    grow_open k = rw (← gate, e, ne_eqb s.p s.cap k)

-- the same, with an area of m bytes and a row of n counts
module _ (form : Layout) (s : State) (m n : ℕ) (g : Gate) (gate : g ≡ gate_of form s m) where
  module _ (e : g ≡ opens) where
    -- a row of another length
    entry_row : (n ≡ s.cap → ⊥) → Err WrongRow ≡ grow_entry form s m n
    entry_row f = rw (← gate, e, ne_eqb n s.cap f)

    -- no page to grow to
    entry_cap : n ≡ s.cap → s.p ≡ s.cap → Err AtCap ≡ grow_entry form s m n
    entry_cap f k = rw (← gate, e, eq-eqb n s.cap f, eq-eqb s.p s.cap k)

    entry_open : n ≡ s.cap → (s.p ≡ s.cap → ⊥) → opens ≡ grow_entry form s m n
    entry_open f k = rw (← gate, e, eq-eqb n s.cap f, ne_eqb s.p s.cap k)

-- what is known past them
pub past_entry : (form : Layout) (s : State) (m n : ℕ) → in_range form s ≡ true → m ≡ 256 * s.cap → n ≡ s.cap → (s.p ≡ s.cap → ⊥) → EnteredToGrow form s m n opens
past_entry form s m n r l f k = let w : Ranged form s = ranged form s r in (r, l, f, omega arith)

-- after them the pages decide
module _ (form : Layout) (s : State) (area : List ℕ) (n : ℕ) (g : Gate) (gate : g ≡ gate_of form s (length area)) (e : g ≡ opens) where
  pub row_shut : (n ≡ s.cap → ⊥) → Err WrongRow ≡ grow_gate form s area n
  unfolding grow_gate
  row_shut f = rw (← entry_row form s (length area) n g gate e f)

  pub cap_shut : n ≡ s.cap → s.p ≡ s.cap → Err AtCap ≡ grow_gate form s area n
  unfolding grow_gate
  cap_shut f m = rw (← entry_cap form s (length area) n g gate e f m)

  pub pages_decide : (i : Gate) → i ≡ image_gate form s area → n ≡ s.cap → (s.p ≡ s.cap → ⊥) → i ≡ grow_gate form s area n
  unfolding grow_gate
  pages_decide i k f m = rw (k, ← entry_open form s (length area) n g gate e f m)

-- the product of two parameters in range is a number of 16 bits
pub start_fits : (form : Layout) (s : State) → in_range form s ≡ true → first_pages s.params < 65536
start_fits form s r = let w : Ranged form s = ranged form s r in omega arith

-- what a shrinking refuses before it looks at a page, with an area of m bytes
module _ (form : Layout) (s : State) (m : ℕ) (g : Gate) (gate : g ≡ gate_of form s m) where
  module _ (e : g ≡ opens) where
    -- no page to give up
    pub shrink_start : s.p ≡ first_pages s.params → Err AtStart ≡ shrink_entry form s m
    shrink_start k = rw (← gate, e) (sym (ap (λ (u : Bool). cond u (Err AtStart) opens) (eq-eqb s.p (first_pages s.params) k)))

    pub shrink_open : (s.p ≡ first_pages s.params → ⊥) → opens ≡ shrink_entry form s m
    shrink_open k = rw (← gate, e) (sym (ap (λ (u : Bool). cond u (Err AtStart) opens) (ne_eqb s.p (first_pages s.params) k)))

-- what is known past them
pub past_start : (form : Layout) (s : State) (m : ℕ) → in_range form s ≡ true → m ≡ 256 * s.cap → (s.p ≡ first_pages s.params → ⊥) → EnteredToShrink form s m opens
past_start form s m r l k = let w : Ranged form s = ranged form s r in (r, l, omega arith)

-- after them the pages decide
module _ (form : Layout) (s : State) (area : List ℕ) (g : Gate) (gate : g ≡ gate_of form s (length area)) (e : g ≡ opens) where
  pub start_shut : s.p ≡ first_pages s.params → Err AtStart ≡ shrink_gate form s area
  unfolding shrink_gate
  start_shut k = rw (← shrink_start form s (length area) g gate e k)

  pub pages_decide_shrink : (i : Gate) → i ≡ image_gate form s area → (s.p ≡ first_pages s.params → ⊥) → i ≡ shrink_gate form s area
  unfolding shrink_gate
  pages_decide_shrink i k m = rw (k, ← shrink_open form s (length area) g gate e m)
