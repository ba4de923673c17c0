-- The homes of the next items: read, worked out together, and used one by one.
use mathlib.Core.Path.{◌≡◌, refl, sym, ap, ◌∙◌}
use mathlib.Core.Bool.{Bool, true, false}
use mathlib.Core.List.{List, [], map, append-nil}
use Prim.Native.Nat.{ℕ, ◌+◌, ◌-◌, ◌*◌, ◌/◌, ◌%◌, ◌≤◌, ◌<◌, min}
use native.Mathlib.Omega.{arith}
use lib.Dec.{eqb}
use lib.ListN.{length, drop, get_or, set, length-set, length-drop}
use lib.Seq.{drop-drop, get_or-set_same, get_or-set_other}
use borrow.Author.Tests.{eqb-true, eqb-false}
use Rattle.layouts.specs.Layout.{in_use}
use Rattle.homes.specs.declared.Shape.{Shape}
use Rattle.homes.specs.Homes.{shape_of, home_in}
use Rattle.pages.specs.Page.{Record, key}
use Rattle.pages.proofs.Rows.{row_at}
use Rattle.state.specs.declared.State.{State}
use Rattle.state.specs.State.{in_range, homes}
use Rattle.register.specs.Files.{put, file_of, left}
use Rattle.records.specs.Records.{record_in}
use Rattle.records.proofs.Lent.{from, from-drop}
use Rattle.pay_runs.specs.Steps.Ahead.{key_after, Ahead, Homed}
use Rattle.pay_runs.proofs.PutKeeps.{put_keeps}

-- the keys of the first k of the next items stand in the row
pub record Reading (l : List ℕ) (lanes : ℕ) (keys : List ℕ) (k : ℕ) : Type 0 where
  pub few : lanes ≤ 12
  pub covers : (j : ℕ) → j < 12 → 20 * j + 20 ≤ length l → j < lanes
  pub within : 20 * lanes ≤ length l
  pub high : k ≤ lanes
  pub long : length keys ≡ 12
  pub read : (j : ℕ) → j < k → get_or keys j 0 ≡ key_after l j

-- before the first
pub reads_first : (l : List ℕ) (lanes : ℕ) (keys : List ℕ) → lanes ≡ min (length l / 20) 12 → length keys ≡ 12 → Reading l lanes keys 0
reads_first l lanes keys m long =
    record { few = omega arith; covers = λ j h i. omega arith; within = omega arith; high = omega arith; long = long; read = λ j h. absurd (omega arith) }

module _ {l : List ℕ} {lanes : ℕ} {keys : List ℕ} {k : ℕ} (w : Reading l lanes keys k) where
  -- one more
  pub reads_on : k < lanes → (x : ℕ) → x ≡ key (record_in (from l (20 * k))) → Reading l lanes (set keys k x) (k + 1)
  reads_on h x e =
      record {
        few = w.few;
        covers = w.covers;
        within = w.within;
        high = omega arith;
        long = length-set keys k x ∙ w.long;
        read = λ j b. go j b (eqb j k) refl;
      }
    where
      go : (j : ℕ) → j < k + 1 → (u : Bool) → eqb j k ≡ u → get_or (set keys k x) j 0 ≡ key_after l j
      go j b true q =
          let d : j ≡ k = eqb-true j k q in
          let i : k < length keys = omega (arith, w.few, w.long) in
          rw (d, get_or-set_same keys k x 0 i, e, from-drop l (20 * k))
      go j b false q =
          let n = eqb-false j k q in
          get_or-set_other keys k j x 0 n ∙ w.read j (omega arith)

  -- all are read: what is worked out of each is of the items ahead
  pub reads_out : lanes ≤ k → (f : ℕ → ℕ) (row : List ℕ) → row ≡ map f keys → Ahead f l row
  reads_out h f row e j b i =
      let c : j < lanes = w.covers j b i in
      let at : get_or (map f keys) j 0 ≡ f (get_or keys j 0) = rw append-nil at (row_at f keys [] j 0 (omega (arith, w.long))) in
      rw (e, at, w.read j (omega arith))

-- a state in range has the homes of its shape
pub shape_homes : (s : State) (l row : List ℕ) (shape : Shape) → shape ≡ shape_of s.params s.p → Ahead (home_in shape) l row → Ahead (homes s) l row
shape_homes s l row shape is a = rw is at a

-- at the first of twelve items the homes are those of the items ahead, if the state has homes; at
-- another they are as they were
abbrev Looked : State → (l old : List ℕ) → (lane : ℕ) → (row : List ℕ) → Type 0
Looked s l old lane row = (lane ≡ 0 → in_range in_use s ≡ true → Ahead (homes s) l row) × ((lane ≡ 0 → ⊥) → row ≡ old)

-- what stands in the row at an item, on both ways of the loop's turn
module _ (s : State) (l old : List ℕ) (lane : ℕ) (row : List ℕ) where
  -- the homes ahead are worked out anew
  pub looks_anew : lane ≡ 0 → (got : List ℕ) → (in_range in_use s ≡ true → Ahead (homes s) l got) → row ≡ got → Looked s l old lane row
  looks_anew z got a e = (λ y h. rw e (a h), λ n. absurd (n z))

  -- they are as they were
  pub looks_kept : (lane ≡ 0 → ⊥) → row ≡ old → Looked s l old lane row
  looks_kept n e = (λ z h. absurd (n z), λ m. e)

-- the state still has the homes of the first, and at item i those of the items up to the next
-- twelfth stand in the row
pub record Knows (f : State) (l : List ℕ) (count i : ℕ) (s : State) (row : List ℕ) : Type 0 where
  pub params : s.params ≡ f.params
  pub p : s.p ≡ f.p
  pub range : in_range in_use s ≡ in_range in_use f
  pub ready : in_range in_use f ≡ true → (k : ℕ) → i % 12 + k < 12 → (i % 12 ≡ 0 → ⊥) → i + k < count → get_or row (i % 12 + k) 0 ≡ homes f (key_after l (i + k))

-- before the first item nothing stands there yet
pub knows_first : (f : State) (l : List ℕ) (count : ℕ) (row : List ℕ) → Knows f l count 0 f row
knows_first f l count row = record { params = refl; p = refl; range = refl; ready = λ h k a n b. absurd (n refl) }

module _ {f : State} {l : List ℕ} {count i : ℕ} {s : State} {old : List ℕ} (w : Knows f l count i s old) (within : 20 * count ≤ length l)
    (row : List ℕ) (looked : Looked s (from l (20 * i)) old (i % 12) row) where
  -- after the look ahead they do
  here : in_range in_use f ≡ true → (k : ℕ) → i % 12 + k < 12 → i + k < count → get_or row (i % 12 + k) 0 ≡ homes f (key_after l (i + k))
  here h k a b = go (eqb (i % 12) 0) refl
    where
      go : (u : Bool) → eqb (i % 12) 0 ≡ u → get_or row (i % 12 + k) 0 ≡ homes f (key_after l (i + k))
      go true e =
          let z : i % 12 ≡ 0 = eqb-true (i % 12) 0 e in
          let d : from l (20 * i) ≡ drop (20 * i) l = from-drop l (20 * i) in
          let n : length (from l (20 * i)) ≡ length l - 20 * i = ap length d ∙ length-drop (20 * i) l in
          let at : get_or row k 0 ≡ homes s (key_after (from l (20 * i)) k) = looked.0 z (w.range ∙ h) k (omega arith) (omega arith) in
          let m : 20 * i + 20 * k ≡ 20 * (i + k) = omega arith in
          let q : i % 12 + k ≡ k = omega arith in
          rw (q, at, d, drop-drop, m, w.params, w.p)
      go false e =
          let n = eqb-false (i % 12) 0 e in
          rw (looked.1 n) (w.ready h k a n b)

  -- so the item's home is known
  pub home_here : i < count → Homed s (key_after (from l (20 * i)) 0) (get_or row (i % 12) 0)
  home_here b h =
      let at : get_or row (i % 12 + 0) 0 ≡ homes f (key_after l (i + 0)) = here (sym w.range ∙ h) 0 (omega arith) (omega arith) in
      let q : i % 12 + 0 ≡ i % 12 = omega arith in
      let m : i + 0 ≡ i = omega arith in
      let e : get_or row (i % 12) 0 ≡ homes f (key_after l i) = rw (q, m) at at in
      rw (e, w.params, w.p, from-drop l (20 * i))

  -- and those of the next stay known, since a put keeps what homes depend on
  pub knows_on : (area : List ℕ) (x : Record) (t : State) → t ≡ (left (file_of s area) (put x)).file.state → Knows f l count (i + 1) t row
  knows_on area x t e =
      let kept = put_keeps (file_of s area) x in
      record {
        params = rw e (kept.params ∙ w.params);
        p = rw e (kept.p ∙ w.p);
        range = rw e (kept.range ∙ w.range);
        ready = λ h k a n b.
            let q : (i + 1) % 12 + k ≡ i % 12 + (k + 1) = omega arith in
            let m : i + 1 + k ≡ i + (k + 1) = omega arith in
            rw (q, m) (here h (k + 1) (omega arith) (omega arith));
      }
