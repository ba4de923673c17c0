-- The way of a rebuild: entries packed at the top end, sorted there, and laid on the pages.
use mathlib.Core.Path.{◌≡◌, refl, ap}
use mathlib.Core.List.{List, [], ◌++◌, map}
use Prim.Native.Nat.{ℕ, ◌+◌, ◌-◌, ◌*◌, ◌/◌, ◌^◌, ◌≤◌, ◌<◌}
use native.Mathlib.Omega.{arith}
use lib.ListN.{length, take, drop, length-append}
use lib.Seq.{drop_at, length-take-le}
use Rattle.numbers.specs.Little.{Bytes}
use Rattle.layouts.specs.Layout.{in_use}
use Rattle.homes.specs.declared.new_homes.NewHomes.{NewHomes}
use Rattle.homes.specs.Homes.{Ready}
use Rattle.homes.specs.Steps.NewHomes.{new_home}
use Rattle.placing.specs.Image.{All, cat, Distinct, RecordSet}
use Rattle.placing.specs.Lay.{sort, lay, taken}
use Rattle.placing.specs.Rows.{strayed}
use Rattle.pages.proofs.Areas.{held_length}
use Rattle.pages.specs.Page.{Record, key, home_for}
use Rattle.pages.specs.Area.{held_from, area_from}
use Rattle.entries.specs.Steps.Entries.{size, entries_in, row_bytes, rank, home}
use Rattle.entries.proofs.Entries.{SizedEntry}
use Rattle.entries.proofs.Rows.{row_length, entries_row}
use Rattle.rebuild.specs.Relaid.{relaid}
use Rattle.rebuild.specs.Steps.Rebuild.{slots, packed, record_in, hops_from}
use Rattle.rebuild.proofs.Tags.{entries_few, home_small}
use Rattle.rebuild.proofs.Fitting.{held_fit}
use Rattle.rebuild.proofs.Commuting.{pages_relaid, pages_distinct, pages_room}
use Rattle.rebuild.proofs.Moved.{pages_moved}

-- the records of l, no key twice, packed from base on in m
pub record Gathered (h : ℕ → ℕ) (cap : ℕ) (l : List ℕ) (base : ℕ) (m : List ℕ) : Type 0 where
  pub small : cap ≤ 4096
  pub whole : length l ≡ 256 * cap
  pub low : (k : ℕ) → h k < 2 ^ 16
  pub fit : Bytes l
  pub set : RecordSet key (cat (held_from in_use l cap 0) [])
  pub base_is : base ≡ 256 * cap - size * length (packed h cap l)
  pub bytes : m ≡ take base l ++ row_bytes (packed h cap l)

-- as they are where the homes are those of a shape in range
pub gathered : (new : NewHomes) (cap : ℕ) (l : List ℕ) (base : ℕ) (m : List ℕ) → cap ≤ 4096 → length l ≡ 256 * cap → Ready new.shape
    → Bytes l → RecordSet key (cat (held_from in_use l cap 0) []) → base ≡ 256 * cap - size * length (packed (new_home new) cap l)
    → m ≡ take base l ++ row_bytes (packed (new_home new) cap l) → Gathered (new_home new) cap l base m
gathered new cap l base m s w r f k b e = record {
  small = s;
  whole = w;
  low = λ k. home_small new.shape k _ r refl;
  fit = f;
  set = k;
  base_is = b;
  bytes = e;
}

module _ (h : ℕ → ℕ) (cap : ℕ) (l : List ℕ) (base : ℕ) (m : List ℕ) (g : Gathered h cap l base m) where
  pub begins : base + size * length (packed h cap l) ≡ 256 * cap
  unfolding packed
  begins = omega (arith, g.base_is, entries_few h l cap 0)

  pub base_whole : 256 * cap ≡ base + size * ((256 * cap - base) / size)
  base_whole = omega (arith, begins)

  es_fit : All SizedEntry (packed h cap l)
  unfolding packed
  es_fit = held_fit h l cap 0 g.low g.fit (omega (arith, g.whole)) (omega (arith, g.small))

  front : length (take base l) ≡ base
  front = length-take-le base l (omega (arith, begins, g.whole))

  pub long : length m ≡ 256 * cap
  long = rw g.bytes (omega (arith, length-append (take base l) (row_bytes (packed h cap l)), front, row_length (packed h cap l), begins))

  -- the entries that stand there
  gathers : entries_in (drop base m) ≡ packed h cap l
  gathers = rw (g.bytes, drop_at (take base l) (row_bytes (packed h cap l)) base front) (entries_row (packed h cap l) es_fit)

  pub once : Distinct rank (entries_in (drop base m))
  unfolding packed
  once = rw gathers (pages_distinct h (held_from in_use l cap 0) g.set)

  pub room : taken (home_for h) slots (cat (held_from in_use l cap 0) []) cap ≡ length (cat (held_from in_use l cap 0) [])
      → taken home slots (entries_in (drop base m)) cap ≡ length (entries_in (drop base m))
  unfolding packed
  room r = rw gathers (pages_room h (held_from in_use l cap 0) cap r)

  -- are laid as the records are
  pub moved : hops_from 0 (lay home slots cap 0 (sort rank (entries_in (drop base m)))) ≡ strayed key (held_from in_use l cap 0) (relaid slots h cap (held_from in_use l cap 0))
  unfolding packed
  moved = rw gathers (pages_moved h cap (held_from in_use l cap 0) (held_length in_use l cap 0) g.set.once)

  pub laid : area_from in_use 0 (map (map record_in) (lay home slots cap 0 (sort rank (entries_in (drop base m))))) ≡ area_from in_use 0 (relaid slots h cap (held_from in_use l cap 0))
  unfolding packed
  laid = rw gathers (ap (λ (qs : List (List Record)). area_from in_use 0 qs) (pages_relaid h (held_from in_use l cap 0) cap))
