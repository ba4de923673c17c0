-- The counts of one pass over the first file are those of the list.
use mathlib.Core.Path.{◌≡◌, refl, sym, ap, ◌∙◌}
use mathlib.Core.Bool.{Bool, true, false, cond}
use mathlib.Core.Option.{Option, none, some}
use mathlib.Core.List.{List, [], ◌∷◌}
use Prim.Native.Nat.{ℕ, ◌+◌, ◌-◌, ◌≤◌}
use native.Mathlib.Omega.{arith}
use lib.Dec.{eqb}
use Rattle.layouts.specs.Layout.{in_use}
use Rattle.placing.specs.Image.{cat}
use Rattle.placing.specs.Lay.{count}
use Rattle.placing.specs.Walks.{seek}
use Rattle.placing.proofs.Lists.{count-append}
use Rattle.pages.specs.Page.{Record, key, value}
use Rattle.pages.specs.Area.{held_from}
use Rattle.state.specs.declared.State.{State}
use Rattle.sites.specs.declared.Site.{Site}
use Rattle.sites.specs.declared.Which.TheVariants.{First}
use Rattle.sites.specs.Held.{same, held_in}
use Rattle.sites.specs.Steps.Sites.{look, site_of}
use Rattle.sites.proofs.Known.{Known}
use Rattle.two_sets.specs.Differences.{is_only_first, is_only_second, is_unlike, unlike, of_first, firsts, differences}
use Rattle.two_sets.proofs.Counting.{Balance, balance}
use Rattle.differences.specs.declared.Tally.{Tally}
use Rattle.differences.specs.Steps.Passes.{D, of_all, is_only, tallied, Passes}
use Rattle.differences.proofs.Meaning.{tells, pass_firsts}
use Rattle.comparisons.specs.declared.Counts.{Counts}
use Rattle.comparisons.specs.Steps.Past.{counts_of}

-- what the first file's pass meets of one file is of the first
only_first : (x : Record) (o : Option Record) → count is_only (of_first key same x o) ≡ count is_only_first (of_first key same x o)
only_first x none = refl
only_first x (some y) = go (eqb (value x) (value y))
  where
    go : (u : Bool) → count is_only (cond u [] (unlike x y ∷ [])) ≡ count is_only_first (cond u [] (unlike x y ∷ []))
    go true = refl
    go false = refl

only_firsts : (xs ys : List Record) → count is_only (firsts key same xs ys) ≡ count is_only_first (firsts key same xs ys)
only_firsts [] ys = refl
only_firsts (x ∷ xs) ys =
    let o : Option Record = seek key (key x) ys in
    omega (
      arith,
      count-append is_only (of_first key same x o) (firsts key same xs ys),
      count-append is_only_first (of_first key same x o) (firsts key same xs ys),
      only_first x o,
      only_firsts xs ys,
    )

-- the counts, where the pass over the first file told t
pub record Counted (s t : State) (ds : List D) (absent both : ℕ) : Type 0 where
  pub low : absent ≤ s.r
  pub fits : s.r - absent ≤ t.r
  pub is : ◌≡◌ {A = Counts} (record { first = absent; second = t.r - (s.r - absent); both = both }) (counts_of ds)
  pub few : (absent + both ≤ 49152) × (t.r - (s.r - absent) + both ≤ 49152)

module _ (s : State) (area : List ℕ) (t : State) (other : List ℕ) (k : Known s area) (m : Known t other) where
  abbrev xs : List Record
  xs = held_in in_use s area

  abbrev ys : List Record
  ys = held_in in_use t other

  pub counted : (site : Site) → site ≡ site_of t → (row : List ℕ) (at : ℕ) (u : Tally) (row₁ : List ℕ) → Passes First (look site other) (cat (held_from in_use area s.cap 0) []) row at u row₁
      → Counted s t (differences key same xs ys) u.absent u.unlike
  unfolding held_in
  counted site e row at u row₁ p =
      let l = look (site_of t) other in
      let w : Passes First l (cat (held_from in_use area s.cap 0) []) row at u row₁ = rw e at p in
      let f : of_all First l xs ≡ firsts key same xs ys = pass_firsts l xs ys (tells l ys xs m.looks k.small) in
      let b : Balance key same xs ys = balance key same xs ys k.set.once m.set.once in
      let c : u ≡ tallied (firsts key same xs ys) = w.tally ∙ ap tallied f in
      let a : u.absent ≡ count is_only_first (firsts key same xs ys) = ap (λ (v : Tally). v.absent) c ∙ only_firsts xs ys in
      let v : u.unlike ≡ count is_unlike (firsts key same xs ys) = ap (λ (v : Tally). v.unlike) c in
      let n₁ : count is_only_first (differences key same xs ys) ≡ u.absent = b.first ∙ sym a in
      let n₂ : count is_only_second (differences key same xs ys) ≡ t.r - (s.r - u.absent) = omega (arith, b.second, a, k.count, m.count) in
      let n₃ : count is_unlike (differences key same xs ys) ≡ u.unlike = b.both ∙ sym v in
      record {
        low = omega (arith, b.low, a, k.count);
        fits = omega (arith, b.fits, a, k.count, m.count);
        is = rw (n₁, n₂, n₃);
        few = (
          omega (arith, b.few, a, v, k.count, k.range.r_high, k.range.cap_high),
          omega (arith, b.many, a, v, k.count, m.count, m.range.r_high, m.range.cap_high),
        );
      }
