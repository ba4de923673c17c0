-- The entries of what differs, in order of their keys and unpacked, are the records of the list.
use mathlib.Core.Path.{◌≡◌, refl, ap, ◌∙◌}
use mathlib.Core.Bool.{Bool, true, false, cond}
use mathlib.Core.Option.{Option, none, some}
use mathlib.Core.List.Permᴰ
use mathlib.Core.List.{List, [], ◌∷◌, ◌++◌, map}
use Prim.Native.Nat.{ℕ, ◌+◌, ◌*◌, ◌^◌, ◌<◌}
use native.Mathlib.Omega.{arith}
use borrow.Author.Tests.{leb-true, leb-false, le-leb, lt-leb}
use lib.Dec.{eqb, leb}
use Rattle.numbers.specs.Fields.{encode}
use Rattle.layouts.specs.Layout.{in_use}
use Rattle.placing.specs.Image.{All, Distinct}
use Rattle.placing.specs.Lay.{count, ins, sort}
use Rattle.placing.specs.Walks.{seek}
use Rattle.placing.proofs.Lists.{all_map, all_append}
use Rattle.placing.proofs.Perms.{perm_all, sort-perm}
use Rattle.pages.specs.Page.{Record, key, value}
use Rattle.pages.specs.Small.{Small}
use Rattle.entries.specs.declared.Entry.{Entry}
use Rattle.entries.specs.Steps.Entries.{size, rank}
use Rattle.entries.proofs.Entries.{SizedEntry}
use Rattle.sites.specs.declared.Which.TheVariants.{First, Second}
use Rattle.sites.specs.Held.{same}
use Rattle.two_sets.specs.Differences.{only_first, only_second, unlike, is_unlike, key_of, of_first, of_second, firsts, seconds}
use Rattle.differences.specs.Listing.{fields, record_bytes}
use Rattle.differences.specs.Steps.Passes.{D, of_all, entry_of}
use Rattle.differences.specs.Steps.Unpacked.{entry_fields, unpacked, wide}

-- a search tells what a set holds, of the keys of some records
abbrev pub Tells : (ℕ → Option Record) → (set rs : List Record) → Type 0
Tells look set rs = All (λ x. look (key x) ≡ seek key (key x) set) rs

pub tells : (look : ℕ → Option Record) (set rs : List Record) → ((k : ℕ) → k < 2 ^ 64 → look k ≡ seek key k set) → All (Small in_use) rs → Tells look set rs
tells look set rs f s = all_map (Small in_use) (λ x. look (key x) ≡ seek key (key x) set) (λ x k. f (key x) k.0) rs s

-- so a pass over the first file meets the first differences, and one over the second the others
pub pass_firsts : (look : ℕ → Option Record) (xs ys : List Record) → Tells look ys xs → of_all First look xs ≡ firsts key same xs ys
pass_firsts look [] ys t = refl
pass_firsts look (x ∷ xs) ys t = rw (t.0, pass_firsts look xs ys t.1)

pub pass_seconds : (look : ℕ → Option Record) (xs ys : List Record) → Tells look xs ys → of_all Second look ys ≡ seconds key same xs ys
pass_seconds look xs [] t = refl
pass_seconds look xs (y ∷ ys) t = rw (t.0, pass_seconds look xs ys t.1)

-- a difference of records that a layout takes, whose second record is told
abbrev pub Told : (ℕ → Option Record) → D → Type 0
Told look (only_first x) = Small in_use x
Told look (only_second y) = Small in_use y
Told look (unlike x y) = Small in_use x × (look (key x) ≡ some y)

first_told : (look : ℕ → Option Record) (x : Record) (o : Option Record) → Small in_use x → look (key x) ≡ o → All (Told look) (of_first key same x o)
first_told look x none s e = (s, tt)
first_told look x (some y) s e = go (eqb (value x) (value y))
  where
    go : (u : Bool) → All (Told look) (cond u [] (unlike x y ∷ []))
    go true = tt
    go false = ((s, e), tt)

firsts_told : (look : ℕ → Option Record) (xs ys : List Record) → All (Small in_use) xs → Tells look ys xs → All (Told look) (firsts key same xs ys)
firsts_told look [] ys s t = tt
firsts_told look (x ∷ xs) ys s t =
    all_append (Told look) (of_first key same x (seek key (key x) ys)) (firsts key same xs ys) (first_told look x (seek key (key x) ys) s.0 t.0) (firsts_told look xs ys s.1 t.1)

seconds_told : (look : ℕ → Option Record) (xs ys : List Record) → All (Small in_use) ys → All (Told look) (seconds key same xs ys)
seconds_told look xs [] s = tt
seconds_told look xs (y ∷ ys) s =
    all_append (Told look) (of_second key same y (seek key (key y) xs)) (seconds key same xs ys) (go (seek key (key y) xs)) (seconds_told look xs ys s.1)
  where
    go : (o : Option Record) → All (Told look) (of_second key same y o)
    go none = (s.0, tt)
    go (some x) = tt

pub both_told : (look : ℕ → Option Record) (xs ys : List Record) → All (Small in_use) xs → All (Small in_use) ys → Tells look ys xs → All (Told look) (firsts key same xs ys ++ seconds key same xs ys)
both_told look xs ys s u t = all_append (Told look) (firsts key same xs ys) (seconds key same xs ys) (firsts_told look xs ys s t) (seconds_told look xs ys u)

-- numbers that stand equally far up are in order as they are
shifted : (c a b : ℕ) → leb (c + a) (c + b) ≡ leb a b
shifted c a b = go (leb a b) refl
  where
    go : (u : Bool) → leb a b ≡ u → leb (c + a) (c + b) ≡ u
    go true e = le-leb (c + a) (c + b) (omega (arith, leb-true a b e))
    go false e = lt-leb (c + a) (c + b) (omega (arith, leb-false a b e))

module _ (look : ℕ → Option Record) where
  told_sized : (d : D) → Told look d → SizedEntry (entry_of d)
  told_sized (only_first x) t = record { home = omega arith; from = omega arith; held = t }
  told_sized (only_second y) t = record { home = omega arith; from = omega arith; held = t }
  told_sized (unlike x y) t = record { home = omega arith; from = omega arith; held = t.0 }

  pub all_sized : (ds : List D) → All (Told look) ds → All SizedEntry (map entry_of ds)
  all_sized [] t = tt
  all_sized (d ∷ ds) t = (told_sized d t.0, all_sized ds t.1)

  -- all homes are one, so entries are in the order of their keys
  told_rank : (d : D) → Told look d → rank (entry_of d) ≡ size * 2 ^ 64 + key_of key d
  told_rank (only_first x) t = omega (arith, t.0)
  told_rank (only_second y) t = omega (arith, t.0)
  told_rank (unlike x y) t = omega (arith, t.0.0)

  ins_entries : (d : D) (ds : List D) → Told look d → All (Told look) ds → ins rank (entry_of d) (map entry_of ds) ≡ map entry_of (ins (key_of key) d ds)
  ins_entries d [] t u = refl
  ins_entries d (e ∷ ds) t u =
      rw (told_rank d t, told_rank e u.0, shifted (size * 2 ^ 64) (key_of key d) (key_of key e)) (go (leb (key_of key d) (key_of key e)) (ins_entries d ds t u.1))
    where
      go : (v : Bool) → ins rank (entry_of d) (map entry_of ds) ≡ map entry_of (ins (key_of key) d ds)
          → cond v (entry_of d ∷ (entry_of e ∷ map entry_of ds)) (entry_of e ∷ ins rank (entry_of d) (map entry_of ds)) ≡ map entry_of (cond v (d ∷ (e ∷ ds)) (e ∷ ins (key_of key) d ds))
      go true ih = refl
      go false ih = ap (λ (s : List Entry). entry_of e ∷ s) ih

  pub sort_entries : (ds : List D) → All (Told look) ds → sort rank (map entry_of ds) ≡ map entry_of (sort (key_of key) ds)
  sort_entries [] t = refl
  sort_entries (d ∷ ds) t =
      ap (ins rank (entry_of d)) (sort_entries ds t.1)
      ∙ ins_entries d (sort (key_of key) ds) t.0 (perm_all (Told look) (Permᴰ.symm (sort-perm (key_of key) ds)) t.1)

  ne_entries : (d : D) (ds : List D) → Told look d → All (Told look) ds → All (λ e. key_of key e ≡ key_of key d → ⊥) ds → All (λ e. rank e ≡ rank (entry_of d) → ⊥) (map entry_of ds)
  ne_entries d [] t u n = tt
  ne_entries d (e ∷ ds) t u n = ((λ q. n.0 (omega (arith, told_rank e u.0, told_rank d t, q))), ne_entries d ds t u.1 n.1)

  pub once_entries : (ds : List D) → All (Told look) ds → Distinct (key_of key) ds → Distinct rank (map entry_of ds)
  once_entries [] t d = tt
  once_entries (e ∷ ds) t d = (ne_entries e ds t.0 t.1 d.0, once_entries ds t.1 d.1)

  -- unpacked they are the records of the list
  one_record : (d : D) → Told look d → encode (entry_fields look (entry_of d)) ≡ encode (fields in_use d)
  one_record (only_first x) t = refl
  one_record (only_second y) t = refl
  one_record (unlike x y) t = rw t.1

  pub records_entries : (ds : List D) → All (Told look) ds → unpacked look (map entry_of ds) ≡ record_bytes in_use ds
  records_entries [] t = refl
  records_entries (d ∷ ds) t = rw (one_record d t.0, records_entries ds t.1)

pub wide_entries : (ds : List D) → wide (map entry_of ds) ≡ count is_unlike ds
wide_entries [] = refl
wide_entries (only_first x ∷ ds) = omega (arith, wide_entries ds)
wide_entries (only_second y ∷ ds) = omega (arith, wide_entries ds)
wide_entries (unlike x y ∷ ds) = omega (arith, wide_entries ds)
