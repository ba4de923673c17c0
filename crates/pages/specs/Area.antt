-- The pages of an area (01, 'Bytes of a page').
use Rattle.std.specs.Prelude.{ℕ, zero, suc, ◌*◌, List, [], ◌∷◌, ◌++◌, take, drop}
use Rattle.std.proofs.Math.Option.{Option}
use Rattle.numbers.specs.Little.{written}
use Rattle.layouts.specs.Layout.{Layout}
use Rattle.pages.specs.Page.{Record, page_bytes, records_in, read_page}

-- "each page is the part of the area from 256 times its address"
unfoldable pub part_at : List ℕ → ℕ → List ℕ
part_at area a = take 256 (drop (256 * a) area)

module _ (f : Layout) where
  -- n pages from address a on, each with its records, or none where it is broken
  abbrev pub pages_from : (ℕ → ℕ) → List ℕ → (n a : ℕ) → List (Option (List Record))
  pages_from h area zero a = []
  pages_from h area (suc n) a = read_page f h a (part_at area a) ∷ pages_from h area n (suc a)

  -- what stands at the places of the records of n pages from address a on, whether or not they are
  -- broken
  abbrev pub held_from : List ℕ → (n a : ℕ) → List (List Record)
  held_from area zero a = []
  held_from area (suc n) a = records_in f (part_at area a) ∷ held_from area n (suc a)

  -- the bytes of pages, the first at address a
  abbrev pub area_from : ℕ → List (List Record) → List ℕ
  area_from a [] = []
  area_from a (p ∷ ps) = page_bytes f a p ++ area_from (suc a) ps

  -- the area with a page written
  abbrev pub with_page : List ℕ → ℕ → List Record → List ℕ
  with_page area a p = written area (256 * a) (page_bytes f a p)
