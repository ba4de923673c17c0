-- Calls and merges, one after the other, after a fresh history.
use mathlib.Core.Path.{◌≡◌, refl}
use mathlib.Core.Bool.{Bool, true, false, cond}
use mathlib.Core.Option.{Option, none, some}
use mathlib.Core.List.Permᴰ
use mathlib.Core.List.{List, [], ◌∷◌}
use Prim.Native.Nat.{ℕ}
use lib.Dec.{eqb}
use borrow.Author.Tests.{eqb-true, eqb-false}
use Rattle.numbers.specs.Little.{Bytes}
use Rattle.placing.specs.Image.{All}
use Rattle.pages.specs.Page.{key}
use Rattle.register.specs.Files.{Call, File, left, after}
use Rattle.register.proofs.After.{same_layout}
use Rattle.demands.specs.Histories.{Fits, Kept, holding, kept}
use Rattle.demands.specs.Demands.{Fresh}
use Rattle.sites.specs.Held.{held_in}
use Rattle.two_sets.specs.Union.{union}
use Rattle.merge_demands.specs.MergeDemands.{number, left_by, Deed, call, merge, FitsDeed, left_by_deed, after_all, kept_by, kept_all}
use Rattle.merge_demands.proofs.Held.{stood}
use Rattle.merge_demands.proofs.AnyFiles.{any_files}
use Rattle.merge_demands.proofs.AsPuts.{goes_on, joined_fresh}

-- what is kept is of a fresh history
abbrev FreshIf : Option Kept → File → Type 0
FreshIf none f = Unit {0}
FreshIf (some m) f = Fresh m f

-- after a call
call_goes : (o : Option Kept) (f : File) → FreshIf o f → (c : Call) → Fits f.layout c → FreshIf (kept o f (c ∷ [])) (left f c).file
unfolding after
call_goes o f w c fits = go (kept o f (c ∷ [])) o w refl
  where
    go : (n : Option Kept) (o : Option Kept) → FreshIf o f → kept o f (c ∷ []) ≡ n → FreshIf n (left f c).file
    go none o w e = tt
    go (some m') none w e = record { start = f; calls = c ∷ []; fits = (fits, tt); keeps = e; leaves = refl }
    go (some m') (some m) w e = goes_on m f w (c ∷ []) (fits, tt) m' e

-- and after a merge
merge_goes : (o : Option Kept) (f : File) → FreshIf o f → (row : List ℕ) (g : File) → Bytes g.area → FreshIf (kept_by o f (merge row g)) (left_by f row g)
merge_goes none f w row g c = go (eqb (number f row g) 0)
  where
    go : (u : Bool) → FreshIf (cond u none none) (left_by f row g)
    go true = tt
    go false = tt
merge_goes (some m) f w row g c = go (eqb (number f row g) 0) refl
  where
    go : (u : Bool) → eqb (number f row g) 0 ≡ u → FreshIf (cond u (some (holding m (union key m.held (held_in f.layout g.state g.area)))) (some m)) (left_by f row g)
    go true e = joined_fresh m f w row g c (eqb-true (number f row g) 0 e) (held_in f.layout g.state g.area) (Permᴰ.refl _)
    go false e = rw ((any_files f row g (stood m f w).bytes c).unchanged (eqb-false (number f row g) 0 e)).0 w

-- so after either, in the same layout
deed_goes : (o : Option Kept) (f : File) → FreshIf o f → (d : Deed) → FitsDeed f.layout d → FreshIf (kept_by o f d) (left_by_deed f d)
deed_goes o f w (call c) fits = call_goes o f w c fits
deed_goes o f w (merge row g) fits = merge_goes o f w row g fits

deed_layout : (f : File) (d : Deed) → (left_by_deed f d).layout ≡ f.layout
deed_layout f (call c) = same_layout f c
deed_layout f (merge row g) = refl

-- and after all of them
all_go : (o : Option Kept) (f : File) → FreshIf o f → (ds : List Deed) → All (FitsDeed f.layout) ds → FreshIf (kept_all o f ds) (after_all f ds)
unfolding kept_all after_all
all_go o f w [] fits = w
all_go o f w (d ∷ ds) fits = all_go (kept_by o f d) (left_by_deed f d) (deed_goes o f w d fits.0) ds (rw (deed_layout f d) fits.1)

pub fresh : (m : Kept) (f : File) → Fresh m f → (ds : List Deed) → All (FitsDeed f.layout) ds → (m' : Kept) → kept_all (some m) f ds ≡ some m' → Fresh m' (after_all f ds)
fresh m f w ds fits m' e = rw e at (all_go (some m) f w ds fits)
