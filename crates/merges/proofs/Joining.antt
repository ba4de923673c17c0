-- Two files that pass: what the code counts and lays is the union of their records.
use mathlib.Core.Path.{◌≡◌, refl, sym, ap, ◌∙◌}
use mathlib.Core.Bool.{Bool, true, false}
use mathlib.Core.Option.{none}
use mathlib.Core.List.{List, [], ◌∷◌, Permᴰ}
use Prim.Native.Nat.{ℕ, ◌^◌, ◌<◌}
use native.Mathlib.Omega.{arith}
use lib.Dec.{eqb}
use lib.ListN.{length}
use borrow.Author.Tests.{eqb-true}
use Rattle.std.specs.Prelude.{Option as Optional, None, Some, Ok, Err}
use Rattle.layouts.specs.Layout.{in_use}
use Rattle.homes.specs.Homes.{home_in}
use Rattle.homes.proofs.Homes.{home_below}
use Rattle.placing.specs.Image.{All, RecordSet}
use Rattle.placing.specs.Lay.{taken}
use Rattle.placing.specs.Rows.{counts, left_over}
use Rattle.placing.specs.Walks.{seek}
use Rattle.placing.proofs.Lists.{all_map}
use Rattle.placing.proofs.Perms.{perm-length, perm-up_to}
use Rattle.placing.proofs.Taken.{taken_cong}
use Rattle.placing.proofs.Rows.{counts-perm, row_room}
use Rattle.placing.proofs.Tidy.{set_perm}
use Rattle.pages.specs.Page.{Record, key, home_for}
use Rattle.pages.specs.Area.{area_from}
use Rattle.rebuild.specs.Relaid.{laid_out}
use Rattle.rebuild.specs.Steps.Rebuild.{slots}
use Rattle.state.specs.declared.State.{State}
use Rattle.state.specs.declared.Done.{Done}
use Rattle.state.specs.State.{homes, holding}
use Rattle.sites.specs.declared.Site.{Site}
use Rattle.sites.specs.Held.{held_in, same}
use Rattle.sites.specs.Steps.Sites.{site_of, on_pages, Walkable, look}
use Rattle.sites.proofs.Known.{Known}
use Rattle.sites.proofs.Same.{same-union}
use Rattle.two_sets.specs.Union.{missing, union, lowest_clash}
use Rattle.two_sets.specs.Steps.Lowest.{lowest_in}
use Rattle.two_sets.proofs.Union.{union_set}
use Rattle.two_sets.proofs.Lowest.{lowest_cong, lowest_in_lem, lacking-missing}
use Rattle.two_sets.proofs.Rooms.{comm, sorted_alike}
use Rattle.unions.specs.Steps.Both.{clash_by, lacking_on, both_of}
use Rattle.merges.specs.declared.MergeRefusal.TheVariants.{NoRoom}
use Rattle.merges.specs.Merge.{Merged, done, Outcome, joined}

-- an answer and an area are those of an outcome
abbrev pub Comes : Done Merged → List ℕ → Outcome → Type 0
Comes r area o = (r ≡ o.merge) × (area ≡ o.area)

-- where the code tells no clash
pub none_left : (c : Optional ℕ) → ((k : ℕ) → c ≡ Some k → ⊥) → clash_by c ≡ none
none_left None n = refl
none_left (Some k) n = absurd (n k refl)

module _ (s : State) (area : List ℕ) (t : State) (other : List ℕ) (k : Known s area) (j : Known t other) where
  abbrev mine : List Record
  mine = held_in in_use s area

  abbrev theirs : List Record
  theirs = held_in in_use t other

  abbrev both : List Record
  both = union key mine theirs

  -- what the code meets of both
  abbrev met : List Record
  met = both_of (site_of s) area (site_of t) other

  -- a search in the other file finds what it holds
  looks : All (λ x. look (site_of t) other (key x) ≡ seek key (key x) theirs) mine
  looks = all_map (λ x. key x < 2 ^ 64) (λ x. look (site_of t) other (key x) ≡ seek key (key x) theirs) (λ x l. j.looks (key x) l) mine k.set.keys

  -- so the clash that is told is the lowest
  lowest_told : lowest_in key same (look (site_of t) other) (on_pages (site_of s) area) none ≡ lowest_clash key same mine theirs
  unfolding held_in
  lowest_told = lowest_cong key same (look (site_of t) other) (λ i. seek key i theirs) mine none looks ∙ lowest_in_lem key same mine theirs k.set j.set

  module _ (here there : Site) (p : here ≡ site_of s) (q : there ≡ site_of t) where
    pub clash_told : (c : Optional ℕ) → clash_by c ≡ lowest_in key same (look there other) (on_pages here area) none → clash_by c ≡ lowest_clash key same mine theirs
    clash_told c e = (rw (p, q) at e) ∙ lowest_told

    pub walkable : Walkable area here × Walkable other there
    walkable = rw (p, q) (k.walks, j.walks)

  module _ (n : lowest_clash key same mine theirs ≡ none) where
    -- both are met, each once
    met-both : Permᴰ met both
    unfolding held_in union
    met-both =
        let lacks : lacking_on (site_of s) area (site_of t) other ≡ missing key theirs mine = lacking-missing key (look (site_of t) other) theirs mine looks in
        let turned : Permᴰ met (union key theirs mine) = rw lacks (comm theirs (missing key theirs mine)) in
        mathlib.Core.List.Permᴰ.trans turned (mathlib.Core.List.Permᴰ.symm (same-union mine theirs k.small j.small k.set j.set n))

    set : RecordSet key both
    set = union_set key mine theirs k.set j.set

    -- the counts are those of both
    pub row_told : (here there : Site) → here ≡ site_of s → there ≡ site_of t → (row : List ℕ) → row ≡ counts (home_for (home_in here.shape)) (both_of here area there other) here.cap 0
        → row ≡ counts (home_for (homes s)) both s.cap 0
    row_told here there p q row e = (rw (p, q) at e) ∙ counts-perm (home_for (homes s)) met-both s.cap 0

    homes_low : (rs : List Record) → All (λ x. home_for (homes s) x < s.cap) rs
    homes_low [] = tt
    homes_low (x ∷ rs) = (omega (arith, home_below s.params s.p (key x) k.walks.ready, k.range.p_high), homes_low rs)

    module _ (row : List ℕ) (filled : row ≡ counts (home_for (homes s)) both s.cap 0) (room : Bool) (told : room ≡ eqb (left_over slots row 0) 0) (read : ℕ) where
      -- and tell whether there is room
      rooms : eqb (taken (home_for (homes s)) slots both s.cap) (length both) ≡ room
      rooms = sym (told ∙ rw filled (row_room (home_for (homes s)) slots both s.cap (homes_low both)))

      pub join_full : room ≡ false → Comes (done s (Err (NoRoom read))) area (joined in_use s area both read)
      unfolding joined
      join_full e = rw (rooms, e) (refl, refl)

      module _ (e : room ≡ true) where
        -- with room all that is met can be laid
        fits : RecordSet key met × (taken (home_for (homes s)) slots met s.cap ≡ length met)
        fits =
            let all : taken (home_for (homes s)) slots both s.cap ≡ length both = eqb-true _ _ (rooms ∙ e) in
            let same_taken = taken_cong (home_for (homes s)) slots met both (λ i. perm-up_to (home_for (homes s)) i met-both) s.cap in
            (set_perm key (mathlib.Core.List.Permᴰ.symm met-both) set, same_taken ∙ all ∙ sym (perm-length met-both))

        -- and is laid as both are
        lays : (r : ℕ) → r ≡ length met → (new : List ℕ) → new ≡ area_from in_use 0 (laid_out slots (homes s) s.cap met) → (x : State) → x ≡ holding s r
            → Comes (done x (Ok (record { read = read }))) new (joined in_use s area both read)
        unfolding joined
        lays r q new f x g =
            let many : holding s r ≡ holding s (length both) = rw (q, perm-length met-both) in
            let pages : area_from in_use 0 (laid_out slots (homes s) s.cap met) ≡ area_from in_use 0 (laid_out slots (homes s) s.cap both) = rw (sorted_alike key (homes s) met-both fits.0) in
            rw (rooms, e) (ap (λ (z : State). done z (Ok (record { read = read }))) (g ∙ many), f ∙ pages)

        -- the same of the sites that the code has
        module _ (here there : Site) (p : here ≡ site_of s) (q : there ≡ site_of t) where
          pub join_fits : (Walkable area here × Walkable other there)
              × (RecordSet key (both_of here area there other) × (taken (home_for (home_in here.shape)) slots (both_of here area there other) here.cap ≡ length (both_of here area there other)))
          join_fits = rw (p, q) ((k.walks, j.walks), fits)

          pub join_laid : (r : ℕ) (new : List ℕ)
              → (r ≡ length (both_of here area there other)) × (new ≡ area_from in_use 0 (laid_out slots (home_in here.shape) here.cap (both_of here area there other)))
              → (x : State) → x ≡ holding s r → Comes (done x (Ok (record { read = read }))) new (joined in_use s area both read)
          join_laid r new f = let g = rw (p, q) at f in lays r g.0 new g.1
