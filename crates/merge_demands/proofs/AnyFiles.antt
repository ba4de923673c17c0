-- Of any numbers and any bytes: which refusal a merge gives, and what it leaves.
use mathlib.Core.Path.{◌≡◌, refl, sym, ap, ◌∙◌}
use mathlib.Core.Bool.{false}
use mathlib.Core.Logic.{◌↔◌, inl, inr}
use mathlib.Core.Option.{none}
use mathlib.Core.List.{List, [], ◌∷◌}
use Prim.Native.Nat.{ℕ, suc, ◌+◌, ◌*◌, ◌<◌}
use native.Mathlib.Decide.{ℕ_discrete}
use native.Mathlib.Omega.{arith}
use lib.ListN.{length, drop}
use Rattle.std.specs.Prelude.{Err}
use Rattle.numbers.specs.Little.{Bytes}
use Rattle.layouts.specs.Layout.{Layout}
use Rattle.placing.specs.Image.{Distinct}
use Rattle.pages.specs.Page.{key}
use Rattle.state.specs.declared.State.{State}
use Rattle.state.specs.declared.Refusal.{Refusal}
use Rattle.state.specs.declared.Refusal.TheVariants.{OutOfRange, WrongArea, WrongRow, Broken, NotImage}
use Rattle.state.specs.Answer.{refused}
use Rattle.state.specs.Promises.{Ranged}
use Rattle.gates.specs.Gates.{opens, image_gate, check_gate, merge_gate}
use Rattle.gates.proofs.Gating.{check_shut, check_pages, lent_shut, lent_row, lent_open, merge_shut, merge_pages}
use Rattle.register.specs.OneImage.{ImageOfR}
use Rattle.register.specs.Files.{File, file_in}
use Rattle.demands.specs.Refusals.{RightArea, SomeBroken, LowestBroken}
use Rattle.demands.proofs.InOrder.{listed, none_of, ranks, Comes, in_order}
use Rattle.demands.proofs.Causes.{Enters, out, other, entered, enter, Pages, sick, strange, whole, judge}
use Rattle.sites.specs.declared.Which.{Which}
use Rattle.sites.specs.declared.Which.TheVariants.{First, Second}
use Rattle.sites.specs.Held.{held_in, same}
use Rattle.sites.specs.Told.{file_of}
use Rattle.two_sets.proofs.Clash.{lowest_clash_lem, no_clash}
use Rattle.merges.specs.declared.MergedNumbers.{MergedNumbers}
use Rattle.merges.specs.Merge.{Outcome, refused_file, merged_numbers}
use Rattle.merge_demands.specs.MergeDemands.{merging, says, number, Clashes, RoomForBoth, read_as, marked, order, OfAnyFiles}
use Rattle.merge_demands.proofs.Held.{holds}
use Rattle.merge_demands.proofs.Decided.{lowest_of, row_of, joined_to, first_shut, second_shut, Settles, clashes, crowded, joins, settle, joins_both}

-- what a merge says, in numbers
abbrev tells : Outcome → MergedNumbers
tells o = merged_numbers o.merge.answer

abbrev refusal : Outcome → ℕ
refusal o = (tells o).numbers.refusal

module _ (f : File) (row : List ℕ) (g : File) where
  abbrev l : Layout
  l = f.layout

  abbrev s : State
  s = f.state

  abbrev t : State
  t = g.state

  -- where a merge is accepted
  abbrev Good : Type 0
  Good = ImageOfR l s f.area × Ranged l s × RightArea s f.area × (length row ≡ s.cap) × Ranged l t × RightArea t g.area × ImageOfR l t g.area × ((k : ℕ) → Clashes f g k → ⊥) × RoomForBoth f g

  -- the page that a refusal with 4 tells
  abbrev SickPage : (file page : ℕ) → Type 0
  SickPage file page = (file ≡ 1 → LowestBroken f page) × (file ≡ 2 → LowestBroken (read_as f g) page)

  -- what is promised, of an outcome
  record Decided (o : Outcome) : Type 0 where
    comes : Comes (marked (tells o)) (order f row g) (order f row g)
    accepted : (refusal o ≡ 0) ↔ Good
    unchanged : (refusal o ≡ 0 → ⊥) → (file_in l o.merge.state o.area ≡ f) × ((refusal o ≡ 7 → ⊥) → o.row ≡ row)
    joined : refusal o ≡ 0 → o ≡ joined_to f g
    row_full : refusal o ≡ 7 → o.row ≡ row_of f g
    lowest : refusal o ≡ 13 → let k = (tells o).numbers.value in Clashes f g k × ((j : ℕ) → j < k → Clashes f g j → ⊥)
    broken : refusal o ≡ 4 → SickPage (tells o).file (tells o).numbers.page

  -- a file is refused
  module _ (file : Which) (before : ℕ) (why : Refusal) (p : listed (refused why).refusal (0 ∷ 7 ∷ 13 ∷ []) ≡ false) (w : Comes (file_of file * 100 + (refused why).refusal) (order f row g) (order f row g)) (n : Good → ⊥) where
    refuses : ((refused why).refusal ≡ 4 → SickPage (file_of file) (refused why).page) → Decided (refused_file s f.area row file before why)
    refuses b =
        record {
          comes = w;
          accepted = (λ e. absurd (none_of _ (0 ∷ 7 ∷ 13 ∷ []) p (inl e)), λ a. absurd (n a));
          unchanged = λ z. (refl, λ z. refl);
          joined = λ e. absurd (none_of _ (0 ∷ 7 ∷ 13 ∷ []) p (inl e));
          row_full = λ e. absurd (none_of _ (0 ∷ 7 ∷ 13 ∷ []) p (inr (inl e)));
          lowest = λ e. absurd (none_of _ (0 ∷ 7 ∷ 13 ∷ []) p (inr (inr (inl e))));
          broken = b;
        }

    plainly : listed (refused why).refusal (4 ∷ []) ≡ false → Decided (refused_file s f.area row file before why)
    plainly q = refuses (λ e. absurd (none_of _ (4 ∷ []) q (inl e)))

  module _ (b : Bytes f.area) (c : Bytes g.area) where
    -- past the living file and its row
    module _ (r : Ranged l s) (q : RightArea s f.area) (d : length row ≡ s.cap) (w : SomeBroken f → ⊥) (m : ImageOfR l s f.area) (e : merge_gate l s f.area (length row) ≡ opens) where
      past : (k : ℕ) → Comes k (order f row g) (drop 5 (order f row g)) → Comes k (order f row g) (order f row g)
      past k v = inr (r, inr (q, inr (d, inr (w, inr (m, v)))))

      -- and past the other
      module _ (r' : Ranged l t) (q' : RightArea t g.area) (w' : SomeBroken (read_as f g) → ⊥) (m' : ImageOfR l t g.area) where
        last : (k : ℕ) → Comes k (order f row g) (drop 9 (order f row g)) → Comes k (order f row g) (order f row g)
        last k v = past k (inr (r', inr (q', inr (w', inr (m', v)))))

        abbrev once : Distinct key (held_in l s f.area)
        once = (holds l s f.area b q m).set.once

        abbrev once' : Distinct key (held_in l t g.area)
        once' = (holds l t g.area c q' m').set.once

        -- no key clashes
        none_clash : lowest_of f g ≡ none → (k : ℕ) → Clashes f g k → ⊥
        none_clash n = (no_clash key same (held_in l s f.area) (held_in l t g.area) once once').0 n

        -- the two sets decide
        settled : Settles f g row → Decided (merging f row g)
        settled (clashes k n o) =
            let v = (lowest_clash_lem key same (held_in l s f.area) (held_in l t g.area) once once' k).0 n in
            rw o
            (record {
              comes = last 13 (inl ((k, v.0), refl));
              accepted = (λ z. absurd (omega arith), λ a. absurd (a.7 k v.0));
              unchanged = λ z. (refl, λ z. refl);
              joined = λ z. absurd (omega arith);
              row_full = λ z. absurd (omega arith);
              lowest = λ z. v;
              broken = λ z. absurd (omega arith);
            })
        settled (crowded n x o) =
            rw o
            (record {
              comes = last 7 (inr ((λ v. none_clash n v.0 v.1), inl (x, refl)));
              accepted = (λ z. absurd (omega arith), λ a. absurd (x a.8));
              unchanged = λ z. (refl, λ y. absurd (y refl));
              joined = λ z. absurd (omega arith);
              row_full = λ z. refl;
              lowest = λ z. absurd (omega arith);
              broken = λ z. absurd (omega arith);
            })
        settled (joins n x o) =
            rw o
            (record {
              comes = last 0 (inr ((λ v. none_clash n v.0 v.1), inr (x, none_of 0 (ranks (order f row g)) refl)));
              accepted = (λ z. (m, r, q, d, r', q', m', none_clash n, x), λ a. refl);
              unchanged = λ z. absurd (z refl);
              joined = λ z. refl;
              row_full = λ z. absurd (omega arith);
              lowest = λ z. absurd (omega arith);
              broken = λ z. absurd (omega arith);
            })

      -- the other file
      second : Enters l t g.area → Decided (merging f row g)
      second (out r' i) =
          rw (second_shut f g row e OutOfRange (sym (check_shut l t g.area _ refl OutOfRange i)))
          (plainly Second s.cap OutOfRange refl (past 201 (inl (r', refl))) (λ a. r' a.4) refl)
      second (other r' q' i) =
          rw (second_shut f g row e WrongArea (sym (check_shut l t g.area _ refl WrongArea i)))
          (plainly Second s.cap WrongArea refl (past 202 (inr (r', inl (q', refl)))) (λ a. q' a.5) refl)
      second (entered r' q' i) = go (judge (read_as f g) c r' q')
        where
          decide : check_gate l t g.area ≡ image_gate l t g.area
          decide = sym (check_pages l t g.area _ refl i (image_gate l t g.area) refl)

          go : Pages (read_as f g) → Decided (merging f row g)
          go (sick a w' z k) =
              rw (second_shut f g row e (Broken a (suc a)) (decide ∙ k))
              (refuses Second s.cap (Broken a (suc a)) refl (past 204 (inr (r', inr (q', inl ((a, w'.broken), refl))))) (λ v. z v.6) (λ x. ((λ y. absurd (omega arith)), (λ y. w'))))
          go (strange w' z k) =
              rw (second_shut f g row e (NotImage t.cap) (decide ∙ k))
              (plainly Second s.cap (NotImage t.cap) refl (past 209 (inr (r', inr (q', inr (w', inl (z, refl)))))) (λ v. z v.6) refl)
          go (whole w' m' k) = settled r' q' w' m' (settle f g (holds l s f.area b q m) (holds l t g.area c q' m') row e (decide ∙ k))

    -- the living file
    first : Enters l s f.area → Decided (merging f row g)
    first (out r i) =
        rw (first_shut f g row OutOfRange (sym (merge_shut l s f.area (length row) _ refl OutOfRange (sym (lent_shut l s (length f.area) (length row) _ refl OutOfRange i)))))
        (plainly First 0 OutOfRange refl (inl (r, refl)) (λ a. r a.1) refl)
    first (other r q i) =
        rw (first_shut f g row WrongArea (sym (merge_shut l s f.area (length row) _ refl WrongArea (sym (lent_shut l s (length f.area) (length row) _ refl WrongArea i)))))
        (plainly First 0 WrongArea refl (inr (r, inl (q, refl))) (λ a. q a.2) refl)
    first (entered r q i) = rows (ℕ_discrete (length row) s.cap)
      where
        pages : (d : length row ≡ s.cap) → merge_gate l s f.area (length row) ≡ image_gate l s f.area → Pages f → Decided (merging f row g)
        pages d o (sick a w z k) =
            rw (first_shut f g row (Broken a (suc a)) (o ∙ k))
            (refuses First 0 (Broken a (suc a)) refl (inr (r, inr (q, inr (d, inl ((a, w.broken), refl))))) (λ v. z v.0) (λ x. ((λ y. w), (λ y. absurd (omega arith)))))
        pages d o (strange w z k) =
            rw (first_shut f g row (NotImage s.cap) (o ∙ k))
            (plainly First 0 (NotImage s.cap) refl (inr (r, inr (q, inr (d, inr (w, inl (z, refl)))))) (λ v. z v.0) refl)
        pages d o (whole w m k) = second r q d w m (o ∙ k) (enter l t g.area)

        rows : Dec (length row ≡ s.cap) → Decided (merging f row g)
        rows (no d) =
            rw (first_shut f g row WrongRow (sym (merge_shut l s f.area (length row) _ refl WrongRow (sym (lent_row l s (length f.area) (length row) _ refl i d)))))
            (plainly First 0 WrongRow refl (inr (r, inr (q, inl (d, refl)))) (λ a. d a.3) refl)
        rows (yes d) = pages d (sym (merge_pages l s f.area (length row) _ refl (sym (lent_open l s (length f.area) (length row) _ refl i d)) (image_gate l s f.area) refl)) (judge f b r q)

    decided : Decided (merging f row g)
    decided = first (enter l s f.area)

    -- an accepted merge comes to one outcome
    pub joined_to_lem : number f row g ≡ 0 → merging f row g ≡ joined_to f g
    joined_to_lem = decided.joined

    pub any_files : OfAnyFiles f row g
    any_files =
        record {
          order = in_order (marked (says f row g)) (order f row g) refl decided.comes;
          accepted = decided.accepted;
          unchanged = decided.unchanged;
          row_accepted = λ z. ap (λ (o : Outcome). o.row) (joined_to_lem z);
          row_full = decided.row_full;
          lowest = decided.lowest;
          broken = decided.broken;
          joins = λ z.
              let a = decided.accepted.0 z in
              joins_both f g (holds l s f.area b a.2 a.0) (holds l t g.area c a.5 a.6) a.8 a.1 row (joined_to_lem z);
        }
