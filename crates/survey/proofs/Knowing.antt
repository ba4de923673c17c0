-- What is known of new homes on pages that are an image for the old ones.
use mathlib.Core.Path.{◌≡◌, refl}
use mathlib.Core.Bool.{Bool, true, false, not, false≢true}
use mathlib.Core.Logic.{⊎_elim}
use mathlib.Core.List.{List, [], ◌∷◌}
use Prim.Native.Nat.{ℕ, zero, suc, ◌+◌, ◌≤◌, ◌<◌}
use native.Mathlib.Omega.{arith}
use borrow.Author.Tests.{leb-true, le-leb}
use Rattle.layouts.specs.Layout.{Layout}
use Rattle.homes.specs.declared.new_homes.NewHomes.{NewHomes}
use Rattle.homes.specs.Steps.NewHomes.{new_home, keeps_at, Agrees}
use Rattle.draws.proofs.Split.{split}
use Rattle.placing.specs.Image.{All}
use Rattle.placing.specs.Lay.{rank_in, Sorted}
use Rattle.placing.proofs.Lists.{all_map, all_map₂}
use Rattle.placing.proofs.Rank.{mono}
use Rattle.numbers.proofs.Records.{and_left, and_right}
use Rattle.pages.specs.Page.{Record, key, records_in}
use Rattle.pages.specs.Area.{part_at, held_from}
use Rattle.pages.specs.Steps.Known.{AllHere, OnceHere, Known, full_before, KnownHere, KnownAt}
use Rattle.pages.proofs.Rules.{homes_all, rises_sorted}
use Rattle.survey.specs.Survey.{starts_at_home, next_low, image_from, is_image}
use Rattle.survey.proofs.ImageTest.{GoodPage, GoodFrom, three}

module _ (h : ℕ → ℕ) (a : ℕ) where
  -- after a record that is at home on its page, all are
  all_after : (x : Record) (p : List Record) → a ≤ h (key x) → Sorted (rank_in key h) (x ∷ p) → All (λ y. h (key y) ≤ a) p → AllHere h a p
  all_after x p l s t =
      all_map₂ (λ y. rank_in key h x < rank_in key h y) (λ y. h (key y) ≤ a) (λ y. h (key y) ≡ a) (λ y u v. omega (arith, mono key h x y (omega arith))) p s.0 t

  once_here : (p : List Record) → Sorted (rank_in key h) p → All (λ y. h (key y) ≤ a) p → OnceHere h a p
  once_here [] s t = tt
  once_here (x ∷ p) s t = (λ e. all_after x p (omega arith) s t.1, once_here p s.1 t.1)

  -- after a page that isn't full, all are at home
  all_here : (p : List Record) → starts_at_home h false a p ≡ true → Sorted (rank_in key h) p → All (λ y. h (key y) ≤ a) p → AllHere h a p
  all_here [] e s t = tt
  all_here (x ∷ p) e s t =
      let l : a ≤ h (key x) = leb-true a (h (key x)) e in
      (omega (arith, t.0), all_after x p l s t.1)

-- h are the homes for which the pages are an image
module _ (f : Layout) (h : ℕ → ℕ) where
  -- what is known of a page that keeps its rules and begins rightly after the page before it
  page_here : (full : Bool) (a : ℕ) (p : List Record) → GoodPage f h a p → starts_at_home h full a p ≡ true → Known h a (not full) true p
  page_here full a p k e = (λ t. go full e t, λ t. once_here h a p sorted low)
    where
      sorted : Sorted (rank_in key h) p
      sorted = rises_sorted h p k.rising

      low : All (λ y. h (key y) ≤ a) p
      low = homes_all h a p k.homes

      go : (u : Bool) → starts_at_home h u a p ≡ true → not u ≡ true → AllHere h a p
      go true q t = absurd (false≢true t)
      go false q t = all_here h a p q sorted low

  module _ (area : List ℕ) where
    -- so it is for all pages from a on
    here_from : (n a low b : ℕ) → GoodFrom f h a (held_from f area n a) → image_from f h (full_before f area a) low a (held_from f area n a) ≡ true
        → a ≤ b → b < a + n → KnownHere f h area b
    here_from zero a low b k e l m = absurd (omega arith)
    here_from (suc n) a low b k e l m =
        let p : List Record = records_in f (part_at area a) in
        let t = three f h (full_before f area a) low a p (held_from f area n (suc a)) e in
        ⊎_elim
        (λ lt. here_from n (suc a) (next_low h low p) b k.1 t.2 (omega arith) (omega arith))
        (λ ge. let q : b ≡ a = omega arith in rw q (page_here (full_before f area a) a p k.0 t.0))
        (split a b)

    -- page 0 begins rightly after none
    from_none : (ps : List (List Record)) → image_from f h true 0 0 ps ≡ true → image_from f h false 0 0 ps ≡ true
    from_none [] e = refl
    from_none (p ∷ ps) e = rw (begins p) (and_right true _ e)
      where
        begins : (p : List Record) → starts_at_home h false 0 p ≡ true
        begins [] = refl
        begins (x ∷ p) = le-leb 0 (h (key x)) (omega arith)

    -- and for every page of an image
    pub image_here : (n : ℕ) → GoodFrom f h 0 (held_from f area n 0) → is_image f h (held_from f area n 0) ≡ true → (b : ℕ) → b < n → KnownHere f h area b
    unfolding is_image
    image_here n k e b l = here_from n 0 0 b k (from_none (held_from f area n 0) e) (omega arith) (omega arith)

    -- the same of new homes, which agree with h
    module _ (new : NewHomes) (same : Agrees h new) where
      module _ (a : ℕ) (on : keeps_at new a ≡ true) where
        all_still : (p : List Record) → AllHere h a p → AllHere (new_home new) a p
        all_still p k = all_map (λ x. h (key x) ≡ a) (λ x. new_home new (key x) ≡ a) (λ x e. (same (key x) a on).0 e) p k

        once_still : (p : List Record) → OnceHere h a p → OnceHere (new_home new) a p
        once_still [] k = tt
        once_still (x ∷ p) k = (λ e. all_still p (k.0 ((same (key x) a on).1 e)), once_still p k.1)

      pub image_known : (n : ℕ) → GoodFrom f h 0 (held_from f area n 0) → is_image f h (held_from f area n 0) ≡ true → (b : ℕ) → b < n → KnownAt f new area b
      image_known n k e b l =
          let w = image_here n k e b l in
          let p : List Record = records_in f (part_at area b) in
          let open_page : Bool = not (full_before f area b) in
          (λ t. all_still b (and_left (keeps_at new b) open_page t) p (w.0 (and_right (keeps_at new b) open_page t)), λ t. once_still b t p (w.1 refl))
