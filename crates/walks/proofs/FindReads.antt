-- How many pages a find judges on good pages: those from the home to the page that holds the key,
-- or to the one that a put of it would put it on.
use mathlib.Core.Path.{◌≡◌, refl, ap, ◌∙◌}
use mathlib.Core.Bool.{Bool, true, false, cond}
use mathlib.Core.Option.{Option, none, some}
use mathlib.Core.List.{List, [], ◌∷◌, ◌++◌, map}
use Prim.Native.Nat.{ℕ, suc, ◌+◌, ◌^◌, ◌≤◌, ◌<◌}
use native.Mathlib.Omega.{arith}
use lib.ListN.{length, take, drop, length-append, take-append-drop}
use lib.Seq.{append_snoc, length-take-le, get_or_at, get_or-append-add}
use Rattle.layouts.proofs.Lying.{slots_few}
use Rattle.std.proofs.Common.{Ok}
use Rattle.layouts.specs.Layout.{Layout, slots_of}
use Rattle.placing.specs.Image.{All, cat, page}
use Rattle.placing.specs.Lay.{rank_in}
use Rattle.placing.specs.Walks.{seek, ends_on, find, find_in, carry as carried, put, put_in}
use Rattle.placing.proofs.Lists.{all_left, all_right}
use Rattle.placing.proofs.Strays.{distinct_left, first_holds}
use Rattle.pages.specs.Page.{Record, key}
use Rattle.pages.specs.Places.{ahead}
use Rattle.pages.specs.Area.{area_from}
use Rattle.state.specs.Answer.{numbers}
use Rattle.walks.specs.declared.Met.TheVariants.{Found, Ends}
use Rattle.walks.specs.Walks.{Walks, held_at, on_held, meets, walk, find_answer}
use Rattle.walks.proofs.Holds.{Small, here, away_rank, here_rank}
use Rattle.walks.proofs.Clean.{Clean, clean_from, InOrder, order_next, order_from, Others, others_from}

-- the pages judged
abbrev read_by : Walks → ℕ
read_by m = (numbers (find_answer m)).read

module _ (x : Record) where
  -- page c of these holds the key with record y
  abbrev On : List (List Record) → Record → (c : ℕ) → Type 0
  On ps y c = seek key (key x) (page ps c) ≡ some y

  -- the walk judges the pages below r: up to the one that holds the record found or, where put has
  -- room for x, the one that takes it
  abbrev pub JudgesTo : (ps : List (List Record)) → (List (List Record) × List Record) → Option Record → (r : ℕ) → Type 0
  JudgesTo ps o (some y) r = (c : ℕ) × (r ≡ suc c) × On ps y c
  JudgesTo ps o none r = o.1 ≡ [] → (c : ℕ) × (r ≡ suc c) × On o.0 x c

module _ (b : ℕ) (pos : 0 < b) (h : ℕ → ℕ) (x : Record) (l : key x < 2 ^ 64) where
  abbrev rank : Record → ℕ
  rank = rank_in key h

  -- from page a on, which comes after those in front
  abbrev Goes : (g : ℕ) (front qs : List (List Record)) → (List (List Record) × List Record) → Walks → Type 0
  Goes g front qs o m = (g + read_by m ≤ length (front ++ qs)) × JudgesTo x (front ++ qs) (front ++ o.0, o.1) (find rank b (rank x) qs) (g + read_by m)

  judges : (g : ℕ) (front qs : List (List Record)) (a j : ℕ) → length front ≡ a → g + j ≡ a → InOrder b h qs → (find rank b (rank x) qs ≡ none → Others x qs)
      → Goes g front qs (put rank b x qs) (meets b h (key x) a j (map some qs))
  judges g front [] a j at e i f = (omega (arith, length-append front []), λ z. absurd (let q : ◌≡◌ {A = ℕ} 0 1 = cc in omega arith))
  judges g front (p ∷ qs) a j at k i f =
      go (held_at (key x) 0 p) (ends_on rank b (rank x) p) refl refl
      (judges g (front ++ (p ∷ [])) qs (suc a) (suc j) (omega (arith, length-append front (p ∷ []))) (omega arith) (order_next i))
    where
      small : All Small p
      small = all_left Small p (cat qs []) i.small

      on : Walks
      on = meets b h (key x) (suc a) (suc j) (map some qs)

      few : g + suc j ≤ length (front ++ (p ∷ qs))
      few = omega (arith, length-append front (p ∷ qs))

      go : (o : Option (ℕ × ℕ)) (u : Bool) → held_at (key x) 0 p ≡ o → ends_on rank b (rank x) p ≡ u
          → ((find rank b (rank x) qs ≡ none → Others x qs) → Goes g (front ++ (p ∷ [])) qs (put rank b x qs) on)
          → Goes g front (p ∷ qs) (cond u (carried rank b x (p ∷ qs)) (p ∷ (put rank b x qs).0, (put rank b x qs).1))
          (on_held o (λ i v. Ok (Found a i (length p) v (suc j))) (cond u (Ok (Ends a (ahead rank (rank x) p) (length p) (suc j))) on))
      go (some w) u e d ih = rw (here_rank (key x) h p l small e) (few, (a, omega arith, ap (λ (s : List Record). seek key (key x) s) (get_or_at front p qs [] a at) ∙ (here (key x) p e).1))
      go none true e d ih =
          let new : Others x (p ∷ qs) = f (rw (away_rank (key x) h p l small e, d)) in
          let q : List (List Record) = (carried rank b x (p ∷ qs)).0 in
          let z : a ≡ length front + 0 = omega arith in
          let takes : On x (front ++ q) x a =
          ap (λ (c : ℕ). seek key (key x) (page (front ++ q) c)) z
          ∙ ap (λ (s : List Record). seek key (key x) s) (get_or-append-add front q 0 [])
          ∙ first_holds key rank b pos x p qs i.slots.0 d (distinct_left key (x ∷ p) (cat qs []) (new, i.once)) in
          rw (away_rank (key x) h p l small e, d) (few, λ r. (a, omega arith, takes))
      go none false e d ih =
          let others : find rank b (rank x) qs ≡ none → Others x qs = λ z. all_right (λ y. key y ≡ key x → ⊥) p (cat qs []) (f (rw (away_rank (key x) h p l small e, d) z)) in
          rw (away_rank (key x) h p l small e, d) (simp append_snoc at (ih others))

-- on good bytes: no more than there are
pub find_judges : {form : Layout} {h : ℕ → ℕ} {n : ℕ} {ps : List (List Record)} → Clean form h n ps → InOrder (slots_of form) h ps → (x : Record) (l : key x < 2 ^ 64) → h (key x) ≤ n
    → (find_in key h (slots_of form) (key x) ps ≡ none → Others x ps)
    → (h (key x) + read_by (walk form h (area_from form 0 ps) n (key x)) ≤ n)
    × JudgesTo x ps (put_in key h (slots_of form) x ps) (find_in key h (slots_of form) (key x) ps) (h (key x) + read_by (walk form h (area_from form 0 ps) n (key x)))
unfolding walk
find_judges {form} {h} {n} {ps} c i x l g f =
    let a : ℕ = h (key x) in
    let at : length (take a ps) ≡ a = length-take-le a ps (omega (arith, c.many)) in
    let t = judges (slots_of form) (slots_few form).0 h x l a (take a ps) (drop a ps) a 0 at (omega arith) (order_from a ps i) (λ z. others_from x a ps (f z)) in
    rw (clean_from c a g) (rw (take-append-drop a ps, c.many) at t)
