-- Remove on good bytes: it makes of them what the walk on the pages makes.
use mathlib.Core.Path.{◌≡◌, refl}
use mathlib.Core.Bool.{Bool, true, false, cond}
use mathlib.Core.Option.{Option, none, some}
use mathlib.Core.List.{List, [], ◌∷◌, ◌++◌, map}
use Prim.Native.Nat.{ℕ, suc, ◌+◌, ◌^◌, ◌≤◌, ◌<◌}
use native.Mathlib.Omega.{arith}
use lib.Dec.{leb, ltb}
use lib.ListN.{length, take, drop, length-append, take-append-drop}
use lib.Seq.{append_snoc, length-take-le}
use Rattle.std.proofs.Common.{Ok}
use Rattle.layouts.specs.Layout.{Layout, slots_of}
use Rattle.placing.specs.Image.{All, cat, home_of, Distinct}
use Rattle.placing.specs.Lay.{rank_of, rank_in, ins}
use Rattle.placing.specs.Rows.{strays, strayed}
use Rattle.placing.specs.Walks.{ends_on, del, find, remove, find_in, remove_in, pull_back}
use Rattle.placing.proofs.Lists.{all_left}
use Rattle.placing.proofs.Seek.{del_all}
use Rattle.placing.proofs.Strays.{distinct_right, apart, There, there, strays_none, strayed_none, strayed_after, strays-ins}
use Rattle.pages.specs.Page.{Record, key}
use Rattle.pages.specs.Places.{closed, ahead}
use Rattle.pages.specs.Area.{area_from}
use Rattle.state.specs.declared.Refusal.TheVariants.{Absent}
use Rattle.walks.specs.declared.Met.TheVariants.{Found, Ends}
use Rattle.walks.specs.Walks.{Walks, held_at, on_held, meets, walk, Walked, went, stopped, and_page, remove_met, remove_walk, pull_back as pulls}
use Rattle.walks.proofs.Holds.{Small, away_rank, here_rank, here_del}
use Rattle.walks.proofs.Clean.{Clean, clean_from, clean_here, clean_next, InOrder, order_next, order_from}
use Rattle.walks.proofs.Went.{Went, wrote_went, one_went}

module _ (form : Layout) (b : ℕ) (h : ℕ → ℕ) where
  abbrev rank : Record → ℕ
  rank = rank_in key h

  -- where page a was full, with these records, and p is left of it: the records that come back are
  -- those of the walk on the pages, and each counts
  pulls_went : (front : List (List Record)) (a n m t : ℕ) → length front ≡ a → (was p : List Record) (qs : List (List Record)) → All (There key was) p
      → Distinct key (was ++ cat qs []) → m + strayed key (was ∷ qs) (pull_back rank (home_of key h) b a p qs) ≡ t
      → Went form (front ++ (was ∷ qs)) (front ++ pull_back rank (home_of key h) b a p qs) t (pulls b h a n m p (map some qs))
  pulls_went front a n m t at was p [] s d e = one_went form front a at was p [] n m (omega (arith, strays_none key was p s))
  pulls_went front a n m t at was p ([] ∷ qs) s d e =
      one_went form front a at was p ([] ∷ qs) (suc n) m (omega (arith, strays_none key was p s, strayed_none key ([] ∷ qs)))
  pulls_went front a n m t at was p ((y ∷ q) ∷ qs) s d e =
      go (leb (h (key y)) a) (ltb (suc (length q)) b) e
      (pulls_went front' (suc a) (suc n) (suc m) t at' (y ∷ q) q qs (there key (y ∷ q)).1 (distinct_right key was ((y ∷ q) ++ cat qs []) d))
    where
      -- this page with the first of the next
      p' : List Record
      p' = ins rank y p

      front' : List (List Record)
      front' = front ++ (p' ∷ [])

      at' : length front' ≡ suc a
      at' = omega (arith, length-append front (p' ∷ []))

      back : List (List Record)
      back = pull_back rank (home_of key h) b (suc a) q qs

      on : Walked
      on = pulls b h (suc a) (suc n) (suc m) q (map some qs)

      -- which is new there
      new : strays key was p' ≡ 1
      new = strays-ins key rank was y p (apart key was y (q ++ cat qs []) d) s

      go : (u v : Bool) → m + strayed key (was ∷ ((y ∷ q) ∷ qs)) (cond u (p' ∷ cond v (q ∷ qs) back) (p ∷ ((y ∷ q) ∷ qs))) ≡ t
          → (suc m + strayed key ((y ∷ q) ∷ qs) back ≡ t → Went form (front' ++ ((y ∷ q) ∷ qs)) (front' ++ back) t on)
          → Went form (front ++ (was ∷ ((y ∷ q) ∷ qs))) (front ++ cond u (p' ∷ cond v (q ∷ qs) back) (p ∷ ((y ∷ q) ∷ qs))) t
          (cond u (and_page a p' (cond v (went ((suc a, q) ∷ []) (suc n) (suc m)) on)) (went ((a, p) ∷ []) (suc n) m))
      go true true e ih =
          let k : suc m ≡ t = omega (arith, e, new, strays_none key (y ∷ q) q (there key (y ∷ q)).1, strayed_none key qs) in
          wrote_went form front a at was p' ((y ∷ q) ∷ qs) (simp append_snoc at (one_went form front' (suc a) at' (y ∷ q) q qs (suc n) (suc m) k))
      go true false e ih = wrote_went form front a at was p' ((y ∷ q) ∷ qs) (simp append_snoc at (ih (omega (arith, e, new))))
      go false v e ih = one_went form front a at was p ((y ∷ q) ∷ qs) (suc n) m (omega (arith, e, strays_none key was p s, strayed_none key ((y ∷ q) ∷ qs)))

  -- the page a that holds the key, after those in front
  taken_went : (k i v a n : ℕ) (front : List (List Record)) (p : List Record) (qs : List (List Record)) → k < 2 ^ 64 → length front ≡ a → InOrder b h (p ∷ qs)
      → held_at k 0 p ≡ some (i, v)
      → Went form (front ++ (p ∷ qs)) (front ++ remove rank (home_of key h) b a (rank_of h k) (p ∷ qs)) (strayed key (front ++ (p ∷ qs)) (front ++ remove rank (home_of key h) b a (rank_of h k) (p ∷ qs)))
      (cond (ltb (length p) b) (went ((a, closed i p) ∷ []) n 0) (pulls b h a n 0 (closed i p) (map some qs)))
  taken_went k i v a n front p qs l at o e = rw (here_rank k h p l small e, here_del k h p l small e) (go (ltb (length p) b))
    where
      small : All Small p
      small = all_left Small p (cat qs []) o.small

      d : List Record
      d = del rank (rank_of h k) p

      left : All (There key p) d
      left = del_all rank (There key p) (rank_of h k) p (there key p)

      go : (u : Bool) → Went form (front ++ (p ∷ qs)) (front ++ cond u (d ∷ qs) (pull_back rank (home_of key h) b a d qs))
          (strayed key (front ++ (p ∷ qs)) (front ++ cond u (d ∷ qs) (pull_back rank (home_of key h) b a d qs)))
          (cond u (went ((a, d) ∷ []) n 0) (pulls b h a n 0 d (map some qs)))
      go true = one_went form front a at p d qs n 0 (omega (arith, strayed_after key front (p ∷ qs) (d ∷ qs), strays_none key p d left, strayed_none key qs))
      go false =
          pulls_went front a n 0 _ at p d qs left o.once
          (omega (arith, strayed_after key front (p ∷ qs) (pull_back rank (home_of key h) b a d qs)))

-- what a remove comes to, by what find finds: it leaves the pages qs and tells as many records as
-- lie on another page there, or the key is not held
abbrev pub RemoveGoes : Layout → List (List Record) → Option Record → List (List Record) → Walked → Type 0
RemoveGoes form ps (some y) qs w = Went form ps qs (strayed key ps qs) w
RemoveGoes form ps none qs w = (n : ℕ) × (w ≡ stopped (Absent n))

module _ (form : Layout) (h : ℕ → ℕ) (n k : ℕ) (l : k < 2 ^ 64) where
  -- how a remove goes from page a on, which comes after those in front
  abbrev Goes : (front qs new : List (List Record)) → Walks → Type 0
  Goes front qs new m = RemoveGoes form (front ++ qs) (find (rank_in key h) (slots_of form) (rank_of h k) qs) (front ++ new) (remove_met form h (area_from form 0 (front ++ qs)) n m)

  remove_goes : (front qs : List (List Record)) (a j : ℕ) → length front ≡ a → Clean form h n (front ++ qs) → InOrder (slots_of form) h qs
      → Goes front qs (remove (rank_in key h) (home_of key h) (slots_of form) a (rank_of h k) qs) (meets (slots_of form) h k a j (map some qs))
  remove_goes front [] a j at c i = (j, refl)
  remove_goes front (p ∷ qs) a j at c i =
      go (held_at k 0 p) (ends_on (rank_in key h) (slots_of form) (rank_of h k) p) refl refl
      (remove_goes (front ++ (p ∷ [])) qs (suc a) (suc j) (omega (arith, length-append front (p ∷ []))) (rw (append_snoc front p qs) c) (order_next i))
    where
      small : All Small p
      small = all_left Small p (cat qs []) i.small

      new : List (List Record)
      new = remove (rank_in key h) (home_of key h) (slots_of form) (suc a) (rank_of h k) qs

      on : Walks
      on = meets (slots_of form) h k (suc a) (suc j) (map some qs)

      go : (o : Option (ℕ × ℕ)) (u : Bool) → held_at k 0 p ≡ o → ends_on (rank_in key h) (slots_of form) (rank_of h k) p ≡ u → Goes (front ++ (p ∷ [])) qs new on
          → Goes front (p ∷ qs) (remove (rank_in key h) (home_of key h) (slots_of form) a (rank_of h k) (p ∷ qs))
          (on_held o (λ i v. Ok (Found a i (length p) v (suc j))) (cond u (Ok (Ends a (ahead (rank_in key h) (rank_of h k) p) (length p) (suc j))) on))
      go (some w) u e d ih =
          let t = taken_went form (slots_of form) h k w.0 w.1 a (suc j) front p qs l at i e in
          rw (here_rank k h p l small e, clean_here front a at p qs c, clean_next front a at p qs c) (rw (here_rank k h p l small e) at t)
      go none true e d ih = rw (away_rank k h p l small e, d) (suc j, refl)
      go none false e d ih = rw (away_rank k h p l small e, d) (simp append_snoc at ih)

  pub remove_clean : {ps : List (List Record)} → Clean form h n ps → InOrder (slots_of form) h ps → h k ≤ n
      → RemoveGoes form ps (find_in key h (slots_of form) k ps) (remove_in key h (slots_of form) k ps) (remove_walk form h (area_from form 0 ps) n k)
  unfolding remove_walk walk
  remove_clean {ps} c i g =
      let at : length (take (h k) ps) ≡ h k = length-take-le (h k) ps (omega (arith, c.many)) in
      rw (clean_from c (h k) g)
      (rw (take-append-drop (h k) ps) at (remove_goes (take (h k) ps) (drop (h k) ps) (h k) 0 at (rw take-append-drop c) (order_from (h k) ps i)))
