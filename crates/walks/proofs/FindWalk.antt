-- Find on good bytes: it answers with what the walk on the pages finds.
use mathlib.Core.Path.{◌≡◌, refl}
use mathlib.Core.Bool.{Bool, true, false, cond}
use mathlib.Core.Option.{Option, none, some}
use mathlib.Core.List.{List, [], ◌∷◌, map}
use Prim.Native.Nat.{ℕ, suc, ◌^◌, ◌≤◌, ◌<◌}
use lib.ListN.{length, drop}
use Rattle.std.proofs.Common.{Ok, Err}
use Rattle.layouts.specs.Layout.{Layout, slots_of}
use Rattle.placing.specs.Image.{All, cat}
use Rattle.placing.specs.Lay.{rank_of, rank_in}
use Rattle.placing.specs.Walks.{ends_on, find, find_in}
use Rattle.placing.proofs.Lists.{all_left, all_right}
use Rattle.pages.specs.Page.{Record, key, value}
use Rattle.pages.specs.Places.{ahead}
use Rattle.pages.specs.Area.{area_from}
use Rattle.state.specs.declared.Refusal.TheVariants.{Absent}
use Rattle.state.specs.Answer.{Answer, accepted}
use Rattle.walks.specs.declared.Met.TheVariants.{Found, Ends}
use Rattle.walks.specs.Walks.{Walks, held_at, on_held, meets, walk, find_answer}
use Rattle.walks.proofs.Holds.{Small, away_rank, here_rank}
use Rattle.walks.proofs.Clean.{Clean, clean_from, InOrder, order_from}

-- find's answer, by the record found
abbrev pub FindGoes : Option Record → Answer → Type 0
FindGoes (some x) a = (n : ℕ) × (a ≡ Ok (accepted (value x) n 0))
FindGoes none a = (n : ℕ) × (a ≡ Err (Absent n))

find_goes : (b : ℕ) (h : ℕ → ℕ) (k : ℕ) → k < 2 ^ 64 → (a n : ℕ) (qs : List (List Record)) → All Small (cat qs [])
    → FindGoes (find (rank_in key h) b (rank_of h k) qs) (find_answer (meets b h k a n (map some qs)))
find_goes b h k l a n [] s = (n, refl)
find_goes b h k l a n (p ∷ qs) s =
    go (held_at k 0 p) (ends_on (rank_in key h) b (rank_of h k) p) refl refl (find_goes b h k l (suc a) (suc n) qs (all_right Small p (cat qs []) s))
  where
    small : All Small p
    small = all_left Small p (cat qs []) s

    on : Walks
    on = meets b h k (suc a) (suc n) (map some qs)

    go : (o : Option (ℕ × ℕ)) (u : Bool) → held_at k 0 p ≡ o → ends_on (rank_in key h) b (rank_of h k) p ≡ u → FindGoes (find (rank_in key h) b (rank_of h k) qs) (find_answer on)
        → FindGoes (find (rank_in key h) b (rank_of h k) (p ∷ qs))
        (find_answer (on_held o (λ i v. Ok (Found a i (length p) v (suc n))) (cond u (Ok (Ends a (ahead (rank_in key h) (rank_of h k) p) (length p) (suc n))) on)))
    go (some w) u e d t = rw (here_rank k h p l small e) (suc n, refl)
    go none true e d t = rw (away_rank k h p l small e, d) (suc n, refl)
    go none false e d t = rw (away_rank k h p l small e, d) t

pub find_clean : {form : Layout} {h : ℕ → ℕ} {n : ℕ} {ps : List (List Record)} → Clean form h n ps → InOrder (slots_of form) h ps → (k : ℕ) → k < 2 ^ 64 → h k ≤ n
    → FindGoes (find_in key h (slots_of form) k ps) (find_answer (walk form h (area_from form 0 ps) n k))
unfolding walk
find_clean {form} {h} {n} {ps} c o k l g = rw (clean_from c (h k) g) (find_goes (slots_of form) h k l (h k) 0 (drop (h k) ps) (order_from (h k) ps o).small)
