-- What the walks of find, put and remove answer on any bytes: which numbers, and 4 with a page that
-- is broken.
use mathlib.Core.Path.{◌≡◌, refl}
use mathlib.Core.Bool.{Bool, true, false, cond}
use mathlib.Core.Logic.{inl, inr}
use mathlib.Core.Option.{Option, none, some}
use mathlib.Core.List.{List, [], ◌∷◌}
use Prim.Native.Nat.{ℕ, zero, suc, ◌-◌, ◌≤◌}
use native.Mathlib.Omega.{arith}
use lib.Dec.{leb, ltb, eqb}
use lib.ListN.{length, take, get_or}
use Rattle.std.proofs.Common.{Ok, Err}
use Rattle.layouts.specs.Layout.{slots_of}
use Rattle.placing.specs.Lay.{rank_of, rank_in, ins}
use Rattle.placing.specs.Walks.{ends_on}
use Rattle.pages.specs.Page.{Record, vacant, key, value, records_in, read_page}
use Rattle.pages.specs.Places.{closed, ahead}
use Rattle.pages.specs.Area.{part_at, pages_from}
use Rattle.state.specs.declared.Refusal.TheVariants.{Broken, Held, Clash}
use Rattle.state.specs.declared.Numbers.{Numbers}
use Rattle.state.specs.Answer.{told, numbers}
use Rattle.state.specs.State.{homes}
use Rattle.walks.specs.declared.Met.TheVariants.{Found, Ends, AtEnd}
use Rattle.walks.specs.Walks.{Walks, held_at, on_held, meets, walk, Walked, went, stopped, and_page, carry, put_met, put_walk, pull_back, remove_met, remove_walk}
use Rattle.register.specs.Files.{put, remove, File}
use Rattle.demands.specs.Refusals.{BrokenAt, OneOf, gives}
use Rattle.demands.proofs.InOrder.{listed, one_of, none_of, each_of}

module _ (f : File) where
  abbrev h : ℕ → ℕ
  h = homes f.state

  abbrev cap : ℕ
  cap = f.state.cap

  -- the m pages from page a on
  abbrev from : (m a : ℕ) → List (Option (List Record))
  from m a = pages_from f.layout h f.area m a

  -- a page that the walk to a key calls broken is broken
  abbrev pub MetBroken : Walks → Type 0
  MetBroken (Ok m) = Unit {0}
  MetBroken (Err why) = (a : ℕ) × (n : ℕ) × (why ≡ Broken a n) × BrokenAt f a

  meets_broken : (k m a n : ℕ) → m ≤ cap - a → MetBroken (meets (slots_of f.layout) h k a n (from m a))
  meets_broken k zero a n l = tt
  meets_broken k (suc m) a n l = go (read_page f.layout h a (part_at f.area a)) refl (meets_broken k m (suc a) (suc n) (omega arith))
    where
      on : Walks
      on = meets (slots_of f.layout) h k (suc a) (suc n) (from m (suc a))

      held : (p : List Record) (o : Option (ℕ × ℕ)) (u : Bool) → MetBroken on
          → MetBroken (on_held o (λ i v. Ok (Found a i (length p) v (suc n))) (cond u (Ok (Ends a (ahead (rank_in key h) (rank_of h k) p) (length p) (suc n))) on))
      held p (some w) u t = tt
      held p none true t = tt
      held p none false t = t

      go : (o : Option (List Record)) → read_page f.layout h a (part_at f.area a) ≡ o → MetBroken on → MetBroken (meets (slots_of f.layout) h k a n (o ∷ from m (suc a)))
      go none q t = (a, suc n, refl, (omega arith, q))
      go (some p) q t = held p (held_at k 0 p) (ends_on (rank_in key h) (slots_of f.layout) (rank_of h k) p) t

  pub walk_broken : (k : ℕ) → MetBroken (walk f.layout h f.area cap k)
  unfolding walk
  walk_broken k = meets_broken k (cap - h k) (h k) 0 (omega arith)

  -- where a walk stops: one of the numbers of its call, and none that stands before or after the
  -- walk; 4 with a page that is broken
  pub record Stop (ks : List ℕ) (n : Numbers) : Type 0 where
    pub gives : OneOf n.refusal ks
    pub met : OneOf n.refusal (0 ∷ 1 ∷ 2 ∷ 9 ∷ []) → ⊥
    pub broken : n.refusal ≡ 4 → BrokenAt f n.page

  abbrev pub StopsWith : List ℕ → Walked → Type 0
  StopsWith ks (went ws n m) = Unit {0}
  StopsWith ks (stopped why) = Stop ks (numbers (Err why))

  -- with 4, and with another number
  stop_broken : (ks : List ℕ) (a n : ℕ) → listed 4 ks ≡ true → BrokenAt f a → Stop ks (told 4 a 0 n 0)
  stop_broken ks a n g b = record { gives = one_of 4 ks g; met = none_of 4 (0 ∷ 1 ∷ 2 ∷ 9 ∷ []) refl; broken = λ e. b }

  stop : (ks : List ℕ) (k v n : ℕ) → listed k ks ≡ true → listed k (4 ∷ 0 ∷ 1 ∷ 2 ∷ 9 ∷ []) ≡ false → Stop ks (told k 0 v n 0)
  stop ks k v n g d =
      let away = none_of k (4 ∷ 0 ∷ 1 ∷ 2 ∷ 9 ∷ []) d in
      record { gives = one_of k ks g; met = λ w. away (inr w); broken = λ e. absurd (away (inl e)) }

  wrote_stops : (ks : List ℕ) (a : ℕ) (p : List Record) (w : Walked) → StopsWith ks w → StopsWith ks (and_page a p w)
  wrote_stops ks a p (went ws n m) t = tt
  wrote_stops ks a p (stopped why) t = t

  -- from the ending page on a put gives 4 or 7
  abbrev carry_stops : List ℕ
  carry_stops = 4 ∷ 7 ∷ []

  pub carry_stops_lem : (m a n c : ℕ) (x : Record) → m ≤ cap - a → StopsWith carry_stops (carry (slots_of f.layout) h a n c x (from m a))
  carry_stops_lem zero a n c x l = stop carry_stops 7 0 n refl refl
  carry_stops_lem (suc m) a n c x l = go (read_page f.layout h a (part_at f.area a)) refl (λ y. carry_stops_lem m (suc a) (suc n) (suc c) y (omega arith))
    where
      room : (q : List Record) (u : Bool) (on : Walked) → StopsWith carry_stops on → StopsWith carry_stops (cond u (went ((a, q) ∷ []) (suc n) c) (and_page a (take (slots_of f.layout) q) on))
      room q true on t = tt
      room q false on t = wrote_stops carry_stops a (take (slots_of f.layout) q) on t

      go : (o : Option (List Record)) → read_page f.layout h a (part_at f.area a) ≡ o → ((y : Record) → StopsWith carry_stops (carry (slots_of f.layout) h (suc a) (suc n) (suc c) y (from m (suc a))))
          → StopsWith carry_stops (carry (slots_of f.layout) h a n c x (o ∷ from m (suc a)))
      go none q on = stop_broken carry_stops a (suc n) refl (omega arith, q)
      go (some p) q on =
          let r = ins (rank_in key h) x p in
          let y = get_or r (slots_of f.layout) x in
          room r (ltb (length p) (slots_of f.layout)) (carry (slots_of f.layout) h (suc a) (suc n) (suc c) y (from m (suc a))) (on y)

  -- the numbers of any put
  abbrev put_stops : List ℕ
  put_stops = gives (put vacant)

  carry_put : (w : Walked) → StopsWith carry_stops w → StopsWith put_stops w
  carry_put (went ws n m) t = tt
  carry_put (stopped why) t =
      record {
        gives = each_of (λ k. OneOf k put_stops) (numbers (Err why)).refusal carry_stops (one_of 4 put_stops refl, (one_of 7 put_stops refl, tt)) t.gives;
        met = t.met;
        broken = t.broken;
      }

  pub put_stops_lem : (x : Record) → StopsWith put_stops (put_walk f.layout h f.area cap x)
  unfolding put_walk
  put_stops_lem x = go (walk f.layout h f.area cap (key x)) (walk_broken (key x))
    where
      held : (u : Bool) (v n : ℕ) → Stop put_stops (numbers (Err (cond u (Held v n) (Clash v n))))
      held true v n = stop put_stops 6 v n refl refl
      held false v n = stop put_stops 13 v n refl refl

      go : (m : Walks) → MetBroken m → StopsWith put_stops (put_met f.layout h f.area cap x m)
      go (Ok (Found a i c v n)) t = held (eqb (value x) v) v n
      go (Err why) t = rw t.2 (stop_broken put_stops t.0 t.1 refl t.3)
      go (Ok (Ends a i c n)) t = carry_put (carry (slots_of f.layout) h a (n - 1) 0 x (from (cap - a) a)) (carry_stops_lem (cap - a) a (n - 1) 0 x (omega arith))
      go (Ok (AtEnd n)) t = stop put_stops 7 0 n refl refl

  -- and of any removal
  abbrev remove_stops : List ℕ
  remove_stops = gives (remove 0)

  back_stops : (m a n c : ℕ) (p : List Record) → m ≤ cap - suc a → StopsWith remove_stops (pull_back (slots_of f.layout) h a n c p (from m (suc a)))
  back_stops zero a n c p l = tt
  back_stops (suc m) a n c p l = go (read_page f.layout h (suc a) (part_at f.area (suc a))) refl (λ q. back_stops m (suc a) (suc n) (suc c) q (omega arith))
    where
      next : (y : Record) (q : List Record) (u v : Bool) (on : Walked) → StopsWith remove_stops on
          → StopsWith remove_stops (cond u (and_page a (ins (rank_in key h) y p) (cond v (went ((suc a, q) ∷ []) (suc n) (suc c)) on)) (went ((a, p) ∷ []) (suc n) c))
      next y q true true on t = tt
      next y q true false on t = wrote_stops remove_stops a (ins (rank_in key h) y p) on t
      next y q false v on t = tt

      go : (o : Option (List Record)) → read_page f.layout h (suc a) (part_at f.area (suc a)) ≡ o
          → ((q : List Record) → StopsWith remove_stops (pull_back (slots_of f.layout) h (suc a) (suc n) (suc c) q (from m (suc (suc a)))))
          → StopsWith remove_stops (pull_back (slots_of f.layout) h a n c p (o ∷ from m (suc (suc a))))
      go none q on = stop_broken remove_stops (suc a) (suc n) refl (omega arith, q)
      go (some []) q on = tt
      go (some (y ∷ r)) q on = next y r (leb (h (key y)) a) (ltb (suc (length r)) (slots_of f.layout)) (pull_back (slots_of f.layout) h (suc a) (suc n) (suc c) r (from m (suc (suc a)))) (on r)

  pub remove_stops_lem : (k : ℕ) → StopsWith remove_stops (remove_walk f.layout h f.area cap k)
  unfolding remove_walk
  remove_stops_lem k = go (walk f.layout h f.area cap k) (walk_broken k)
    where
      full : (u : Bool) (a i n : ℕ) (p : List Record) → StopsWith remove_stops (cond u (went ((a, closed i p) ∷ []) n 0) (pull_back (slots_of f.layout) h a n 0 (closed i p) (from (cap - suc a) (suc a))))
      full true a i n p = tt
      full false a i n p = back_stops (cap - suc a) a n 0 (closed i p) (omega arith)

      go : (m : Walks) → MetBroken m → StopsWith remove_stops (remove_met f.layout h f.area cap m)
      go (Ok (Found a i c v n)) t = let p = records_in f.layout (part_at f.area a) in full (ltb (length p) (slots_of f.layout)) a i n p
      go (Err why) t = rw t.2 (stop_broken remove_stops t.0 t.1 refl t.3)
      go (Ok (Ends a i c n)) t = stop remove_stops 5 0 n refl refl
      go (Ok (AtEnd n)) t = stop remove_stops 5 0 n refl refl
