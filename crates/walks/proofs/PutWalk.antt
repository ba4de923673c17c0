-- Put on good bytes: it makes of them what the walk on the pages makes.
use mathlib.Core.Path.{◌≡◌, refl, ap}
use mathlib.Core.Bool.{Bool, true, false, cond}
use mathlib.Core.Option.{Option, none, some}
use mathlib.Core.List.{List, [], ◌∷◌, ◌++◌, map}
use Prim.Native.Nat.{ℕ, suc, ◌+◌, ◌-◌, ◌^◌, ◌≤◌, ◌<◌}
use native.Mathlib.Omega.{arith}
use lib.Dec.{ltb}
use lib.ListN.{length, take, drop, get_or, length-append, take-append-drop}
use lib.Seq.{append_snoc, length-take-le}
use Rattle.layouts.proofs.Lying.{slots_few}
use Rattle.std.proofs.Common.{Ok}
use Rattle.layouts.specs.Layout.{Layout, slots_of}
use Rattle.placing.specs.Image.{All, cat}
use Rattle.placing.specs.Lay.{rank_in, ins}
use Rattle.placing.specs.Rows.{strayed}
use Rattle.placing.specs.Walks.{ends_on, find, find_in, carry as carried, put, put_in}
use Rattle.placing.proofs.Lists.{all_left, all_right}
use Rattle.placing.proofs.Strays.{strayed_after, hops, hops_strayed}
use Rattle.pages.specs.Page.{Record, key, value}
use Rattle.pages.specs.Places.{ahead}
use Rattle.pages.specs.Area.{area_from}
use Rattle.state.specs.declared.Refusal.TheVariants.{NoRoom}
use Rattle.state.specs.Answer.{again}
use Rattle.walks.specs.declared.Met.TheVariants.{Found, Ends}
use Rattle.walks.specs.Walks.{Walks, held_at, on_held, meets, walk, Walked, went, stopped, and_page, carry, put_met, put_walk}
use Rattle.walks.proofs.Holds.{Small, away_rank, here_rank}
use Rattle.walks.proofs.Clean.{Clean, clean_from, clean_after, InOrder, order_next, order_from, Others, others_from}
use Rattle.walks.proofs.Went.{Went, wrote_went, one_went}

-- a walk with a record at hand makes of the pages ps the pages qs where no record is left over, and
-- tells m records moved; else it finds no room
abbrev pub Poured : Layout → (ps qs : List (List Record)) → List Record → (m : ℕ) → Walked → Type 0
Poured form ps qs [] m w = Went form ps qs m w
Poured form ps qs (y ∷ over) m w = (n : ℕ) × (w ≡ stopped (NoRoom n))

-- how a put of x goes, by the record found, if any, and by what the walk on the pages comes to: it
-- tells as many records as lay on another page before it
abbrev pub PutGoes : Layout → List (List Record) → Record → Option Record → (List (List Record) × List Record) → Walked → Type 0
PutGoes form ps x (some y) o w = (n : ℕ) × (w ≡ stopped (again (value x) (value y) n))
PutGoes form ps x none o w = Poured form ps o.0 o.1 (strayed key o.0 ps) w

-- the first page that a walk writes
poured_on : (form : Layout) (front : List (List Record)) (a : ℕ) → length front ≡ a → (was p : List Record) (qs new : List (List Record)) (over : List Record) (m : ℕ) (w : Walked)
    → Poured form (front ++ (p ∷ qs)) new over m w → Poured form (front ++ (was ∷ qs)) new over m (and_page a p w)
poured_on form front a at was p qs new [] m w t = wrote_went form front a at was p qs t
poured_on form front a at was p qs new (y ∷ over) m w t = (t.0, ap (and_page a p) t.1)

-- a record is carried alike on bytes and on pages, and each time that one is handed on counts
carry_goes : (form : Layout) (b : ℕ) (h : ℕ → ℕ) (front : List (List Record)) (a n m t : ℕ) → length front ≡ a → (x : Record) (qs : List (List Record)) → m + hops (rank_in key h) b x qs ≡ t
    → Poured form (front ++ qs) (front ++ (carried (rank_in key h) b x qs).0) (carried (rank_in key h) b x qs).1 t (carry b h a n m x (map some qs))
carry_goes form b h front a n m t at x [] e = (n, refl)
carry_goes form b h front a n m t at x (p ∷ qs) e =
    go (ltb (length p) b) e (carry_goes form b h (front ++ (kept ∷ [])) (suc a) (suc n) (suc m) t (omega (arith, length-append front (kept ∷ []))) y qs)
  where
    q : List Record
    q = ins (rank_in key h) x p

    kept : List Record
    kept = take b q

    y : Record
    y = get_or q b x

    on : List (List Record) × List Record
    on = carried (rank_in key h) b y qs

    walked : Walked
    walked = carry b h (suc a) (suc n) (suc m) y (map some qs)

    came : Bool → List (List Record) × List Record
    came u = cond u (q ∷ qs, []) (kept ∷ on.0, on.1)

    go : (u : Bool) → m + cond u 0 (suc (hops (rank_in key h) b y qs)) ≡ t
        → (suc m + hops (rank_in key h) b y qs ≡ t → Poured form (front ++ (kept ∷ []) ++ qs) (front ++ (kept ∷ []) ++ on.0) on.1 t walked)
        → Poured form (front ++ (p ∷ qs)) (front ++ (came u).0) (came u).1 t (cond u (went ((a, q) ∷ []) (suc n) m) (and_page a kept walked))
    go true e ih = one_went form front a at p q qs (suc n) m (omega arith)
    go false e ih =
        poured_on form front a at p kept qs (front ++ (kept ∷ on.0)) on.1 t walked (rw (append_snoc front kept qs, append_snoc front kept on.0) at (ih (omega arith)))

module _ (form : Layout) (h : ℕ → ℕ) (n : ℕ) (x : Record) (l : key x < 2 ^ 64) where
  abbrev rank : Record → ℕ
  rank = rank_in key h

  -- how a put goes from page a on, which comes after those in front
  abbrev Goes : (front qs : List (List Record)) → (List (List Record) × List Record) → Walks → Type 0
  Goes front qs o m = PutGoes form (front ++ qs) x (find rank (slots_of form) (rank x) qs) (front ++ o.0, o.1) (put_met form h (area_from form 0 (front ++ qs)) n x m)

  put_goes : (front qs : List (List Record)) (a j : ℕ) → length front ≡ a → Clean form h n (front ++ qs) → InOrder (slots_of form) h qs
      → (find rank (slots_of form) (rank x) qs ≡ none → Others x qs) → Goes front qs (put rank (slots_of form) x qs) (meets (slots_of form) h (key x) a j (map some qs))
  put_goes front [] a j at c i f = (j, refl)
  put_goes front (p ∷ qs) a j at c i f =
      go (held_at (key x) 0 p) (ends_on rank (slots_of form) (rank x) p) refl refl
      (put_goes (front ++ (p ∷ [])) qs (suc a) (suc j) (omega (arith, length-append front (p ∷ []))) (rw (append_snoc front p qs) c) (order_next i))
    where
      small : All Small p
      small = all_left Small p (cat qs []) i.small

      on : Walks
      on = meets (slots_of form) h (key x) (suc a) (suc j) (map some qs)

      go : (o : Option (ℕ × ℕ)) (u : Bool) → held_at (key x) 0 p ≡ o → ends_on rank (slots_of form) (rank x) p ≡ u
          → ((find rank (slots_of form) (rank x) qs ≡ none → Others x qs) → Goes (front ++ (p ∷ [])) qs (put rank (slots_of form) x qs) on)
          → Goes front (p ∷ qs) (cond u (carried rank (slots_of form) x (p ∷ qs)) (p ∷ (put rank (slots_of form) x qs).0, (put rank (slots_of form) x qs).1))
          (on_held o (λ i v. Ok (Found a i (length p) v (suc j))) (cond u (Ok (Ends a (ahead rank (rank x) p) (length p) (suc j))) on))
      go (some w) u e d ih = rw (here_rank (key x) h p l small e) (suc j, refl)
      go none true e d ih =
          let new : Others x (p ∷ qs) = f (rw (away_rank (key x) h p l small e, d)) in
          let moved = hops_strayed key rank (slots_of form) (slots_few form).0 x (p ∷ qs) i.slots d i.sorted (new, i.once) in
          rw (away_rank (key x) h p l small e, d, clean_after front a at (p ∷ qs) c)
          (carry_goes form (slots_of form) h front a (suc j - 1) 0 _ at x (p ∷ qs) (omega (arith, moved, strayed_after key front (carried rank (slots_of form) x (p ∷ qs)).0 (p ∷ qs))))
      go none false e d ih =
          let others : find rank (slots_of form) (rank x) qs ≡ none → Others x qs = λ z. all_right (λ y. key y ≡ key x → ⊥) p (cat qs []) (f (rw (away_rank (key x) h p l small e, d) z)) in
          rw (away_rank (key x) h p l small e, d) (simp append_snoc at (ih others))

  -- put makes of good bytes what the walk on the pages makes, where a key that is not found is not
  -- there
  pub put_clean : {ps : List (List Record)} → Clean form h n ps → InOrder (slots_of form) h ps → h (key x) ≤ n → (find_in key h (slots_of form) (key x) ps ≡ none → Others x ps)
      → PutGoes form ps x (find_in key h (slots_of form) (key x) ps) (put_in key h (slots_of form) x ps) (put_walk form h (area_from form 0 ps) n x)
  unfolding put_walk walk
  put_clean {ps} c i g f =
      let a : ℕ = h (key x) in
      let at : length (take a ps) ≡ a = length-take-le a ps (omega (arith, c.many)) in
      rw (clean_from c a g)
      (rw (take-append-drop a ps) at (put_goes (take a ps) (drop a ps) a 0 at (rw take-append-drop c) (order_from a ps i) (λ z. others_from x a ps (f z))))
