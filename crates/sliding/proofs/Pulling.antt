-- The turns of filling a page with records that stay.
use mathlib.Core.Path.{◌≡◌, refl, ap, ◌∙◌}
use mathlib.Core.Bool.{Bool, true, false, cond, not}
use mathlib.Core.Logic.{◌⊎◌, inl, inr}
use mathlib.Core.List.{List, [], ◌∷◌, map}
use Prim.Native.Nat.{ℕ, zero, suc, ◌+◌, ◌-◌, ◌*◌, ◌≤◌, ◌<◌}
use native.Mathlib.Omega.{arith}
use native.Mathlib.Decide.{dec_le}
use lib.Dec.{eqb}
use lib.ListN.{length, get_or, set, replicate}
use Rattle.layouts.specs.Layout.{in_use}
use Rattle.placing.specs.Lay.{one}
use Rattle.pages.specs.Page.{Record, vacant, in_memory}
use Rattle.pages.specs.Area.{part_at}
use Rattle.pages.proofs.Read.{held_twelve}
use Rattle.entries.specs.declared.Entry.{Entry}
use Rattle.entries.specs.Steps.Entries.{size}
use Rattle.rebuild.specs.declared.Took.{Took}
use Rattle.rebuild.specs.Steps.Rebuild.{record_in, hops}
use Rattle.rebuild.proofs.Take.{filled, in_hand, filled-cons, filled_none, filled_start}
use Rattle.sliding.specs.declared.Place.{Place}
use Rattle.sliding.specs.declared.Pulled.{Pulled}
use Rattle.sliding.specs.Steps.Reading.{held, rest, left, is_next, behind, stayed, after, unread, unmet, Stays, Passes, Pulls}
use Rattle.sliding.proofs.Places.{entry_on, rest_first, rest_end}

-- nothing changes by passing over those that leave first
stayed_passes : (k : ℕ) (es xs : List Entry) → stayed k (unmet 0 es xs) (unread 0 es xs) ≡ stayed k es xs
stayed_passes zero es xs = refl
stayed_passes (suc k) es [] = refl
stayed_passes (suc k) es (x ∷ xs) = go (is_next es x.held.key) refl (stayed_passes (suc k) (behind es) xs)
  where
    go : (u : Bool) → is_next es x.held.key ≡ u → stayed (suc k) (unmet 0 (behind es) xs) (unread 0 (behind es) xs) ≡ stayed (suc k) (behind es) xs
        → stayed (suc k) (cond u (unmet 0 (behind es) xs) es) (cond u (unread 0 (behind es) xs) (x ∷ xs)) ≡ cond u (stayed (suc k) (behind es) xs) (x ∷ stayed k es xs)
    go true e ih = ih
    go false e ih = rw e

after_passes : (f : List Entry → List Entry → List Entry) (k : ℕ) (es xs : List Entry) → after f k (unmet 0 es xs) (unread 0 es xs) ≡ after f k es xs
after_passes f k es [] = refl
after_passes f zero es (x ∷ xs) = go (is_next es x.held.key) refl (after_passes f zero (behind es) xs)
  where
    go : (u : Bool) → is_next es x.held.key ≡ u → after f 0 (unmet 0 (behind es) xs) (unread 0 (behind es) xs) ≡ after f 0 (behind es) xs
        → after f 0 (cond u (unmet 0 (behind es) xs) es) (cond u (unread 0 (behind es) xs) (x ∷ xs)) ≡ cond u (after f 0 (behind es) xs) (f es (x ∷ xs))
    go true e ih = ih
    go false e ih = rw e
after_passes f (suc k) es (x ∷ xs) = go (is_next es x.held.key) refl (after_passes f (suc k) (behind es) xs)
  where
    go : (u : Bool) → is_next es x.held.key ≡ u → after f (suc k) (unmet 0 (behind es) xs) (unread 0 (behind es) xs) ≡ after f (suc k) (behind es) xs
        → after f (suc k) (cond u (unmet 0 (behind es) xs) es) (cond u (unread 0 (behind es) xs) (x ∷ xs)) ≡ cond u (after f (suc k) (behind es) xs) (after f k es xs)
    go true e ih = ih
    go false e ih = rw e

-- no more are taken than are wanted
pub stayed_few : (k : ℕ) (es xs : List Entry) → length (stayed k es xs) ≤ k
stayed_few zero es xs = omega arith
stayed_few (suc k) es [] = omega arith
stayed_few (suc k) es (x ∷ xs) = go (is_next es x.held.key) (stayed_few (suc k) (behind es) xs) (stayed_few k es xs)
  where
    go : (u : Bool) → length (stayed (suc k) (behind es) xs) ≤ suc k → length (stayed k es xs) ≤ k
        → length (cond u (stayed (suc k) (behind es) xs) (x ∷ stayed k es xs)) ≤ suc k
    go true m n = m
    go false m n = omega arith

pub one_few : (t : Bool) → one t ≤ 1
one_few true = omega arith
one_few false = omega arith

-- what is left of a page's records to take from a place on
abbrev still_from : (ℕ → ℕ) → List ℕ → (cap : ℕ) → List ℕ → (k : ℕ) → Place → List Entry
still_from h area cap row k p = stayed k (left row p.next) (rest h area cap p.page p.slot)

-- what holds between turns
pub record Pulling (area : List ℕ) (cap : ℕ) (row : List ℕ) (want a : ℕ) (p₀ : Place) (ks vs us : List ℕ) (n m : ℕ) (p : Place) : Type 0 where
  pub stays : Stays area cap row p₀ p
  pub few : n ≤ want
  pub moves : m ≤ n
  pub near : p.page ≡ p₀.page → p₀.slot + n ≤ p.slot
  pub full : (h : ℕ → ℕ) → filled a ks vs us n (size * n) m (still_from h area cap row (want - n) p) ≡ filled a (replicate 12 0) (replicate 12 0) (replicate 12 0) 0 0 0 (still_from h area cap row want p₀)
  pub read : (h : ℕ → ℕ) → unread (want - n) (left row p.next) (rest h area cap p.page p.slot) ≡ unread want (left row p₀.next) (rest h area cap p₀.page p₀.slot)
  pub met : (h : ℕ → ℕ) → unmet (want - n) (left row p.next) (rest h area cap p.page p.slot) ≡ unmet want (left row p₀.next) (rest h area cap p₀.page p₀.slot)

module _ {area : List ℕ} {cap : ℕ} {row : List ℕ} {want a : ℕ} {p₀ : Place} {ks vs us : List ℕ} {n m : ℕ} {p : Place} (g : Pulling area cap row want a p₀ ks vs us n m p) where
  module _ (wanted : n < want) (page_left : p.page < cap) where
    pub slot_low : p.slot < 12
    slot_low = omega (arith, g.stays.here page_left, held_twelve in_use (part_at area p.page))

    step : want - n ≡ suc (want - (n + 1))
    step = omega (arith, wanted)

    module _ (x : Record) (d : x ≡ get_or (held area p.page) p.slot vacant) (f : ℕ) (c : f ≡ one (not (eqb p.page a))) (q : Place)
        (s : Stays area cap row (record { page = p.page; slot = p.slot + 1; next = p.next }) q)
        (w : (h : ℕ → ℕ) → Passes h area cap row (record { page = p.page; slot = p.slot + 1; next = p.next }) q) where
      -- it is the first of those that are left, and stays
      first : (h : ℕ → ℕ) → rest h area cap p.page p.slot ≡ entry_on h p.page x ∷ rest h area cap p.page (p.slot + 1)
      first h = rw d (rest_first h area cap p.page p.slot page_left (g.stays.here page_left))

      goes : is_next (left row p.next) x.key ≡ false
      goes = rw d (g.stays.next page_left)

      pub pulling_turn : Pulling area cap row want a p₀ (set ks n x.key) (set vs n x.value) (set us n x.run) (n + 1) (m + f) q
      pulling_turn = record {
        stays = record { stands = s.stands; onward = omega (arith, g.stays.onward, s.onward); here = s.here; next = s.next };
        few = omega (arith, wanted);
        moves = omega (arith, g.moves, c, one_few (not (eqb p.page a)));
        near = λ e. omega (arith, g.near (omega (arith, g.stays.onward, s.onward)), (w (λ k. 0)).near (omega (arith, g.stays.onward, s.onward)));
        full = λ h. taken h ∙ g.full h;
        read = λ h. rw ((w h).met, (w h).read, after_passes (λ e x. x) (want - (n + 1)) (left row p.next) (rest h area cap p.page (p.slot + 1))) (rw (first h, step, goes) at (g.read h));
        met = λ h. rw ((w h).met, (w h).read, after_passes (λ e x. e) (want - (n + 1)) (left row p.next) (rest h area cap p.page (p.slot + 1))) (rw (first h, step, goes) at (g.met h));
      }
        where
          at : size * (n + 1) ≡ size * n + size
          at = omega arith

          taken : (h : ℕ → ℕ) → filled a (set ks n x.key) (set vs n x.value) (set us n x.run) (n + 1) (size * (n + 1)) (m + f) (still_from h area cap row (want - (n + 1)) q)
              ≡ filled a ks vs us n (size * n) m (still_from h area cap row (want - n) p)
          taken h =
              rw ((w h).met, (w h).read, stayed_passes (want - (n + 1)) (left row p.next) (rest h area cap p.page (p.slot + 1)), first h, step, goes, at, c)
              (filled-cons a ks vs us n (size * n) m (entry_on h p.page x) (stayed (want - (n + 1)) (left row p.next) (rest h area cap p.page (p.slot + 1))))

  -- nothing more is taken
  none_more : (want ≤ n) ⊎ (cap ≤ p.page) → (h : ℕ → ℕ) → (want - n ≡ 0) ⊎ (rest h area cap p.page p.slot ≡ [])
  none_more (inl l) h = inl (omega arith)
  none_more (inr l) h = inr (rest_end h area cap p.page p.slot l)

  end_stayed : (h : ℕ → ℕ) → (want - n ≡ 0) ⊎ (rest h area cap p.page p.slot ≡ []) → still_from h area cap row (want - n) p ≡ []
  end_stayed h (inl z) = rw z
  end_stayed h (inr z) = rw z (nothing (want - n))
    where
      nothing : (k : ℕ) → stayed k (left row p.next) [] ≡ []
      nothing zero = refl
      nothing (suc k) = refl

  end_after : (f : List Entry → List Entry → List Entry) (h : ℕ → ℕ) → (want - n ≡ 0) ⊎ (rest h area cap p.page p.slot ≡ [])
      → f (left row p.next) (rest h area cap p.page p.slot) ≡ after f (want - n) (left row p.next) (rest h area cap p.page p.slot)
  end_after f h (inr z) = rw z
  end_after f h (inl z) = rw z (go (dec_le cap p.page))
    where
      go : Dec (cap ≤ p.page) → f (left row p.next) (rest h area cap p.page p.slot) ≡ after f 0 (left row p.next) (rest h area cap p.page p.slot)
      go (yes l) = rw (rest_end h area cap p.page p.slot l)
      go (no l) = let k : p.page < cap = omega arith in rw (rest_first h area cap p.page p.slot k (g.stays.here k), g.stays.next k)

  -- so the page is filled
  module _ (t : (want ≤ n) ⊎ (cap ≤ p.page)) (few : want ≤ 12) (from : Place) (s : Stays area cap row from p₀) (w : (h : ℕ → ℕ) → Passes h area cap row from p₀) where
    abbrev made : Pulled
    made = record { page = record { count = n; keys = ks; values = vs; runs = us }; place = p; moved = m }

    taken_all : (h : ℕ → ℕ) → still_from h area cap row want p₀ ≡ stayed want (left row from.next) (rest h area cap from.page from.slot)
    taken_all h = rw ((w h).met, (w h).read) (stayed_passes want (left row from.next) (rest h area cap from.page from.slot))

    in_page : (h : ℕ → ℕ) → in_hand ks vs us n (size * n) m ≡ record { page = in_memory (map record_in (still_from h area cap row want p₀)); next = 0 + size * length (still_from h area cap row want p₀); moved = hops a (still_from h area cap row want p₀) }
    in_page h =
        filled_none a ks vs us n (size * n) m
        ∙ rw (end_stayed h (none_more t h)) at (g.full h)
        ∙ filled_start a 0 (still_from h area cap row want p₀) (omega (arith, stayed_few want (left row p₀.next) (rest h area cap p₀.page p₀.slot)))

    long : (h : ℕ → ℕ) → length (still_from h area cap row want p₀) ≡ n
    long h = omega (arith, ap (λ (u : Took). u.next) (in_page h))

    pub pulled_all : (h : ℕ → ℕ) → Pulls h area cap row from want a made
    pulled_all h = record {
      page = rw (← taken_all h) (ap (λ (u : Took). u.page) (in_page h));
      moved = rw (← taken_all h) (ap (λ (u : Took). u.moved) (in_page h));
      read = end_after (λ e x. x) h (none_more t h) ∙ g.read h ∙ rw ((w h).met, (w h).read) (after_passes (λ e x. x) want (left row from.next) (rest h area cap from.page from.slot));
      met = end_after (λ e x. e) h (none_more t h) ∙ g.met h ∙ rw ((w h).met, (w h).read) (after_passes (λ e x. e) want (left row from.next) (rest h area cap from.page from.slot));
      near = λ e. omega (arith, ap length (taken_all h), long h, (w h).near (omega (arith, g.stays.onward, s.onward)), g.near (omega (arith, g.stays.onward, s.onward)));
    }
