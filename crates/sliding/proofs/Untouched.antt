-- A page that stays as it is: reading stands at its start and none of it leaves, or it has no record.
use mathlib.Core.Path.{◌≡◌, refl, sym, ap, ◌∙◌}
use mathlib.Core.Bool.{Bool, true, false, cond, not, ◌&&◌, ◌||◌, false≢true}
use mathlib.Core.List.{List, [], ◌∷◌, ◌++◌, append_assoc}
use Prim.Native.Nat.{ℕ, zero, suc, ◌+◌, ◌*◌, ◌≤◌, ◌<◌}
use native.Mathlib.Nat.{add-zero, zero-add}
use native.Mathlib.Numerals.{add-one}
use native.Mathlib.Omega.{arith}
use lib.Dec.{eqb}
use lib.ListN.{length, take, drop, get_or}
use lib.Seq.{take-add, take-append_seam, drop-append_seam}
use borrow.Author.Tests.{not-true, eq-eqb, eqb-true, eqb-false}
use Rattle.numbers.proofs.Records.{and_left, and_right}
use Rattle.layouts.specs.Layout.{in_use}
use Rattle.placing.specs.Steps.Keep.{keep}
use Rattle.placing.proofs.Lists.{none_of_length}
use Rattle.placing.proofs.Order.{sorted_drop}
use Rattle.placing.proofs.Rows.{below}
use Rattle.pages.specs.Page.{Record, page_bytes}
use Rattle.pages.specs.Area.{part_at, held_from}
use Rattle.pages.proofs.Areas.{held_length, part_area}
use Rattle.entries.specs.declared.Entry.{Entry}
use Rattle.entries.specs.Steps.Entries.{rank, home}
use Rattle.rebuild.specs.Steps.Rebuild.{tagged, hops}
use Rattle.rebuild.proofs.Tags.{tagged-length}
use Rattle.rebuild.proofs.Commuting.{tagged_records}
use Rattle.sliding.specs.declared.Place.{Place}
use Rattle.sliding.specs.Steps.Reading.{held, onward, rest, left, Stands}
use Rattle.sliding.specs.Steps.Closing.{is_from, calm_at, past, stays, Leaving}
use Rattle.sliding.proofs.Places.{onward_page, rest_page}
use Rattle.sliding.proofs.Coherent.{gone}
use Rattle.sliding.proofs.Onward.{held_same}
use Rattle.sliding.proofs.Closing.{Closing, still_at, L, k, homes_next, onto, next_ahead}

-- a page's own records have not moved
hops_own : (h : ℕ → ℕ) (a : ℕ) (p : List Record) → hops a (tagged h a p) ≡ 0
hops_own h a [] = refl
hops_own h a (x ∷ p) = rw (eq-eqb a a refl) (omega (arith, hops_own h a p))

pub held_at : (area : List ℕ) (n b i : ℕ) → i < n → get_or (held_from in_use area n b) i [] ≡ held area (b + i)
held_at area zero b i l = absurd (omega arith)
held_at area (suc n) b zero l = rw add-zero
held_at area (suc n) b (suc i) l = let q : b + suc i ≡ suc b + i = omega arith in rw q (held_at area n (suc b) i (omega arith))

-- where none of a page leaves, all of it stay
module _ (st : Entry → Bool) (h : ℕ → ℕ) (a : ℕ) where
  all_stay : (p : List Record) (t : List Entry) → is_from (gone st (tagged h a p ++ t)) a ≡ false
      → (keep st (tagged h a p ++ t) ≡ tagged h a p ++ keep st t) × (gone st (tagged h a p ++ t) ≡ gone st t)
  all_stay [] t e = (refl, refl)
  all_stay (x ∷ p) t e = go (st y) refl e (λ f. all_stay p t f)
    where
      y : Entry
      y = record { home = h x.key; from = a; held = x }

      go : (u : Bool) → st y ≡ u → is_from (gone st (y ∷ (tagged h a p ++ t))) a ≡ false
          → (is_from (gone st (tagged h a p ++ t)) a ≡ false → (keep st (tagged h a p ++ t) ≡ tagged h a p ++ keep st t) × (gone st (tagged h a p ++ t) ≡ gone st t))
          → (keep st (y ∷ (tagged h a p ++ t)) ≡ y ∷ (tagged h a p ++ keep st t)) × (gone st (y ∷ (tagged h a p ++ t)) ≡ gone st t)
      go true d f ih = let r = ih (rw d at f) in (rw d (ap (λ (s : List Entry). y ∷ s) r.0), rw d r.1)
      go false d f ih = absurd (false≢true (sym (rw d at f) ∙ eq-eqb a a refl))

module _ {h : ℕ → ℕ} {P cap : ℕ} {first counts row area : List ℕ} {place : Place} {over moved a : ℕ} (g : Leaving h P cap first counts row)
    (c : Closing h P cap first counts row area place over moved a) (more : a < cap) where
  -- what page a holds
  abbrev p : List Record
  p = held first a

  -- that page a has what it is to have, and where reading stands with it behind
  pub record Keeps (q : Place) : Type 0 where
    pub takes : take (k g c) (L g c) ≡ tagged h a p
    pub still : still_at h P cap first q ≡ drop (k g c) (L g c)
    pub met : left row q.next ≡ gone (stays P) (rest h first cap q.page q.slot)
    pub stands : Stands first cap row q
    pub low : a + 1 ≤ q.page

  behind : Place
  behind = record { page = a + 1; slot = 0; next = place.next }

  stands_behind : Stands first cap row behind
  unfolding behind
  stands_behind = record { within = omega arith; slot = λ _. omega arith; end = λ _. refl; inside = c.stands.inside; whole = c.stands.whole }

  -- reading stands at its start
  own_keeps : place.page ≡ a → place.slot ≡ 0 → is_from (left row place.next) a ≡ false → k g c ≡ length p → Keeps behind
  unfolding behind rest
  own_keeps e z f n =
      let parts : rest h first cap place.page place.slot ≡ tagged h a p ++ onward h first cap (suc a) = rw (e, z) (onward_page h first cap a more) in
      let r = all_stay (stays P) h a p (onward h first cap (suc a)) (rw (← parts, ← c.met) f) in
      let all : L g c ≡ tagged h a p ++ keep (stays P) (onward h first cap (suc a)) = rw parts r.0 in
      let m : k g c ≡ length (tagged h a p) = n ∙ sym (tagged-length h a p) in
      record {
        takes = rw (m, all) (take-append_seam (tagged h a p) (keep (stays P) (onward h first cap (suc a))));
        still = rw (m, all, add-one) (sym (drop-append_seam (tagged h a p) (keep (stays P) (onward h first cap (suc a)))));
        met = rw add-one (c.met ∙ rw parts r.1);
        stands = stands_behind;
        low = omega arith;
      }

  -- it has no record
  empty_keeps : length p ≡ 0 → k g c ≡ 0 → Keeps (past place a)
  unfolding behind
  empty_keeps n z = go (eqb place.page a) refl
    where
      none : p ≡ []
      none = none_of_length p n

      go : (u : Bool) → eqb place.page a ≡ u → Keeps (cond u (record { page = a + 1; slot = 0; next = place.next }) place)
      go true e =
          let q : place.page ≡ a = eqb-true place.page a e in
          let s : place.slot ≡ length p = omega (arith, rw q at (c.stands.slot (omega arith))) in
          let on : rest h first cap place.page place.slot ≡ rest h first cap (a + 1) 0 = rw q (rest_page h first cap a place.slot more s) in
          record { takes = rw (z, none); still = rw (z, on); met = rw (← on) c.met; stands = stands_behind; low = omega arith }
      go false e =
          record { takes = rw (z, none); still = rw z; met = c.met; stands = c.stands; low = omega (arith, c.low, eqb-false place.page a e) }

  module _ (count want : ℕ) (has : count ≡ length (held area a)) (is : want ≡ k g c) (t : calm_at row place a count want ≡ true) where
    many_same : k g c ≡ length p
    many_same =
        sym is ∙ sym (eqb-true count want (and_left (eqb count want) _ t)) ∙ has ∙ ap (λ (s : List Record). length s) (held_same area first a c.ahead a (omega arith))

    pub calm_keeps : Keeps (past place a)
    unfolding behind
    calm_keeps = go (eqb count 0) refl (and_right (eqb count want) _ t)
      where
        go : (u : Bool) → eqb count 0 ≡ u → (u || (eqb place.page a && (eqb place.slot 0 && not (is_from (left row place.next) a)))) ≡ true → Keeps (past place a)
        go true e f = let z : count ≡ 0 = eqb-true count 0 e in let n : length p ≡ 0 = sym many_same ∙ sym is ∙ sym (eqb-true count want (and_left (eqb count want) _ t)) ∙ z in empty_keeps n (many_same ∙ n)
        go false e f =
            let here = and_left (eqb place.page a) _ f in
            let rest = and_right (eqb place.page a) _ f in
            rw here (own_keeps (eqb-true place.page a here) (eqb-true place.slot 0 (and_left (eqb place.slot 0) _ rest)) (not-true (is_from (left row place.next) a) (and_right (eqb place.slot 0) _ rest)) many_same)

  -- its bytes are those of its records
  own_bytes : take (256 * suc a) area ≡ take (256 * a) area ++ page_bytes in_use a p
  unfolding part_at
  own_bytes =
      let q : 256 * suc a ≡ 256 * a + 256 = omega arith in
      let b : part_at first a ≡ page_bytes in_use a (held first a) =
      ap (λ (l : List ℕ). part_at l a) g.formed
      ∙ part_area in_use a (held_from in_use first cap 0) (omega (arith, held_length in_use first cap 0))
      ∙ rw (held_at first cap 0 a more, zero-add a) in
      rw (q, take-add (256 * a) 256 area, ← b, c.ahead)

  pub untouched_turn : (q : Place) → Keeps q → (over' : ℕ) → over' ≡ below home (drop (k g c) (L g c)) (a + 1)
      → Closing h P cap first counts row area q over' moved (a + 1)
  untouched_turn q w over' o = record {
    within = omega arith;
    long = c.long;
    ahead = rw add-one (next_ahead g c more area first c.ahead);
    stands = w.stands;
    low = w.low;
    met = w.met;
    pages = rw (w.still, add-one, own_bytes, append_assoc) (rw (onto g c more, w.takes, tagged_records h a p) at c.pages);
    hopped = rw (w.still, add-one) (omega (arith, rw (onto g c more, w.takes) at c.hopped, hops_own h a p));
    sorted = rw w.still (sorted_drop rank (k g c) (L g c) c.sorted);
    waits = rw w.still o;
    homes = rw w.still (homes_next g c);
    few = omega (arith, c.few);
  }
