-- The turns of sinking the records that stay: a page that neither loses nor gets one stays as it is,
-- and any other is filled from where reading stands.
use mathlib.Core.Path.{◌≡◌, refl, sym, ◌∙◌}
use mathlib.Core.Bool.{Bool, true, false, cond}
use mathlib.Core.List.{List, ◌++◌, map, append-nil}
use Prim.Native.Nat.{ℕ, zero, suc, ◌+◌, ◌-◌, ◌*◌, ◌≤◌, ◌<◌, min}
use native.Mathlib.Numerals.{add-one}
use native.Mathlib.Omega.{arith}
use native.Mathlib.Decide.{dec_lt}
use lib.Dec.{leb, ltb}
use lib.ListN.{length, take, drop, get_or, length-drop}
use lib.Seq.{take_all, drop-drop}
use borrow.Author.Tests.{lt-ltb, le-ltb, ltb-true}
use Rattle.layouts.specs.Layout.{in_use}
use Rattle.placing.specs.Image.{All}
use Rattle.placing.specs.Lay.{lay, Sorted}
use Rattle.placing.specs.Rows.{at_home}
use Rattle.placing.specs.Steps.Keep.{keep}
use Rattle.placing.proofs.Lists.{all_map, count-le}
use Rattle.placing.proofs.Keeping.{kept, keep-length}
use Rattle.placing.proofs.Rows.{below}
use Rattle.pages.specs.Area.{area_from}
use Rattle.entries.specs.declared.Entry.{Entry}
use Rattle.entries.specs.Steps.Entries.{rank, home}
use Rattle.rebuild.specs.Steps.Rebuild.{slots, record_in, hops_from}
use Rattle.rebuild.proofs.Tags.{entries_few}
use Rattle.rebuild.proofs.Laying.{home_first}
use Rattle.sliding.specs.declared.Place.{Place}
use Rattle.sliding.specs.Steps.Reading.{onward, rest, left, Stands}
use Rattle.sliding.specs.Steps.Closing.{own_at, stays, staying, leaving, closed, bytes_of, Leaving}
use Rattle.sliding.proofs.Coherent.{gone}
use Rattle.sliding.proofs.Counted.{many, many_waiting, waits_on, later_homes, home_none}
use Rattle.sliding.proofs.Onward.{rest_all}

-- those that stay from a place on
abbrev pub still_at : (ℕ → ℕ) → (P cap : ℕ) → List ℕ → Place → List Entry
still_at h P cap first p = keep (stays P) (rest h first cap p.page p.slot)

-- what holds between pages
pub record Closing (h : ℕ → ℕ) (P cap : ℕ) (first counts row area : List ℕ) (place : Place) (over moved a : ℕ) : Type 0 where
  pub within : a ≤ cap
  pub long : length area ≡ 256 * cap
  pub ahead : drop (256 * a) area ≡ drop (256 * a) first
  pub stands : Stands first cap row place
  pub low : a ≤ place.page
  pub met : left row place.next ≡ gone (stays P) (rest h first cap place.page place.slot)
  pub pages : take (256 * a) area ++ area_from in_use a (map (map record_in) (lay home slots (cap - a) a (still_at h P cap first place))) ≡ bytes_of (closed h P cap first)
  pub hopped : moved + hops_from a (lay home slots (cap - a) a (still_at h P cap first place)) ≡ hops_from 0 (closed h P cap first)
  pub sorted : Sorted rank (still_at h P cap first place)
  pub waits : over ≡ below home (still_at h P cap first place) a
  pub homes : (c : ℕ) → a ≤ c → c < P → get_or counts c 0 ≡ at_home home c (still_at h P cap first place)
  pub few : moved ≤ slots * a

pub closing_start : (h : ℕ → ℕ) (P cap : ℕ) (first counts row : List ℕ) → Leaving h P cap first counts row → length first ≡ 256 * cap
    → Closing h P cap first counts row first (record { page = 0; slot = 0; next = 0 }) 0 0 0
unfolding staying leaving
closing_start h P cap first counts row g l =
    let z : cap - 0 ≡ cap = omega arith in
    let e = rest_all h first cap in
    record {
      within = omega arith;
      long = l;
      ahead = refl;
      stands = record { within = omega arith; slot = λ _. omega arith; end = λ _. refl; inside = omega arith; whole = g.whole };
      low = omega arith;
      met = g.leave ∙ rw e;
      pages = rw (z, e);
      hopped = rw (z, e) (omega arith);
      sorted = rw e g.sorted;
      waits = refl;
      homes = λ c _ k. rw e (g.homes c k);
      few = omega arith;
    }

-- a count is as low as those of the row
pub own_low : (row : List ℕ) (P a : ℕ) → ((k : ℕ) → get_or row k 0 ≤ 49152) → own_at row P a ≤ 49152
own_low row P a h = go (ltb a P)
  where
    go : (u : Bool) → cond u (get_or row a 0) 0 ≤ 49152
    go true = h a
    go false = omega arith

-- the same of values that are these
pub joined : {h : ℕ → ℕ} {P cap : ℕ} {first counts row area : List ℕ} {place : Place} {over moved a : ℕ} → Closing h P cap first counts row area place over moved a
    → {area' : List ℕ} {place' : Place} {moved' : ℕ} → area' ≡ area → place' ≡ place → moved' ≡ moved → Closing h P cap first counts row area' place' over moved' a
joined c x y z = rw (x, y, z) c

module _ {h : ℕ → ℕ} {P cap : ℕ} {first counts row area : List ℕ} {place : Place} {over moved a : ℕ} (g : Leaving h P cap first counts row)
    (c : Closing h P cap first counts row area place over moved a) where
  -- those that are left
  abbrev pub L : List Entry
  L = still_at h P cap first place

  abbrev pub xs : List Entry
  xs = rest h first cap place.page place.slot

  -- no more wait than there are
  pub over_few : cap ≤ 4096 → over ≤ 49152
  unfolding rest
  over_few l =
      omega (
        arith,
        c.waits,
        below_few a,
        keep-length (stays P) xs,
        length-drop place.slot (onward h first cap place.page),
        entries_few h first (cap - place.page) place.page,
      )
    where
      below_few : (n : ℕ) → below home L n ≤ length L
      below_few zero = omega arith
      below_few (suc n) = count-le (λ e. leb (home e) n) L

  -- all that stay have homes below the new page
  low_homes : (n : ℕ) → P ≤ n → All (λ e. home e < n) L
  low_homes n l = all_map (λ e. stays P e ≡ true) (λ e. home e < n) (λ e k. omega (arith, ltb-true (home e) P k)) L (kept (stays P) xs)

  own_is : own_at counts P a ≡ at_home home a L
  own_is = go (dec_lt a P)
    where
      go : Dec (a < P) → own_at counts P a ≡ at_home home a L
      go (yes l) = rw (lt-ltb a P l) (c.homes a (omega arith) l)
      go (no l) = rw (le-ltb a P (omega arith)) (sym (home_none home a L (low_homes a (omega arith))))

  -- how many page a is to have
  abbrev pub k : ℕ
  k = many rank home home_first slots a L c.sorted

  module _ (own waiting want : ℕ) (o : own ≡ own_at counts P a) (w : waiting ≡ over + own) (m : want ≡ min waiting slots) where
    pub want_is : want ≡ k
    want_is =
        let e : want ≡ min slots waiting = omega (arith, m) in
        e ∙ rw (w, o, own_is) (sym (many_waiting rank home home_first slots a L c.sorted over c.waits))

    pub over_next : waiting - want ≡ below home (drop k L) (a + 1)
    over_next = rw (add-one, want_is, w, o, own_is) (waits_on rank home home_first slots a L c.sorted over c.waits)

  pub homes_next : (n : ℕ) → a + 1 ≤ n → n < P → get_or counts n 0 ≡ at_home home n (drop k L)
  homes_next n l m = c.homes n (omega arith) m ∙ sym (later_homes rank home home_first slots a L c.sorted n (omega arith))

  module _ (more : a < cap) where
    pub onto : cap - a ≡ suc (cap - suc a)
    onto = omega arith

    pub inside : 256 * (a + 1) ≤ length area
    inside = omega (arith, c.long)

    pub next_ahead : (l m : List ℕ) → drop (256 * a) l ≡ drop (256 * a) m → drop (256 * suc a) l ≡ drop (256 * suc a) m
    next_ahead l m e =
        let q : 256 * suc a ≡ 256 * a + 256 = omega arith in
        rw (q, ← drop-drop 256 (256 * a) l, ← drop-drop 256 (256 * a) m, e)

  -- after the last page
  pub closing_end : cap ≤ a → (moved ≡ hops_from 0 (closed h P cap first)) × (area ≡ bytes_of (closed h P cap first))
  closing_end l =
      let z : cap - a ≡ 0 = omega arith in
      (omega (arith, rw z at c.hopped), sym (take_all (256 * a) area (omega (arith, c.long))) ∙ sym (append-nil (take (256 * a) area)) ∙ rw z at c.pages)
