-- The turns of a search for the next record that stays.
use mathlib.Core.Path.{◌≡◌, refl, ◌∙◌}
use mathlib.Core.Bool.{true, false}
use mathlib.Core.List.{List}
use Prim.Native.Nat.{ℕ, ◌+◌, ◌≤◌, ◌<◌}
use native.Mathlib.Omega.{arith}
use lib.ListN.{length, get_or}
use Rattle.pages.specs.Page.{Record, vacant}
use Rattle.entries.specs.Steps.Entries.{size}
use Rattle.sliding.specs.declared.Place.{Place}
use Rattle.sliding.specs.Steps.Reading.{held, rest, left, is_next, unread, unmet, Whole, Stands, Stays, Passes}
use Rattle.sliding.proofs.Places.{rest_first, rest_page, rest_end, next_there}

-- what holds between turns
pub record Passing (area : List ℕ) (cap : ℕ) (row : List ℕ) (r₀ i₀ n₀ r i n : ℕ) : Type 0 where
  pub within : r ≤ cap
  pub slot : r < cap → i ≤ length (held area r)
  pub end : r ≡ cap → i ≡ 0
  pub inside : n ≤ length row
  pub whole : Whole n row
  pub onward : r₀ ≤ r
  pub near : r ≡ r₀ → i₀ ≤ i
  pub read : (h : ℕ → ℕ) → unread 0 (left row n) (rest h area cap r i) ≡ unread 0 (left row n₀) (rest h area cap r₀ i₀)
  pub met : (h : ℕ → ℕ) → unmet 0 (left row n) (rest h area cap r i) ≡ unmet 0 (left row n₀) (rest h area cap r₀ i₀)

pub passing_start : (area : List ℕ) (cap : ℕ) (row : List ℕ) (p : Place) → Stands area cap row p → Passing area cap row p.page p.slot p.next p.page p.slot p.next
passing_start area cap row p s = record {
  within = s.within;
  slot = s.slot;
  end = s.end;
  inside = s.inside;
  whole = s.whole;
  onward = omega arith;
  near = λ e. omega arith;
  read = λ h. refl;
  met = λ h. refl;
}

module _ {area : List ℕ} {cap : ℕ} {row : List ℕ} {r₀ i₀ n₀ r i n : ℕ} (p : Passing area cap row r₀ i₀ n₀ r i n) where
  -- one that leaves is passed over
  pub passing_turn : (x : Record) → x ≡ get_or (held area r) i vacant → r < cap → i < length (held area r) → is_next (left row n) x.key ≡ true
      → Passing area cap row r₀ i₀ n₀ r (i + 1) (n + size)
  passing_turn x d l k e =
      let t = next_there row n x.key p.whole e in
      let e' = rw d at e in
      record {
        within = p.within;
        slot = λ _. omega arith;
        end = λ q. absurd (omega arith);
        inside = t.0;
        whole = omega (arith, p.whole, t.0);
        onward = p.onward;
        near = λ q. omega (arith, p.near q);
        read = λ h. rw (← t.1) (rw (rest_first h area cap r i l k, e') at (p.read h));
        met = λ h. rw (← t.1) (rw (rest_first h area cap r i l k, e') at (p.met h));
      }

  -- a page is read to its end
  pub passing_page : (c : ℕ) → c ≡ length (held area r) → r < cap → c ≤ i → Passing area cap row r₀ i₀ n₀ (r + 1) 0 n
  passing_page c d l k =
      let q : i ≡ length (held area r) = omega (arith, d, p.slot l) in
      record {
        within = omega arith;
        slot = λ _. omega arith;
        end = λ _. refl;
        inside = p.inside;
        whole = p.whole;
        onward = omega (arith, p.onward);
        near = λ e. absurd (omega (arith, p.onward));
        read = λ h. rw (← rest_page h area cap r i l q) (p.read h);
        met = λ h. rw (← rest_page h area cap r i l q) (p.met h);
      }

  there : Stands area cap row (record { page = r; slot = i; next = n })
  there = record { within = p.within; slot = p.slot; end = p.end; inside = p.inside; whole = p.whole }

  -- nothing is left
  pub passed_all : (from : Place) → r₀ ≡ from.page → i₀ ≡ from.slot → n₀ ≡ from.next → cap ≤ r
      → ((h : ℕ → ℕ) → Passes h area cap row from (record { page = r; slot = i; next = n })) × Stays area cap row from (record { page = r; slot = i; next = n })
  passed_all from a b c l = (
    λ h. record {
      read = rw (← a, ← b, ← c) (rest_end h area cap r i l ∙ rw (rest_end h area cap r i l) at (p.read h));
      met = rw (← a, ← b, ← c) (rw (rest_end h area cap r i l) at (p.met h));
      near = λ q. omega (arith, p.near (omega arith));
    },
    record { stands = there; onward = omega (arith, p.onward); here = λ q. absurd (omega arith); next = λ q. absurd (omega arith) },
  )

  -- the next one stays
  pub passed_to : (from : Place) → r₀ ≡ from.page → i₀ ≡ from.slot → n₀ ≡ from.next → (x : Record) → x ≡ get_or (held area r) i vacant
      → r < cap → i < length (held area r) → is_next (left row n) x.key ≡ false
      → ((h : ℕ → ℕ) → Passes h area cap row from (record { page = r; slot = i; next = n })) × Stays area cap row from (record { page = r; slot = i; next = n })
  passed_to from a b c x d l k e =
      let e' = rw d at e in (
        λ h. record {
          read = rw (← a, ← b, ← c) (rest_first h area cap r i l k ∙ rw (rest_first h area cap r i l k, e') at (p.read h));
          met = rw (← a, ← b, ← c) (rw (rest_first h area cap r i l k, e') at (p.met h));
          near = λ q. omega (arith, p.near (omega arith));
        },
        record { stands = there; onward = omega (arith, p.onward); here = λ q. k; next = λ q. e' },
      )
