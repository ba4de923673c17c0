-- The turns over the places of one home: what is left to write, written from where the last ended, is all.
use mathlib.Core.Path.{◌≡◌, refl, sym, ap, ◌∙◌}
use mathlib.Core.Bool.{Bool, true, false}
use mathlib.Core.List.{List, [], ◌∷◌, ◌++◌}
use Prim.Native.Nat.{ℕ, zero, suc, ◌+◌, ◌-◌, ◌*◌, ◌/◌, ◌≤◌, ◌<◌}
use native.Mathlib.Numerals.{add-one}
use native.Mathlib.Omega.{arith}
use lib.ListN.{length}
use Rattle.numbers.specs.Little.{written}
use Rattle.placing.proofs.Keeping.{keep-length}
use Rattle.pages.specs.Page.{Record, key}
use Rattle.entries.specs.declared.Entry.{Entry}
use Rattle.entries.specs.Steps.Entries.{size, entry_bytes}
use Rattle.rebuild.specs.Steps.Rebuild.{slots}
use Rattle.leaving.specs.Steps.Leaving.{seat, seats, going, entered}
use Rattle.leaving.proofs.Room.{entered_none, entered-length, one_put, one_lost, entered-append}

module _ (takes : ℕ → Bool) (area : List ℕ) (to a : ℕ) where
  seats-length : (n j : ℕ) → length (seats area to a n j) ≡ n
  seats-length zero j = refl
  seats-length (suc n) j = ap suc (seats-length n (suc j))

  -- no more go than there are
  pub going_few : (n j : ℕ) → length (going takes area to a n j) ≤ n
  unfolding going
  going_few n j = omega (arith, keep-length (λ e. takes (key e.held)) (seats area to a n j), seats-length n j)

  module _ (top j : ℕ) (h : j < top) where
    left : top - j ≡ suc (top - (j + 1))
    left = omega arith

    goes : takes (key (seat area to a j).held) ≡ true → going takes area to a (top - j) j ≡ (seat area to a j ∷ []) ++ going takes area to a (top - (j + 1)) (j + 1)
    unfolding going
    goes e = rw (left, e, add-one)

    stays : takes (key (seat area to a j).held) ≡ false → going takes area to a (top - j) j ≡ going takes area to a (top - (j + 1)) (j + 1)
    unfolding going
    stays e = rw (left, e, add-one)

-- between turns, at place j of the n from place `start` on
pub record Putting (takes : ℕ → Bool) (area : List ℕ) (to a start n at₀ : ℕ) (room₀ : List ℕ) (j at : ℕ) (room : List ℕ) : Type 0 where
  pub within : j ≤ start + n
  pub ends : at + size * length (going takes area to a (start + n - j) j) ≡ at₀ + size * length (going takes area to a n start)
  pub rest : entered room at (going takes area to a (start + n - j) j) ≡ entered room₀ at₀ (going takes area to a n start)
  pub long : length room ≡ length room₀

module _ {takes : ℕ → Bool} {area : List ℕ} {to a start n at₀ : ℕ} {room₀ : List ℕ} {j at : ℕ} {room : List ℕ} (w : Putting takes area to a start n at₀ room₀ j at room) where
  pub not_far : at ≤ at₀ + size * n
  not_far = omega (arith, w.ends, going_few takes area to a n start)

  -- the record that stands at place j
  module _ (h : j < start + n) (x : Record) (is : x ≡ (seat area to a j).held) (u : Bool) (test : u ≡ takes (key x)) where
    abbrev more : List Entry
    more = going takes area to a (start + n - (j + 1)) (j + 1)

    told : takes (key (seat area to a j).held) ≡ u
    told = rw (← is) (sym test)

    -- passed, if it stays
    pub putting_stays : (at' : ℕ) (k : List ℕ) → u ≡ false → k ≡ room → at' ≡ at → Putting takes area to a start n at₀ room₀ (j + 1) at' k
    putting_stays at' k e f g =
        let same : going takes area to a (start + n - j) j ≡ more = stays takes area to a (start + n) j h (told ∙ e) in
        record {
          within = omega arith;
          ends = rw (g, ← same) w.ends;
          rest = rw (f, g, ← same) w.rest;
          long = rw f w.long;
        }

    -- written, if it goes, or lost
    pub put_seat : (k : List ℕ) → at + size ≤ length room → k ≡ written room at (entry_bytes (record { home = to; from = a + j / slots; held = x })) → k ≡ entered room at (seat area to a j ∷ [])
    put_seat k f e = e ∙ rw is (one_put room at (seat area to a j) f)

    pub lost_seat : (k : List ℕ) → length room < at + size → k ≡ room → k ≡ entered room at (seat area to a j ∷ [])
    lost_seat k f e = e ∙ one_lost room at (seat area to a j) f

    pub putting_goes : (at' : ℕ) (k : List ℕ) → u ≡ true → k ≡ entered room at (seat area to a j ∷ []) → at' ≡ at + size → Putting takes area to a start n at₀ room₀ (j + 1) at' k
    putting_goes at' k e f g =
        let split : going takes area to a (start + n - j) j ≡ (seat area to a j ∷ []) ++ more = goes takes area to a (start + n) j h (told ∙ e) in
        record {
          within = omega arith;
          ends = omega (arith, ap length split, w.ends);
          rest = rw (f, g) (entered-append room at (seat area to a j ∷ []) more ∙ rw (← split) w.rest);
          long = ap length f ∙ entered-length room at (seat area to a j ∷ []) ∙ w.long;
        }

  -- after the last place nothing is left
  module _ (h : start + n ≤ j) where
    none_left : going takes area to a (start + n - j) j ≡ []
    unfolding going
    none_left =
        let z : start + n - j ≡ 0 = omega arith in
        rw z

    pub putting_end : at ≡ at₀ + size * length (going takes area to a n start)
    putting_end = omega (arith, w.ends, ap length none_left)

    pub putting_room : room ≡ entered room₀ at₀ (going takes area to a n start)
    putting_room = sym (entered_none room at) ∙ rw none_left at w.rest
