-- A growth by a page: which records of a home go there, and how many are left of each home.
use mathlib.Core.Path.{◌≡◌, refl, ap, ◌∙◌}
use mathlib.Core.Bool.{Bool, true, false, cond, ◌&&◌}
use mathlib.Core.Logic.{◌⊎◌, inl, inr, ⊎_elim}
use mathlib.Core.List.{List, [], ◌∷◌}
use Prim.Native.Nat.{ℕ, zero, suc, ◌+◌, ◌/◌, ◌%◌, ◌≤◌, ◌<◌}
use native.Mathlib.Omega.{arith}
use borrow.Author.Tests.{eq-eqb, ne_eqb}
use lib.Dec.{eqb}
use lib.ListN.{length, take, drop, get_or}
use lib.Seq.{drop-cons}
use Rattle.placing.specs.Image.{All}
use Rattle.placing.specs.Lay.{count}
use Rattle.placing.specs.Rows.{at_home}
use Rattle.placing.specs.Steps.Keep.{keep}
use Rattle.placing.proofs.Lists.{all_map, all_map₂}
use Rattle.placing.proofs.Keeping.{keep_none, count_none}
use Rattle.pages.specs.Page.{Record, key, vacant}
use Rattle.entries.specs.declared.Entry.{Entry}
use Rattle.rebuild.specs.Steps.Rebuild.{slots, tagged}
use Rattle.rebuild.proofs.Packing.{on_page}
use Rattle.rebuild.proofs.Commuting.{Right}
use Rattle.leaving.specs.Steps.Leaving.{homed, seat, seats, going}
use Rattle.leaving.proofs.Tagged.{tagged_on, was_in}

-- homes before and after page P is added: a key goes there where its page gives and the key is taken
pub record Grows (was h : ℕ → ℕ) (gives takes : ℕ → Bool) (P : ℕ) : Type 0 where
  pub below : (k : ℕ) → was k < P
  pub given : (k : ℕ) → h k ≡ cond (gives (was k) && takes k) P (was k)

module _ {was h : ℕ → ℕ} {gives takes : ℕ → Bool} {P : ℕ} (g : Grows was h gives takes P) where
  -- a key stays or goes there
  pub stays_or_goes : (k : ℕ) → (h k ≡ was k) ⊎ (h k ≡ P)
  stays_or_goes k = go (gives (was k) && takes k) (g.given k)
    where
      go : (u : Bool) → h k ≡ cond u P (was k) → (h k ≡ was k) ⊎ (h k ≡ P)
      go true e = inr e
      go false e = inl e

  -- from a page that gives none, all stay
  module _ (a : ℕ) (off : gives a ≡ false) where
    stays_here : (k : ℕ) → was k ≡ a → h k ≡ was k
    stays_here k e = g.given k ∙ rw (e, off)

  -- from one that gives, those go that are taken
  module _ (a : ℕ) (on : gives a ≡ true) where
    goes_here : (k : ℕ) → was k ≡ a → h k ≡ cond (takes k) P a
    goes_here k e = g.given k ∙ rw (e, on)

-- an entry with its home and its page
abbrev tag : (ℕ → ℕ) → ℕ → Record → Entry
tag h a x = record { home = h (key x); from = a; held = x }

tagged_at : (h : ℕ → ℕ) (a : ℕ) (p : List Record) (k : ℕ) → get_or (tagged h a p) k (tag h a vacant) ≡ tag h a (get_or p k vacant)
tagged_at h a [] k = refl
tagged_at h a (x ∷ p) zero = refl
tagged_at h a (x ∷ p) (suc k) = tagged_at h a p k

-- what the entries of a home become
module _ {was h : ℕ → ℕ} {gives takes : ℕ → Bool} {P : ℕ} (g : Grows was h gives takes P) (a : ℕ) (l : a < P) (s : List Entry) (right : All (Right h) s) where
  -- of another home below P there are none
  module _ (here : All (λ e. was_in was e ≡ a) s) where
    pub none_other : (i : ℕ) → a < i → i < P → count (homed i) s ≡ 0
    none_other i low high =
        count_none (homed i) s
        (all_map₂ (Right h) (λ e. was_in was e ≡ a) (λ e. homed i e ≡ false)
        (λ e r w. ne_eqb e.home i (λ q. ⊎_elim (λ x. omega arith) (λ x. omega arith) (stays_or_goes g (key e.held)))) s right here)

    pub none_before : (i : ℕ) → a < i → at_home (was_in was) i s ≡ 0
    none_before i low =
        count_none (λ e. eqb (was_in was e) i) s (all_map (λ e. was_in was e ≡ a) (λ e. eqb (was_in was e) i ≡ false) (λ e w. ne_eqb (was_in was e) i (λ q. omega arith)) s here)

    -- from a page that doesn't give none goes
    pub all_stay : gives a ≡ false → keep (homed P) s ≡ []
    all_stay off =
        keep_none (homed P) s
        (all_map₂ (Right h) (λ e. was_in was e ≡ a) (λ e. homed P e ≡ false) (λ e r w. ne_eqb e.home P (λ q. omega (arith, stays_here g a off (key e.held) w))) s right here)

  -- nor is any of a higher home at a
  pub none_higher : All (λ e. a < was_in was e) s → count (homed a) s ≡ 0
  none_higher high =
      count_none (homed a) s
      (all_map₂ (Right h) (λ e. a < was_in was e) (λ e. homed a e ≡ false)
      (λ e r w. ne_eqb e.home a (λ q. ⊎_elim (λ x. omega arith) (λ x. omega arith) (stays_or_goes g (key e.held)))) s right high)

-- each stays or goes
pub stay_and_go : {was h : ℕ → ℕ} {gives takes : ℕ → Bool} {P : ℕ} → Grows was h gives takes P → (a : ℕ) → a < P → (s : List Entry) → All (Right h) s → All (λ e. was_in was e ≡ a) s
    → count (homed a) s + count (homed P) s ≡ length s
stay_and_go g a l [] r w = refl
stay_and_go {P = P} g a l (e ∷ s) r w =
    ⊎_elim
    (λ x.
    let q : e.home ≡ a = r.0 ∙ x ∙ w.0 in
    rw (eq-eqb e.home a q, ne_eqb e.home P (λ z. omega arith)) (omega (arith, stay_and_go g a l s r.1 w.1)))
    (λ x.
    let q : e.home ≡ P = r.0 ∙ x in
    rw (eq-eqb e.home P q, ne_eqb e.home a (λ z. omega arith)) (omega (arith, stay_and_go g a l s r.1 w.1)))
    (stays_or_goes g (key e.held))

-- at their places stand the entries of one home: those of a page that gives whose home is new are those that are taken
module _ {was h : ℕ → ℕ} {gives takes : ℕ → Bool} {P : ℕ} (g : Grows was h gives takes P) (area : List ℕ) (a : ℕ) (on : gives a ≡ true) (s : List Entry) (top : ℕ) (few : top ≤ length s)
    (places : (j : ℕ) (d : Entry) → j < top → get_or s j d ≡ get_or (tagged_on h area (a + j / slots)) (j % slots) d) where
  seat_of : (j : ℕ) → j < top → drop j s ≡ tag h (a + j / slots) (seat area P a j).held ∷ drop (suc j) s
  seat_of j l =
      let d : Entry = tag h (a + j / slots) vacant in
      drop-cons s j d (omega arith) ∙ ap (λ (e : Entry). e ∷ drop (suc j) s) (places j d l ∙ tagged_at h (a + j / slots) (on_page area (a + j / slots)) (j % slots))

  one_seat : (e : Entry) (t u : List Entry) → was_in was e ≡ a → e.home ≡ h (key e.held) → keep (homed P) t ≡ keep (λ x. takes (key x.held)) u
      → keep (homed P) (e ∷ t) ≡ keep (λ x. takes (key x.held)) (record { home = P; from = e.from; held = e.held } ∷ u)
  one_seat e t u w r ih = go (takes (key e.held)) (r ∙ goes_here g a on (key e.held) w)
    where
      go : (v : Bool) → e.home ≡ cond v P a → cond (homed P e) (e ∷ keep (homed P) t) (keep (homed P) t)
          ≡ cond v (record { home = P; from = e.from; held = e.held } ∷ keep (λ x. takes (key x.held)) u) (keep (λ x. takes (key x.held)) u)
      go true q = rw (eq-eqb e.home P q, ih) (ap (λ (n : ℕ). record { home = n; from = e.from; held = e.held } ∷ keep (λ x. takes (key x.held)) u) q)
      go false q = rw (ne_eqb e.home P (λ z. omega (arith, g.below (key e.held))), ih)

  pub home_goes : (n j : ℕ) → j + n ≤ top → All (λ e. was_in was e ≡ a) (take n (drop j s)) → keep (homed P) (take n (drop j s)) ≡ going takes area P a n j
  unfolding going
  home_goes zero j l w = refl
  home_goes (suc n) j l w =
      let e : drop j s ≡ tag h (a + j / slots) (seat area P a j).held ∷ drop (suc j) s = seat_of j (omega arith) in
      let v : All (λ e. was_in was e ≡ a) (take (suc n) (tag h (a + j / slots) (seat area P a j).held ∷ drop (suc j) s)) = rw e at w in
      rw e (one_seat (tag h (a + j / slots) (seat area P a j).held) (take n (drop (suc j) s)) (seats area P a n (suc j)) v.0 refl (home_goes n (suc j) (omega arith) v.1))
