-- A page filled from entries: what is left to take, entry by entry.
use mathlib.Core.Path.{◌≡◌, refl, ◌∙◌}
use mathlib.Core.Bool.{Bool, true, false, cond, not, ◌&&◌}
use mathlib.Core.List.{List, [], ◌∷◌, map, map-map}
use Prim.Native.Nat.{ℕ, zero, suc, ◌+◌, ◌-◌, ◌*◌, ◌^◌, ◌≤◌, ◌<◌}
use native.Mathlib.Nat.{zero-add}
use native.Mathlib.Omega.{arith}
use borrow.Author.Tests.{ltb-true, ltb-false, le-leb, lt-leb}
use lib.Dec.{leb, ltb, eqb}
use lib.ListN.{length, take, drop, set, replicate, length-map, length-take}
use lib.Seq.{sets, take-nil}
use Rattle.numbers.proofs.Records.{and_left, and_right}
use Rattle.placing.specs.Lay.{one}
use Rattle.pages.specs.Page.{run, key, value, padded, in_memory}
use Rattle.pages.proofs.Read.{row_starts}
use Rattle.entries.specs.declared.Entry.{Entry}
use Rattle.entries.specs.Steps.Entries.{size, home, entry_at, entries_in}
use Rattle.rebuild.specs.declared.Took.{Took}
use Rattle.rebuild.specs.Steps.Rebuild.{slots, record_in, fitting, hops, took}
use Rattle.entries.proofs.Reading.{Whole, left_first, left_none}

-- as many as fit are no more than there are slots
pub fitting_few : (b a : ℕ) (es : List Entry) → fitting b a es ≤ b
fitting_few zero a es = omega arith
fitting_few (suc b) a [] = omega arith
fitting_few (suc b) a (e ∷ es) = go (leb (home e) a) (fitting_few b a es)
  where
    go : (t : Bool) → fitting b a es ≤ b → cond t (suc (fitting b a es)) 0 ≤ suc b
    go true h = omega arith
    go false h = omega arith

-- nor more than there are entries
pub fitting-length : (b a : ℕ) (es : List Entry) → fitting b a es ≤ length es
fitting-length zero a es = omega arith
fitting-length (suc b) a [] = omega arith
fitting-length (suc b) a (e ∷ es) = go (leb (home e) a) (fitting-length b a es)
  where
    go : (t : Bool) → fitting b a es ≤ length es → cond t (suc (fitting b a es)) 0 ≤ suc (length es)
    go true h = omega arith
    go false h = omega arith

-- a page that holds n records in its rows, with the entries of a list stored behind them
abbrev pub filled : (a : ℕ) (ks vs us : List ℕ) (n at m : ℕ) → List Entry → Took
filled a ks vs us n at m es = record {
  page = record { count = n + length es; keys = sets ks n (map (λ e. e.held.key) es); values = sets vs n (map (λ e. e.held.value) es); runs = sets us n (map (λ e. e.held.run) es) };
  next = at + size * length es;
  moved = m + hops a es;
}

-- the page in hand, with what it can still take of a list of entries
unfoldable pub filling : (a : ℕ) → List Entry → (ks vs us : List ℕ) (n at m : ℕ) → Took
filling a es ks vs us n at m = filled a ks vs us n at m (take (fitting (slots - n) a es) es)

-- the page in hand as it is
abbrev pub in_hand : (ks vs us : List ℕ) (n at m : ℕ) → Took
in_hand ks vs us n at m = record { page = record { count = n; keys = ks; values = vs; runs = us }; next = at; moved = m }

-- twelve entries at most in an empty page are the page of their records
pub filled_start : (a at : ℕ) (es : List Entry) → length es ≤ 12
    → filled a (replicate 12 0) (replicate 12 0) (replicate 12 0) 0 at 0 es ≡ record { page = in_memory (map record_in es); next = at + size * length es; moved = hops a es }
unfolding in_memory
filled_start a at es l =
    rw (
      row_first (λ e. e.held.key),
      row_first (λ e. e.held.value),
      row_first (λ e. e.held.run),
      map-map key record_in es,
      map-map value record_in es,
      map-map run record_in es,
      length-map es record_in,
      zero-add (length es),
      zero-add (hops a es),
    )
  where
    row_first : (g : Entry → ℕ) → sets (replicate 12 0) 0 (map g es) ≡ padded (map g es)
    row_first g = row_starts (map g es) (rw length-map l)

-- what an empty page can take is the page asked for
filling_start : (a at : ℕ) (es : List Entry) → filling a es (replicate 12 0) (replicate 12 0) (replicate 12 0) 0 at 0 ≡ took a at es
unfolding filling in_memory
filling_start a at es =
    let p : List Entry = take (fitting slots a es) es in
    let k : length p ≡ fitting slots a es = length-take (fitting slots a es) es ∙ omega (arith, fitting-length slots a es) in
    let z : slots - 0 ≡ slots = omega arith in
    rw z (filled_start a at p (omega (arith, k, fitting_few slots a es)) ∙ rw k)

-- an entry that fits is stored
pub filled-cons : (a : ℕ) (ks vs us : List ℕ) (n at m : ℕ) (e : Entry) (es : List Entry)
    → filled a (set ks n e.held.key) (set vs n e.held.value) (set us n e.held.run) (n + 1) (at + size) (m + one (not (eqb e.from a))) es ≡ filled a ks vs us n at m (e ∷ es)
filled-cons a ks vs us n at m e es =
    let i : n + 1 ≡ suc n = omega arith in
    let p : suc n + length es ≡ n + suc (length es) = omega arith in
    let q : at + size + size * length es ≡ at + size * suc (length es) = omega arith in
    let r : m + one (not (eqb e.from a)) + hops a es ≡ m + (one (not (eqb e.from a)) + hops a es) = omega arith in
    rw (i, p, q, r)

filling_turn : (a : ℕ) (l ks vs us : List ℕ) (n at m f : ℕ) (e : Entry) → e ≡ entry_at l at → n < slots → at + size ≤ length l → home e ≤ a
    → f ≡ one (not (eqb e.from a))
    → filling a (entries_in (drop (at + size) l)) (set ks n e.held.key) (set vs n e.held.value) (set us n e.held.run) (n + 1) (at + size) (m + f)
    ≡ filling a (entries_in (drop at l)) ks vs us n at m
unfolding filling
filling_turn a l ks vs us n at m f e d s w h g =
    let es : List Entry = entries_in (drop (at + size) l) in
    let k : slots - n ≡ suc (slots - (n + 1)) = omega arith in
    rw (left_first l at w, ← d, k, le-leb (home e) a h, g)
    (filled-cons a ks vs us n at m e (take (fitting (slots - (n + 1)) a es) es))

-- nothing more is stored
pub filled_none : (a : ℕ) (ks vs us : List ℕ) (n at m : ℕ) → in_hand ks vs us n at m ≡ filled a ks vs us n at m []
filled_none a ks vs us n at m =
    let p : n + 0 ≡ n = omega arith in
    let q : at + size * 0 ≡ at = omega arith in
    let r : m + 0 ≡ m = omega arith in
    rw (p, q, r)

-- the next entry's home is above the page
filling_above : (a : ℕ) (l ks vs us : List ℕ) (n at m : ℕ) → n < slots → at + size ≤ length l → a < home (entry_at l at)
    → in_hand ks vs us n at m ≡ filling a (entries_in (drop at l)) ks vs us n at m
unfolding filling
filling_above a l ks vs us n at m s w h =
    let k : slots - n ≡ suc (slots - (n + 1)) = omega arith in
    rw (left_first l at w, k, lt-leb (home (entry_at l at)) a h) (filled_none a ks vs us n at m)

-- no slot is left, or no entry
filling_end : (a : ℕ) (l ks vs us : List ℕ) (n at m : ℕ) → (ltb n slots && ltb at (length l)) ≡ false
    → in_hand ks vs us n at m ≡ filling a (entries_in (drop at l)) ks vs us n at m
unfolding filling
filling_end a l ks vs us n at m h = go (ltb n slots) refl h
  where
    es : List Entry
    es = entries_in (drop at l)

    go : (t : Bool) → ltb n slots ≡ t → (t && ltb at (length l)) ≡ false → in_hand ks vs us n at m ≡ filled a ks vs us n at m (take (fitting (slots - n) a es) es)
    go true e f = rw (left_none l at (ltb-false at (length l) f), take-nil) (filled_none a ks vs us n at m)
    go false e f =
        let k : slots - n ≡ 0 = omega (arith, ltb-false n slots e) in
        rw k (filled_none a ks vs us n at m)

-- what holds between turns
pub record Taking (a at : ℕ) (l ks vs us : List ℕ) (n next m : ℕ) : Type 0 where
  pub rest : filling a (entries_in (drop next l)) ks vs us n next m ≡ took a at (entries_in (drop at l))
  pub whole : Whole next l
  pub within : next ≤ length l
  pub few : n ≤ slots
  pub moves : m ≤ n

pub taking_start : (a at : ℕ) (l : List ℕ) → Whole at l → at ≤ length l → Taking a at l (replicate 12 0) (replicate 12 0) (replicate 12 0) 0 at 0
taking_start a at l w h = record {
  rest = filling_start a at (entries_in (drop at l));
  whole = w;
  within = h;
  few = omega arith;
  moves = omega arith;
}

one_few : (t : Bool) → one t ≤ 1
one_few true = omega arith
one_few false = omega arith

module _ {a at : ℕ} {l ks vs us : List ℕ} {n next m : ℕ} (k : Taking a at l ks vs us n next m) where
  module _ (h : (ltb n slots && ltb next (length l)) ≡ true) where
    pub slot_left : n < slots
    slot_left = ltb-true n slots (and_left (ltb n slots) (ltb next (length l)) h)

    pub entry_left : next + size ≤ length l
    entry_left = omega (arith, k.whole, ltb-true next (length l) (and_right (ltb n slots) (ltb next (length l)) h))

    pub moves_fit : (from f : ℕ) → f ≡ one (not (eqb from a)) → m + f < 2 ^ 32
    moves_fit from f e = omega (arith, k.moves, k.few, one_few (not (eqb from a)))

    pub taking_turn : (f : ℕ) (e : Entry) → e ≡ entry_at l next → home e ≤ a → f ≡ one (not (eqb e.from a))
        → Taking a at l (set ks n e.held.key) (set vs n e.held.value) (set us n e.held.run) (n + 1) (next + size) (m + f)
    taking_turn f e d o g = record {
      rest = filling_turn a l ks vs us n next m f e d slot_left entry_left o g ∙ k.rest;
      whole = omega (arith, k.whole, entry_left);
      within = entry_left;
      few = omega (arith, slot_left);
      moves = omega (arith, k.moves, g, one_few (not (eqb e.from a)));
    }

    pub taking_above : (e : Entry) → e ≡ entry_at l next → a < home e → in_hand ks vs us n next m ≡ took a at (entries_in (drop at l))
    taking_above e d o = filling_above a l ks vs us n next m slot_left entry_left (rw (← d) o) ∙ k.rest

  pub taking_end : (ltb n slots && ltb next (length l)) ≡ false → in_hand ks vs us n next m ≡ took a at (entries_in (drop at l))
  taking_end h = filling_end a l ks vs us n next m h ∙ k.rest
