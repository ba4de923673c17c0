-- What any call comes to on a file that stands, and so what every file after a fresh history is.
use mathlib.Core.Path.{◌≡◌, refl}
use mathlib.Core.Bool.{Bool, true, false, cond}
use mathlib.Core.Logic.{inl, inr}
use mathlib.Core.Option.{Option, none, some}
use mathlib.Core.List.{List, [], ◌∷◌}
use Prim.Native.Nat.{ℕ, ◌*◌, ◌^◌, ◌<◌}
use native.Mathlib.Decide.{ℕ_discrete, dec_lt}
use native.Mathlib.Omega.{arith}
use lib.Dec.{ltb, eqb}
use lib.ListN.{length, replicate}
use borrow.Author.Tests.{ne_eqb}
use Rattle.std.proofs.Common.{Ok, Err}
use Rattle.layouts.specs.Layout.{Layout, slots_on, slots_of}
use Rattle.homes.specs.declared.Params.{Params}
use Rattle.homes.specs.Homes.{first_pages}
use Rattle.placing.specs.Image.{All, Room}
use Rattle.pages.specs.Page.{Record, key, value}
use Rattle.pages.specs.Area.{area_from}
use Rattle.state.specs.declared.Refusal.{Refusal}
use Rattle.state.specs.declared.Refusal.TheVariants.{OutOfRange, WrongArea, WrongRow, Absent, Held, NoRoom, AtCap, Clash, AtStart}
use Rattle.state.specs.State.{homes, grown}
use Rattle.state.specs.Answer.{accepted as took, numbers, again}
use Rattle.state.specs.Done.{done}
use Rattle.state.proofs.Ranges.{ranged}
use Rattle.state.proofs.Answers.{again_same, again_other}
use Rattle.register.specs.Files.{Call, format, find, put, remove, grow, shrink, check, due, File, says, Left, leaves, left, numbers_of, after}
use Rattle.demands.specs.Histories.{Fits, refusal, Kept, state_of, without, commit_of, begun, holding, paged, unpaged, makes, kept}
use Rattle.register.proofs.After.{same_layout}
use Rattle.register.proofs.FormatImage.{Begins, began, outside, elsewhere, format_begins}
use Rattle.register.proofs.ImageCalls.{room_told}
use Rattle.register.proofs.RemadeImage.{grown_row, check_yes, grow_other_row, grow_no_page, grow_no_room, grow_with_room, shrink_no_page, shrink_yes}
use Rattle.demands.proofs.Standing.{Stands, file_of, Refused, Accepts, find_held, find_absent, remove_absent, remove_held, put_held, put_full, put_new}
use Rattle.demands.proofs.InOrder.{listed, none_of}
use Rattle.demands.proofs.Sets.{set_put}

-- the refusals that a file which stands can meet: all but 4 and 9; they move no record
abbrev pub Plain : Refusal → Type 0
Plain why = (listed (numbers (Err why)).refusal (0 ∷ 4 ∷ 9 ∷ []) ≡ false) × ((numbers (Err why)).moved ≡ 0)

pub plain_number : (why : Refusal) → Plain why → ((numbers (Err why)).refusal ≡ 0 → ⊥) × ((numbers (Err why)).refusal ≡ 4 → ⊥) × ((numbers (Err why)).refusal ≡ 9 → ⊥)
plain_number why p =
    let n = none_of (numbers (Err why)).refusal (0 ∷ 4 ∷ 9 ∷ []) p.0 in
    (λ e. n (inl e), λ e. n (inr (inl e)), λ e. n (inr (inr (inl e))))

-- what a call comes to on a file that stands
pub data Step (m : Kept) (ps : List (List Record)) (c : Call) : Type 0 where
  refused : (why : Refusal) (row : List ℕ) → Plain why → Refused m ps c why row → Step m ps c
  accepted : (new : Kept) (v : ℕ) (row : List ℕ) → new.layout ≡ m.layout → makes m.layout (some m) c ≡ some new → Accepts m new ps c v row → Step m ps c
  said : (u : Bool) → makes m.layout (some m) c ≡ some m → left (file_of m ps) c ≡ record { said = says u; file = file_of m ps; row = [] } → Step m ps c

-- what a put comes to: its number was held, with the commit that it offers or with another, or
-- there is no room, or it is new
pub data Puts (m : Kept) (ps : List (List Record)) (x : Record) : Type 0 where
  repeats : (w n : ℕ) → commit_of (key x) m.held ≡ some w → value x ≡ w → Refused m ps (put x) (Held w n) [] → Puts m ps x
  clashes : (w n : ℕ) → commit_of (key x) m.held ≡ some w → (value x ≡ w → ⊥) → Refused m ps (put x) (Clash w n) [] → Puts m ps x
  turned_away : (n : ℕ) → commit_of (key x) m.held ≡ none → Refused m ps (put x) (NoRoom n) [] → Puts m ps x
  joined : commit_of (key x) m.held ≡ none → Accepts m (holding m (x ∷ m.held)) ps (put x) 0 [] → Puts m ps x

-- what a growth comes to
pub data Grows (m : Kept) (ps : List (List Record)) (row : List ℕ) : Type 0 where
  other_row : Refused m ps (grow row) WrongRow row → Grows m ps row
  at_cap : Refused m ps (grow row) AtCap row → Grows m ps row
  crowded : Refused m ps (grow row) (NoRoom m.cap) (grown_row (state_of m) m.held) → Grows m ps row
  larger : Accepts m (paged m) ps (grow row) 0 (grown_row (state_of m) m.held) → Grows m ps row

module _ {m : Kept} {ps : List (List Record)} (s : Stands m ps) where
  -- due asks for the load alone
  pub due_stands : left (file_of m ps) due ≡ record { said = says (ltb (4 * slots_on m.layout m.p) (5 * length m.held)); file = file_of m ps; row = [] }
  unfolding left
  due_stands = rw s.range

  -- a growth, by its row, the pages left and what there is room for
  pub grow_comes : (row : List ℕ) → Grows m ps row
  grow_comes row = go (ℕ_discrete (length row) m.cap) (dec_lt m.p m.cap) (room_told (slots_of m.layout) (homes (grown (state_of m))) m.cap m.held s.set)
    where
      go : Dec (length row ≡ m.cap) → Dec (m.p < m.cap) → Dec (Room key (homes (grown (state_of m))) (slots_of m.layout) m.cap m.held) → Grows m ps row
      go (no f) d r = other_row (grow_other_row s row f)
      go (yes l) (no f) r = at_cap (grow_no_page s row l (omega (arith, (ranged m.layout (state_of m) s.range).p_high)))
      go (yes l) (yes low) (no f) = crowded (grow_no_room s row l low f)
      go (yes l) (yes low) (yes r) = larger (grow_with_room s row l low r)

  grow_step : (row : List ℕ) → Grows m ps row → Step m ps (grow row)
  grow_step row (other_row a) = refused WrongRow row (refl, refl) a
  grow_step row (at_cap a) = refused AtCap row (refl, refl) a
  grow_step row (crowded a) = refused (NoRoom m.cap) (grown_row (state_of m) m.held) (refl, refl) a
  grow_step row (larger a) = accepted (paged m) 0 (grown_row (state_of m) m.held) refl refl a

  -- a shrinking, by the pages that it could give up
  shrink_step : Step m ps shrink
  shrink_step = go (dec_lt (first_pages m.params) m.p)
    where
      go : Dec (first_pages m.params < m.p) → Step m ps shrink
      go (no f) = refused AtStart [] (refl, refl) (shrink_no_page s (omega (arith, (ranged m.layout (state_of m) s.range).p_low)))
      go (yes more) = accepted (unpaged m) 0 [] refl refl (shrink_yes s more)

  find_step : (k : ℕ) → k < 2 ^ 64 → Step m ps (find k)
  find_step k l = go (commit_of k m.held) refl
    where
      go : (o : Option ℕ) → commit_of k m.held ≡ o → Step m ps (find k)
      go (some v) e = accepted m v [] refl refl (find_held s k l v e)
      go none e = let w = find_absent s k l e in refused (Absent w.0) [] (refl, refl) w.1

  remove_step : (k : ℕ) → k < 2 ^ 64 → Step m ps (remove k)
  remove_step k l = go (commit_of k m.held) refl
    where
      go : (o : Option ℕ) → commit_of k m.held ≡ o → Step m ps (remove k)
      go (some v) e = accepted (holding m (without k m.held)) 0 [] refl refl (remove_held s k l v e)
      go none e = let w = remove_absent s k l e in refused (Absent w.0) [] (refl, refl) w.1

  -- a put, by what is held and by what there is room for
  pub put_comes : (x : Record) → Fits m.layout (put x) → Puts m ps x
  put_comes x f = go (commit_of (key x) m.held) refl
    where
      room : commit_of (key x) m.held ≡ none → Dec (Room key (homes (state_of m)) (slots_of m.layout) m.cap (x ∷ m.held)) → Puts m ps x
      room e (yes r) = joined e (put_new s x f.0 e f r)
      room e (no n) = let w = put_full s x f.0 e n in turned_away w.0 e w.1

      held : (w n : ℕ) → commit_of (key x) m.held ≡ some w → Refused m ps (put x) (again (value x) w n) [] → Dec (value x ≡ w) → Puts m ps x
      held w n e a (yes q) = repeats w n e q (rw (again_same (value x) w n q) at a)
      held w n e a (no q) = clashes w n e q (rw (again_other (value x) w n q) at a)

      go : (o : Option ℕ) → commit_of (key x) m.held ≡ o → Puts m ps x
      go (some w) e = let t = put_held s x f.0 w e in held w t.0 e t.1 (ℕ_discrete (value x) w)
      go none e = room e (room_told (slots_of m.layout) (homes (state_of m)) m.cap (x ∷ m.held) (set_put x s.set f.0 e))

  put_step : (x : Record) → Puts m ps x → Step m ps (put x)
  put_step x (repeats w n e q a) = refused (Held w n) [] (refl, refl) a
  put_step x (clashes w n e q a) = refused (Clash w n) [] (refl, refl) a
  put_step x (turned_away n e a) = refused (NoRoom n) [] (refl, refl) a
  put_step x (joined e a) = accepted (holding m (x ∷ m.held)) 0 [] refl refl a

  format_step : (q : Params) (cap : ℕ) → Step m ps (format q cap)
  format_step q cap = go (format_begins (file_of m ps) q cap)
    where
      go : Begins (file_of m ps) q cap (left (file_of m ps) (format q cap)) → Step m ps (format q cap)
      go (began e t) = accepted (begun m.layout q cap) 0 [] refl refl (record { read = 0; moved = 0; pages = replicate cap []; left = e; stands = t; moves = refl })
      go (outside e) = refused OutOfRange [] (refl, refl) e
      go (elsewhere e) = refused WrongArea [] (refl, refl) e

  -- any call
  pub step : (c : Call) → Fits m.layout c → Step m ps c
  step (format q cap) f = format_step q cap
  step (find k) f = find_step k f
  step (put x) f = put_step x (put_comes x f)
  step (remove k) f = remove_step k f
  step (grow row) f = grow_step row (grow_comes row)
  step shrink f = shrink_step
  step check f = accepted m 0 [] refl refl (check_yes s)
  step due f = said (ltb (4 * slots_on m.layout m.p) (5 * length m.held)) refl due_stands

-- what is kept is what stands
abbrev pub Known : Option Kept → File → Type 0
Known none f = Unit {0}
Known (some m) f = (ps : List (List Record)) × ((f ≡ file_of m ps) × Stands m ps)

-- nothing known stays so
still : (l : Left) → Known (cond (eqb (numbers_of l.said).refusal 0) none none) l.file
still l = go (eqb (numbers_of l.said).refusal 0)
  where
    go : (u : Bool) → Known (cond u none none) l.file
    go true = tt
    go false = tt

-- after a call that comes to l
abbrev Next : Layout → Option Kept → Call → Left → Type 0
Next form o c l = Known (cond (eqb (numbers_of l.said).refusal 0) (makes form o c) o) l.file

step_next : (m : Kept) (ps : List (List Record)) → Stands m ps → (c : Call) → Step m ps c → Next m.layout (some m) c (left (file_of m ps) c)
step_next m ps s c (refused why row p e) =
    let t : Next m.layout (some m) c (leaves m.layout (done (state_of m) (Err why)) (area_from m.layout 0 ps) row) = rw (ne_eqb (numbers (Err why)).refusal 0 (plain_number why p).0) (ps, (refl, s)) in
    rw e t
step_next m ps s c (accepted new v row q k a) =
    let t : Next m.layout (some m) c (leaves m.layout (done (state_of new) (Ok (took v a.read a.moved))) (area_from m.layout 0 a.pages) row) = rw (k, q) (a.pages, (refl, a.stands)) in
    rw a.left t
step_next m ps s c (said u k e) =
    let t : Next m.layout (some m) c (record { said = says u; file = file_of m ps; row = [] }) = rw k (ps, (refl, s)) in
    rw e t

-- before a format is accepted nothing is known, and no other call makes anything known
none_next : (f : File) (c : Call) → Next f.layout none c (left f c)
none_next f (format q cap) = go (left f (format q cap)) (format_begins f q cap)
  where
    go : (l : Left) → Begins f q cap l → Next f.layout none (format q cap) l
    go l (began e t) = rw e (replicate cap [], (refl, t))
    go l (outside e) = rw e tt
    go l (elsewhere e) = rw e tt
none_next f (find k) = still (left f (find k))
none_next f (put x) = still (left f (put x))
none_next f (remove k) = still (left f (remove k))
none_next f (grow row) = still (left f (grow row))
none_next f shrink = still (left f shrink)
none_next f check = still (left f check)
none_next f due = still (left f due)

-- so what a history keeps stands after it
pub history : (o : Option Kept) (f : File) (cs : List Call) → Known o f → All (Fits f.layout) cs → Known (kept o f cs) (after f cs)
unfolding kept after
history o f [] k w = k
history o f (c ∷ cs) k w = history (cond (eqb (refusal f c) 0) (makes f.layout o c) o) _ cs (next o k) (rw (same_layout f c) w.1)
  where
    next : (o : Option Kept) → Known o f → Next f.layout o c (left f c)
    next none k = none_next f c
    next (some m) k = rw k.1.0 (step_next m k.0 k.1.1 c (step k.1.1 c (rw k.1.0 at w.0)))
