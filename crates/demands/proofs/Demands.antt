-- The demands, proved: of any file after a fresh history (`Fresh`).
use mathlib.Core.Path.{◌≡◌, refl, sym, ap, ◌∙◌}
use mathlib.Core.Logic.{◌↔◌, inl, inr, ⊎_elim}
use mathlib.Core.Option.{Option, none, some}
use mathlib.Core.List.{List, [], ◌∷◌}
use Prim.Native.Nat.{ℕ, ◌<◌}
use native.Mathlib.Decide.{dec_lt}
use native.Mathlib.Omega.{arith}
use Rattle.numbers.specs.Little.{Bytes}
use Rattle.layouts.specs.Layout.{slots_of}
use Rattle.homes.specs.Homes.{first_pages}
use Rattle.placing.specs.Image.{Image}
use Rattle.placing.specs.Rows.{counts}
use Rattle.placing.proofs.Images.{one_image}
use Rattle.placing.proofs.Perms.{perm-length}
use Rattle.placing.proofs.Seek.{clash}
use Rattle.pages.specs.Page.{Record, key, home_for}
use Rattle.state.specs.State.{homes, grown}
use Rattle.register.specs.Files.{Call, find, put, remove, grow, shrink, File, Left, left, numbers_of}
use Rattle.demands.specs.Histories.{refusal, Kept, state_of, commit_of}
use Rattle.demands.specs.Demands.{Fresh, Tells, Row, Found, PutTold, Retried, Removed, Sound, TheImage, RoomPut, RoomGrow, Shrinks, TakenBack, Counted, Agree, AfterFresh, Demands}
use Rattle.demands.specs.Refusals.{OneOf}
use Rattle.demands.specs.ReadMoved.{ReadHeld, ReadAbsent, ReadWithin, Moved}
use Rattle.demands.proofs.InOrder.{none_of}
use Rattle.register.proofs.ImageCalls.{room_told}
use Rattle.register.proofs.RemadeImage.{image_of, check_yes, grow_no_room, grow_with_room, shrink_no_page, shrink_yes}
use Rattle.register.proofs.RoundTrips as trips
use Rattle.demands.proofs.Sets.{set_put, same_records}
use Rattle.demands.proofs.Standing.{Stands, file_of, find_held, find_absent, remove_absent, remove_held, put_full, put_new}
use Rattle.demands.proofs.Unchanged.{total}
use Rattle.state.proofs.Ranges.{ranged, in_range_lem}
use Rattle.demands.proofs.Refusals.{refusals}
use Rattle.demands.proofs.Steps.{Step, refused, accepted, said, plain_number, Puts, repeats, clashes, turned_away, joined, Grows, other_row, at_cap, crowded, larger, put_comes, grow_comes, due_stands, step, history}
use Rattle.demands.proofs.ReadMoved.{read_held_stands, read_absent_stands, read_within_stands, moved_stands}

-- after a fresh history the file is the image of what is kept
pub stands : (m : Kept) (f : File) → Fresh m f → (ps : List (List Record)) × ((f ≡ file_of m ps) × Stands m ps)
stands m f w = rw (w.keeps, w.leaves) at (history none w.start w.calls tt w.fits)

-- 01's numbers of calls that come to the same are the same
number : {l r : Left} → l ≡ r → (numbers_of l.said).refusal ≡ (numbers_of r.said).refusal
number e = ap (λ (t : Left). (numbers_of t.said).refusal) e

commit : {l r : Left} → l ≡ r → (numbers_of l.said).value ≡ (numbers_of r.said).value
commit e = ap (λ (t : Left). (numbers_of t.said).value) e

-- one of two numbers is given, so each exactly in its own case
either : (n a b : ℕ) {P : Type 0} → (a ≡ b → ⊥) → Dec P → (P → n ≡ b) → ((P → ⊥) → n ≡ a) → ((n ≡ a) ↔ (P → ⊥)) × ((n ≡ b) ↔ P)
either n a b d (yes p) f g = ((λ e. absurd (d (sym e ∙ f p)), λ q. absurd (q p)), (λ e. p, f))
either n a b d (no q) f g = ((λ e. q, g), (λ e. absurd (d (sym (g q) ∙ e)), f))

-- a commit that is found is that of the record
told : {o : Option ℕ} {u v : ℕ} → o ≡ some u → (u ≡ v) ↔ (o ≡ some v)
told {o} {u} {v} e = (λ q. e ∙ ap some q, λ q. let t : some u ≡ some v = sym e ∙ q in cc)

module _ (m : Kept) (ps : List (List Record)) (s : Stands m ps) where
  abbrev f : File
  f = file_of m ps

  found_stands : Found m f
  found_stands k l = go (commit_of k m.held) refl
    where
      go : (o : Option ℕ) → commit_of k m.held ≡ o
          → ((v : ℕ) → Tells f (find k) 0 v ↔ (commit_of k m.held ≡ some v)) × ((refusal f (find k) ≡ 5) ↔ (commit_of k m.held ≡ none))
      go (some w) e =
          let a = find_held s k l w e in
          let n : refusal f (find k) ≡ 0 = number a.left in (
            (λ v. (λ t. (told e).0 (sym (commit a.left) ∙ t.1), λ q. (n, commit a.left ∙ (told e).1 q))),
            (λ z. absurd (omega arith), λ z. absurd (clash (sym z ∙ e))),
          )
      go none e =
          let n : refusal f (find k) ≡ 5 = number (find_absent s k l e).1 in
          ((λ v. (λ t. absurd (omega (arith, t.0)), λ q. absurd (clash (sym e ∙ q)))), (λ z. e, λ z. n))

  -- a put of what isn't held
  told_new : (x : Record) → commit_of (key x) m.held ≡ none → OneOf (refusal f (put x)) (0 ∷ 7 ∷ []) → PutTold m f x
  told_new x e n =
      let six : refusal f (put x) ≡ 6 → ⊥ = λ q. none_of 6 (0 ∷ 7 ∷ []) refl (rw q at n) in
      let thirteen : refusal f (put x) ≡ 13 → ⊥ = λ q. none_of 13 (0 ∷ 7 ∷ []) refl (rw q at n) in
      record {
        repeat = λ w. (λ t. absurd (six t.0), λ t. absurd (clash (sym e ∙ t.0)));
        clash = λ w. (λ t. absurd (thirteen t.0), λ t. absurd (clash (sym e ∙ t.0)));
        neither = (λ z. e, λ z. (six, thirteen));
      }

  retried_stands : Retried m f
  retried_stands x fits = go (put_comes s x fits)
    where
      go : Puts m ps x → PutTold m f x
      go (repeats c n e o a) =
          record {
            repeat = λ w. (λ t. let q : c ≡ w = sym (commit a) ∙ t.1 in ((told e).0 q, o ∙ q), λ t. (number a, commit a ∙ (told e).1 t.0));
            clash = λ w. (λ t. absurd (omega (arith, number a, t.0)), λ t. absurd (t.1 (o ∙ (told e).1 t.0)));
            neither = (λ z. absurd (z.0 (number a)), λ q. absurd (clash (sym q ∙ e)));
          }
      go (clashes c n e o a) =
          record {
            repeat = λ w. (λ t. absurd (omega (arith, number a, t.0)), λ t. absurd (o (t.1 ∙ sym ((told e).1 t.0))));
            clash = λ w. (λ t. let q : c ≡ w = sym (commit a) ∙ t.1 in ((told e).0 q, λ z. o (z ∙ sym q)), λ t. (number a, commit a ∙ (told e).1 t.0));
            neither = (λ z. absurd (z.1 (number a)), λ q. absurd (clash (sym q ∙ e)));
          }
      go (turned_away n e a) = told_new x e (inr (inl (number a)))
      go (joined e a) = told_new x e (inl (number a.left))

  removed_stands : Removed m f
  removed_stands k l = go (commit_of k m.held) refl
    where
      Same : Type 0
      Same = ((refusal f (remove k) ≡ 0) ↔ (commit_of k m.held ≡ none → ⊥)) × ((refusal f (remove k) ≡ 5) ↔ (commit_of k m.held ≡ none))

      go : (o : Option ℕ) → commit_of k m.held ≡ o → Same
      go (some v) e =
          let n : refusal f (remove k) ≡ 0 = number (remove_held s k l v e).left in
          ((λ z q. clash (sym q ∙ e), λ z. n), (λ z. absurd (omega arith), λ q. absurd (clash (sym q ∙ e))))
      go none e =
          let n : refusal f (remove k) ≡ 5 = number (remove_absent s k l e).1 in
          ((λ z. absurd (omega arith), λ q. absurd (q e)), (λ z. e, λ z. n))

  sound_stands : Sound m f
  sound_stands = (λ c fits. go c (step s c fits), number (check_yes s).left)
    where
      go : (c : Call) → Step m ps c → (refusal f c ≡ 4 → ⊥) × (refusal f c ≡ 9 → ⊥)
      go c (refused why row p e) =
          let n = plain_number why p in
          (λ z. n.1 (sym (number e) ∙ z), λ z. n.2 (sym (number e) ∙ z))
      go c (accepted new v row q k a) = (λ z. omega (arith, number a.left), λ z. omega (arith, number a.left))
      go c (said u k e) = (λ z. omega (arith, number e), λ z. omega (arith, number e))

  image_stands : TheImage m f
  image_stands = record { set = s.set; image = (image_of s).is }

  room_put_stands : RoomPut m f
  room_put_stands x fits e =
      either (refusal f (put x)) 7 0 (λ z. omega arith)
      (room_told (slots_of m.layout) (homes (state_of m)) m.cap (x ∷ m.held) (set_put x s.set fits.0 e))
      (λ r. number (put_new s x fits.0 e fits r).left)
      (λ n. number (put_full s x fits.0 e n).1)

  room_grow_stands : RoomGrow m f
  room_grow_stands row low l =
      either (refusal f (grow row)) 7 0 (λ z. omega arith)
      (room_told (slots_of m.layout) (homes (grown (state_of m))) m.cap m.held s.set)
      (λ r. number (grow_with_room s row l low r).left)
      (λ n. number (grow_no_room s row l low n))

  shrinks_stands : Shrinks m f
  shrinks_stands = go (dec_lt (first_pages m.params) m.p)
    where
      go : Dec (first_pages m.params < m.p) → Shrinks m f
      go (yes more) =
          let n : refusal f shrink ≡ 0 = number (shrink_yes s more).left in
          ((λ e. more, λ l. n), (λ e. absurd (omega arith), λ e. absurd (omega arith)))
      go (no less) =
          let e : m.p ≡ first_pages m.params = omega (arith, (ranged m.layout (state_of m) s.range).p_low) in
          let n : refusal f shrink ≡ 14 = number (shrink_no_page s e) in
          ((λ z. absurd (omega arith), λ l. absurd (less l)), (λ z. e, λ z. n))

  row_stands : Row m f
  row_stands row q = go (grow_comes s row)
    where
      go : Grows m ps row → (left f (grow row)).row ≡ counts (home_for (homes (grown (state_of m)))) m.held m.cap 0
      go (other_row e) = let n = number e in absurd (⊎_elim (λ z. omega arith) (λ z. omega arith) q)
      go (at_cap e) = let n = number e in absurd (⊎_elim (λ z. omega arith) (λ z. omega arith) q)
      go (crowded e) = ap (λ (t : Left). t.row) e
      go (larger a) = ap (λ (t : Left). t.row) a.left

  counted_stands : Counted m f
  counted_stands = record { state = refl; layout = refl; due = ap (λ (t : Left). t.said) (due_stands s) }

-- what holds of every file that stands holds after every fresh history
after_fresh : (P : Kept → File → Type 0) → ((m : Kept) (ps : List (List Record)) → Stands m ps → P m (file_of m ps)) → AfterFresh P
after_fresh P k m g w =
    let t = stands m g w in
    rw t.1.0 (k m t.0 t.1.1)

-- records in another order stand on the same pages
same_stands : (a b : Kept) (ps qs : List (List Record)) → Agree a b → Stands a ps → Stands b qs → file_of a ps ≡ file_of b qs
same_stands a b ps qs e s t =
    let p = same_records s.set t.set e.held in
    let i : Image key (homes (state_of a)) (slots_of a.layout) a.cap b.held qs = rw (e.layout, e.params, e.cap, e.p) t.image in
    rw (one_image key (homes (state_of a)) (slots_of a.layout) s.set p s.image i, perm-length p, e.layout, e.params, e.cap, e.p)

same : (a b : Kept) (g h : File) → Fresh a g → Fresh b h → Agree a b → g ≡ h
same a b g h v w e =
    let s = stands a g v in
    let t = stands b h w in
    s.1.0 ∙ same_stands a b s.0 t.0 e s.1.1 t.1.1 ∙ sym t.1.0

-- a page more or less, taken back: a call that is accepted has found an image
taken_back : (f : File) → Bytes f.area → TakenBack f
taken_back f b =
    record {
      grow-shrink = λ row e.
          let a = ((refusals f b).grows row).0 e in
          let w = a.4.is in
          let k = trips.grow-shrink (trips.image_stands f.layout f.state f.area b a.1 (in_range_lem f.layout f.state a.0) w) row a.2 (omega (arith, a.3, a.0.p_high)) a.4.room in
          rw (← w.is.bytes) at k;
      shrink-grow = λ row e l.
          let p = (refusals f b).shrinks.0 e in
          let a = (refusals f b).checks.0 p.0 in
          let w = a.2 in
          let k = trips.shrink-grow (trips.image_stands f.layout f.state f.area b a.1 (in_range_lem f.layout f.state a.0) w) row l (omega (arith, p.1, a.0.p_low)) in
          rw (← w.is.bytes) at k;
    }

pub demands : Demands
demands =
    record {
      total = total;
      row = after_fresh Row row_stands;
      found = after_fresh Found found_stands;
      retried = after_fresh Retried retried_stands;
      removed = after_fresh Removed removed_stands;
      sound = after_fresh Sound sound_stands;
      image = after_fresh TheImage image_stands;
      same = same;
      room_put = after_fresh RoomPut room_put_stands;
      room_grow = after_fresh RoomGrow room_grow_stands;
      shrinks = after_fresh Shrinks shrinks_stands;
      taken_back = taken_back;
      counted = after_fresh Counted counted_stands;
      read_held = after_fresh (λ m. ReadHeld) read_held_stands;
      read_absent = after_fresh (λ m. ReadAbsent) read_absent_stands;
      read_within = after_fresh (λ m. ReadWithin) read_within_stands;
      moved = after_fresh (λ m. Moved) moved_stands;
    }
