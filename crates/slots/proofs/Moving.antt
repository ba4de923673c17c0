-- A page's bytes with a slot opened or closed, and its count written: those of the records with one
-- more or one less.
use mathlib.Core.Path.{◌≡◌, refl, sym, ap, ◌∙◌}
use mathlib.Core.Bool.{true}
use mathlib.Core.List.{List, [], ◌∷◌, ◌++◌, append_assoc, append-nil}
use Prim.Native.Nat.{ℕ, zero, suc, ◌+◌, ◌-◌, ◌^◌, ◌≤◌, ◌<◌}
use native.Mathlib.Nat.{zero-add}
use native.Mathlib.Omega.{arith}
use lib.ListN.{length, take, drop, get_or, length-append, length-drop, take-append-drop, drop_of_length-le}
use lib.Seq.{take-nil, take_all, take_at, drop_at, drop-drop, drop-cons, take-append-add, length-take-le, get_or_at}
use Rattle.numbers.specs.Little.{Bytes, bytes_of, written}
use Rattle.numbers.specs.Fields.{Field, encode}
use Rattle.numbers.proofs.Laws.{length_part, length_bytes, written-written, written_before}
use Rattle.numbers.proofs.Records.{length-encode, width-append, encode-append}
use Rattle.layouts.specs.Layout.{Layout, kind_of, slots_of, width_of, slot_at}
use Rattle.layouts.proofs.Lying.{slot_first, slot_next, slot_end, slot_fits}
use Rattle.pages.specs.Page.{Record, vacant, head, record_slot, empty_slot, slots, page_bytes, records_in, well_formed}
use Rattle.pages.specs.Small.{Small}
use Rattle.pages.specs.Places.{closed}
use Rattle.placing.specs.Image.{All}
use Rattle.pages.specs.Steps.Slots.{opened}
use Rattle.pages.proofs.Rows.{opened_after, closed_few, all_closed}
use Rattle.pages.proofs.Bounds.{held_small}
use Rattle.pages.proofs.RoundTrip.{records_bytes, page_formed}
use Rattle.pages.proofs.Read.{slot-width, held_few}
use Rattle.pages.proofs.Write.{slots-width}

-- what stands behind other bytes, written over
written_tail : (s t v : List ℕ) (at : ℕ) → length s ≡ at → length v ≡ length t → written (s ++ t) at v ≡ s ++ v
unfolding written
written_tail s t v at n m =
    let e : drop (at + length v) (s ++ t) ≡ [] = drop_of_length-le (s ++ t) {i = at + length v} (omega (arith, length-append s t)) in
    rw (take_at s t at n, e, append-nil)

-- and between them
written_mid : (s u t v : List ℕ) (at : ℕ) → length s ≡ at → length v ≡ length u → written (s ++ (u ++ t)) at v ≡ s ++ (v ++ t)
unfolding written
written_mid s u t v at n m =
    rw (take_at s (u ++ t) at n, ← drop-drop (length v) at (s ++ (u ++ t)), drop_at s (u ++ t) at n, drop_at u t (length v) (sym m))

-- behind as many records as there are slots a record finds none
pub opened_past : {R : Type 0} (b at : ℕ) (x : R) (rs : List R) → length rs ≡ b → at ≡ b → (x ≡ get_or (opened at x rs) b x) × (rs ≡ take b (opened at x rs))
unfolding opened
opened_past b at x rs n e =
    let all : take b rs ≡ rs = take_all b rs (omega arith) in
    rw (e, all) (sym (get_or_at rs x (drop b rs) x b n), sym (take_at rs (x ∷ drop b rs) b n))

-- put in before the end, it sends on the record of the last slot, if there is one
pub opened_over : {R : Type 0} (b at : ℕ) (x : R) (rs : List R) → at < b → at ≤ length rs → get_or rs (b - 1) x ≡ get_or (opened at x rs) b x
opened_over b at x rs l h =
    let e : suc (b - 1) ≡ b = omega arith in
    rw e at (sym (opened_after at (b - 1) x x rs (omega arith) h))

-- the bytes of a field stand before those of the others
first_field : (w n : ℕ) (fs : List Field) → encode ((w, n) ∷ fs) ≡ bytes_of w n ++ encode fs
unfolding encode
first_field w n fs = refl

module _ (f : Layout) where
  -- the slots of records and of those behind them
  slots_split : (p q : List Record) (n : ℕ) → slots f (length p + n) (p ++ q) ≡ slots f (length p) p ++ slots f n q
  slots_split [] q n = rw zero-add
  slots_split (x ∷ p) q n =
      let e : suc (length p) + n ≡ suc (length p + n) = omega arith in
      rw (e, slots_split p q n) (sym (append_assoc (record_slot f x) (slots f (length p) p) (slots f n q)))

  -- the last of some slots
  slots_last : (n : ℕ) (q : List Record) → slots f (suc n) q ≡ slots f n (take n q) ++ slots f 1 (drop n q)
  slots_last zero q = refl
  slots_last (suc n) [] =
      let none : drop n [] ≡ [] = drop_of_length-le {A = Record} [] {i = n} (omega arith) in
      rw (slots_last n [], take-nil, none) (sym (append_assoc (empty_slot f) (slots f n []) (slots f 1 [])))
  slots_last (suc n) (x ∷ q) = rw (slots_last n q) (sym (append_assoc (record_slot f x) (slots f n (take n q)) (slots f 1 (drop n q))))

  -- the bytes of a page with any count
  abbrev counted : (address n : ℕ) → List Record → List ℕ
  counted address n rs = encode (head f address n ++ slots f (slots_of f) rs)

  module _ (address n : ℕ) (p : List Record) (j : ℕ) (all : length p + suc j ≡ slots_of f) where
    -- the bytes before the slot that is behind the records p
    abbrev front : List ℕ
    front = encode (head f address n ++ slots f (length p) p)

    front_length : length front ≡ slot_at f (length p)
    front_length =
        omega (arith, length-encode (head f address n ++ slots f (length p) p), width-append (head f address n) (slots f (length p) p), rw zero-add at (slots-width f (length p) 0 p), slot_first f)

    -- and those from there on
    from_there : (q : List Record) → counted address n (p ++ q) ≡ front ++ encode (slots f (suc j) q)
    from_there q =
        rw (← all, slots_split p q (suc j), ← append_assoc (head f address n) (slots f (length p) p) (slots f (suc j) q))
        (encode-append (head f address n ++ slots f (length p) p) (slots f (suc j) q))

    slots_long : (q : List Record) → length (encode (slots f (suc j) q)) ≡ 256 - slot_at f (length p)
    slots_long q = omega (arith, length-encode (slots f (suc j) q), rw (all, slot_end f) at (slots-width f (suc j) (length p) q))

    slots_after : (q : List Record) → length (encode (slots f j q)) ≡ 256 - slot_at f (suc (length p))
    slots_after q =
        let e : suc (length p) + j ≡ slots_of f = omega arith in
        omega (arith, length-encode (slots f j q), rw (e, slot_end f) at (slots-width f j (suc (length p)) q))

    -- a record in that slot, and those behind it one slot on
    slot_opened : (x : Record) (q : List Record) (l : List ℕ) → l ≡ counted address n (p ++ q)
        → written l (slot_at f (length p)) (encode (record_slot f x) ++ take (256 - slot_at f (suc (length p))) (drop (slot_at f (length p)) l)) ≡ counted address n (p ++ (x ∷ take j q))
    slot_opened x q l e =
        let at : ℕ = slot_at f (length p) in
        let rest : encode (slots f (suc j) q) ≡ encode (slots f j (take j q)) ++ encode (slots f 1 (drop j q)) = rw (slots_last j q) (encode-append (slots f j (take j q)) (slots f 1 (drop j q))) in
        let stays : take (256 - slot_at f (suc (length p))) (drop at l) ≡ encode (slots f j (take j q)) =
        rw (e, from_there q, drop_at front (encode (slots f (suc j) q)) at front_length, rest)
        (take_at (encode (slots f j (take j q))) (encode (slots f 1 (drop j q))) (256 - slot_at f (suc (length p))) (slots_after (take j q))) in
        let new : encode (record_slot f x) ++ encode (slots f j (take j q)) ≡ encode (slots f (suc j) (x ∷ take j q)) = sym (encode-append (record_slot f x) (slots f j (take j q))) in
        rw (stays, new, e, from_there q, from_there (x ∷ take j q))
        (written_tail front (encode (slots f (suc j) q)) (encode (slots f (suc j) (x ∷ take j q))) at front_length (slots_long (x ∷ take j q) ∙ sym (slots_long q)))

    -- the record in that slot gone, those behind it one slot down, and another slot at the end
    slot_closed : (y : Record) (q r : List Record) (last : List Field) (l : List ℕ) → slots f (suc j) r ≡ slots f j q ++ last → l ≡ counted address n (p ++ (y ∷ q))
        → written l (slot_at f (length p)) (drop (slot_at f (suc (length p))) l ++ encode last) ≡ counted address n (p ++ r)
    slot_closed y q r last l ends e =
        let at : ℕ = slot_at f (length p) in
        let k : length (encode (record_slot f y)) ≡ slot_at f (suc (length p)) - at = omega (arith, length-encode (record_slot f y), slot-width f 1 y, slot_next f (length p)) in
        let s : at + (slot_at f (suc (length p)) - at) ≡ slot_at f (suc (length p)) = omega (arith, slot_next f (length p)) in
        let stays : drop (slot_at f (suc (length p))) l ≡ encode (slots f j q) =
        rw (← s, ← drop-drop (slot_at f (suc (length p)) - at) at l, e, from_there (y ∷ q), drop_at front (encode (slots f (suc j) (y ∷ q))) at front_length, encode-append (record_slot f y) (slots f j q))
        (drop_at (encode (record_slot f y)) (encode (slots f j q)) (slot_at f (suc (length p)) - at) k) in
        let new : encode (slots f j q) ++ encode last ≡ encode (slots f (suc j) r) = sym (rw ends (encode-append (slots f j q) last)) in
        rw (stays, new, e, from_there (y ∷ q), from_there r)
        (written_tail front (encode (slots f (suc j) (y ∷ q))) (encode (slots f (suc j) r)) at front_length (slots_long r ∙ sym (slots_long (y ∷ q))))

  -- slots of which the last is empty, and slots that a record more fills
  ends_empty : (j : ℕ) (q : List Record) → length q ≤ j → slots f (suc j) q ≡ slots f j q ++ empty_slot f
  ends_empty j q few = rw (slots_last j q, take_all j q few, drop_of_length-le q {i = j} few, append-nil (empty_slot f))

  ends_filled : (j : ℕ) (q : List Record) (x : Record) → length q ≡ j → slots f (suc j) (q ++ (x ∷ [])) ≡ slots f j q ++ record_slot f x
  ends_filled j q x full =
      let e : length q + 1 ≡ suc j = omega arith in
      rw (e, full, append-nil (record_slot f x)) at (slots_split q (x ∷ []) 1)

  -- another count written to the head
  recounted : (address n m : ℕ) (rs : List Record) → written (counted address n rs) 8 (bytes_of 2 m) ≡ counted address m rs
  recounted address n m rs =
      let before : List Field = (2, 256) ∷ (2, kind_of f) ∷ (4, address) ∷ [] in
      let after : List Field = (2, 0) ∷ (4, 0) ∷ slots f (slots_of f) rs in
      let split : (k : ℕ) → counted address k rs ≡ encode before ++ (bytes_of 2 k ++ encode after) = λ k. encode-append before ((2, k) ∷ after) ∙ ap (λ (s : List ℕ). encode before ++ s) (first_field 2 k after) in
      rw (split n, split m) (written_mid (encode before) (bytes_of 2 n) (encode after) (bytes_of 2 m) 8 (length-encode before) (length_bytes 2 m ∙ sym (length_bytes 2 n)))

  module _ (address : ℕ) (l : List ℕ) (rs : List Record) (is : l ≡ page_bytes f address rs) (at : ℕ) (low : at < slots_of f) (lies : at ≤ length rs) where
    cut : length (take at rs) ≡ at
    cut = length-take-le at rs lies

    all : length (take at rs) + suc (slots_of f - suc at) ≡ slots_of f
    all = omega (arith, cut)

    -- a page whose slot is opened for a record, and whose count is written, has the record there
    pub page_opened : (x : Record) (m : List ℕ) (n : ℕ)
        → m ≡ written l (slot_at f at) (encode (record_slot f x) ++ take (256 - slot_at f (suc at)) (drop (slot_at f at) l)) → n ≡ length (take (slots_of f) (opened at x rs))
        → written m 8 (bytes_of 2 n) ≡ page_bytes f address (take (slots_of f) (opened at x rs))
    unfolding page_bytes opened
    page_opened x m n e k =
        let j : ℕ = slots_of f - suc at in
        let q : List Record = take (slots_of f) (opened at x rs) in
        let whole : l ≡ counted address (length rs) (take at rs ++ drop at rs) = rw take-append-drop is in
        let new : q ≡ take at rs ++ (x ∷ take j (drop at rs)) = ap (λ (k : ℕ). take k (opened at x rs)) (sym all) ∙ take-append-add (take at rs) (x ∷ drop at rs) (suc j) in
        let moved : m ≡ counted address (length rs) q = rw new (e ∙ rw cut at (slot_opened address (length rs) (take at rs) j all x (drop at rs) l whole)) in
        rw (moved, k) (recounted address (length rs) (length q) q)

    -- one whose slot is closed is without the record
    pub page_closed : at < length rs → length rs ≤ slots_of f → (m : List ℕ) (n : ℕ)
        → m ≡ written l (slot_at f at) (drop (slot_at f (suc at)) l ++ encode (empty_slot f)) → n ≡ length (closed at rs)
        → written m 8 (bytes_of 2 n) ≡ page_bytes f address (closed at rs)
    unfolding page_bytes closed
    page_closed held few m n e k =
        let j : ℕ = slots_of f - suc at in
        let y : Record = get_or rs at vacant in
        let whole : l ≡ counted address (length rs) (take at rs ++ (y ∷ drop (suc at) rs)) = rw (← drop-cons rs at vacant held, take-append-drop) is in
        let moved : m ≡ counted address (length rs) (closed at rs) = e ∙ rw cut at (slot_closed address (length rs) (take at rs) j all y (drop (suc at) rs) (drop (suc at) rs) (empty_slot f) l (ends_empty j (drop (suc at) rs) (omega (arith, length-drop (suc at) rs))) whole) in
        rw (moved, k) (recounted address (length rs) (length (closed at rs)) (closed at rs))

    -- one that was full, with another record in the last slot, has that record behind the others
    pub page_exchanged : length rs ≡ slots_of f → (x : Record) (m : List ℕ) → m ≡ written l (slot_at f at) (drop (slot_at f (suc at)) l ++ encode (record_slot f x))
        → m ≡ page_bytes f address (closed at rs ++ (x ∷ []))
    unfolding page_bytes closed
    page_exchanged full x m e =
        let j : ℕ = slots_of f - suc at in
        let y : Record = get_or rs at vacant in
        let rest : List Record = drop (suc at) rs in
        let whole : l ≡ counted address (length rs) (take at rs ++ (y ∷ rest)) = rw (← drop-cons rs at vacant (omega arith), take-append-drop) is in
        let moved = rw cut at (slot_closed address (length rs) (take at rs) j all y rest (rest ++ (x ∷ [])) (record_slot f x) l (ends_filled j rest x (omega (arith, length-drop (suc at) rs))) whole) in
        let count : length rs ≡ length (take at rs ++ (rest ++ (x ∷ []))) =
        omega (arith, cut, length-append (take at rs) (rest ++ (x ∷ [])), length-append rest (x ∷ []), length-drop (suc at) rs) in
        e ∙ moved ∙ rw (append_assoc (take at rs) rest (x ∷ []), ← count)

  module _ (l : List ℕ) (at : ℕ) (size : length l ≡ 256) (low : at < slots_of f) where
    -- a slot opened in two writes: what stands from it on goes up, and then the record takes its place
    pub opened_twice : (x : Record) (m n : List ℕ) → m ≡ written l (slot_at f at + width_of f) (take (256 - width_of f - slot_at f at) (drop (slot_at f at) l))
        → n ≡ written m (slot_at f at) (encode (record_slot f x))
        → n ≡ written l (slot_at f at) (encode (record_slot f x) ++ take (256 - slot_at f (suc at)) (drop (slot_at f at) l))
    opened_twice x m n e g =
        let w : length (encode (record_slot f x)) ≡ width_of f = length-encode (record_slot f x) ∙ slot-width f 1 x in
        let k : 256 - width_of f - slot_at f at ≡ 256 - slot_at f (suc at) = omega (arith, slot_next f at) in
        let to : slot_at f at + width_of f ≡ slot_at f at + length (encode (record_slot f x)) = omega arith in
        rw (g, e, k, to) (written_before l (slot_at f at) (encode (record_slot f x)) (take (256 - slot_at f (suc at)) (drop (slot_at f at) l)) (omega (arith, slot_fits f at low)))

    -- and one closed: what stands behind it goes down, and then another slot takes the last place
    pub closed_twice : (last m n : List ℕ) → m ≡ written l (slot_at f (suc at) - width_of f) (take (256 - slot_at f (suc at)) (drop (slot_at f (suc at)) l))
        → n ≡ written m (256 - width_of f) last → n ≡ written l (slot_at f at) (drop (slot_at f (suc at)) l ++ last)
    closed_twice last m n e g =
        let tail : List ℕ = drop (slot_at f (suc at)) l in
        let long : length tail ≡ 256 - slot_at f (suc at) = omega (arith, length-drop (slot_at f (suc at)) l) in
        let from : slot_at f (suc at) - width_of f ≡ slot_at f at = omega (arith, slot_next f at) in
        let to : 256 - width_of f ≡ slot_at f at + length tail = omega (arith, slot_next f at, slot_fits f at low) in
        rw (g, e, from, take_all (256 - slot_at f (suc at)) tail (omega arith), to) (written-written l (slot_at f at) tail last (omega (arith, slot_fits f at low)))

-- a record taken out of a page that holds what its bytes say leaves such a page
pub page_shut : (f : Layout) (a : ℕ) (l m : List ℕ) (at : ℕ) → a < 2 ^ 32 → length l ≡ 256 → Bytes l → m ≡ page_bytes f a (closed at (records_in f l))
    → (records_in f m ≡ closed at (records_in f l)) × (well_formed f a m ≡ true)
page_shut f a l m at low n b e =
    let rs : List Record = records_in f l in
    let few : length (closed at rs) ≤ slots_of f = omega (arith, closed_few at rs, held_few f l) in
    let small : All (Small f) (closed at rs) = all_closed (Small f) at rs (held_small f l n b) in
    (rw e (records_bytes f a (closed at rs) few small), rw e (page_formed f a (closed at rs) few small low))
