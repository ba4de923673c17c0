-- A command is read from the bytes of its records, and from no others.
use mathlib.Core.Path.{◌≡◌, refl, sym, ap, ◌∙◌}
use mathlib.Core.Bool.{Bool, true, false, cond}
use mathlib.Core.Logic.{inl, inr}
use mathlib.Core.List.{List, [], ◌∷◌, ◌++◌}
use Prim.Native.Nat.{ℕ, ◌+◌, ◌≤◌}
use native.Mathlib.Omega.{arith}
use lib.Dec.{eqb, ltb}
use lib.ListN.{length, take, length-append}
use borrow.Author.Tests.{eq-eqb, eqb-true, ltb-false}
use Rattle.std.specs.Prelude.{Option, Some, None, Result, Ok, Err}
use Rattle.numbers.specs.Little.{Bytes, number_at}
use Rattle.numbers.specs.Fields.{Field, width, encode, matches}
use Rattle.numbers.proofs.Records.{Fit, length-encode, match_first, match_rest, matches_sound, matches_complete}
use Rattle.homes.specs.Homes.{params}
use Rattle.pages.specs.Page.{key, value, record_with}
use Rattle.records.specs.declared.Kind.{Kind}
use Rattle.records.specs.declared.Kind.TheVariants as kind
use Rattle.records.specs.declared.Form.{Form}
use Rattle.records.specs.declared.Command.{Command}
use Rattle.records.specs.declared.Command.TheVariants.{Format, Put, Find, Remove, Grow, Check, Shrink}
use Rattle.records.specs.declared.Asked.{Asked}
use Rattle.records.specs.declared.Unread.{Unread}
use Rattle.records.specs.declared.Unread.TheVariants.{UnknownKind, CutOff}
use Rattle.records.specs.Records.{length_of, form_of, record_in, command_of, asks, formed, first_of, asks_put, is_put, layout_of, short_of, IsRecord}
use Rattle.records.proofs.Reading.{number_of, Of, of_number, whole}

-- the numbers from an offset on are those of the fields
abbrev Says : List ℕ → ℕ → List Field → Type 0
Says l at [] = Unit
Says l at (f ∷ fs) = (number_at f.0 l at ≡ f.1) × Says l (at + f.0) fs

-- so they are where the fields match
says : (fs : List Field) (l : List ℕ) (at : ℕ) → matches l at fs ≡ true → Says l at fs
says [] l at m = tt
says (f ∷ fs) l at m = (match_first f.0 f.1 fs l at m, says fs l (at + f.0) (match_rest f.0 f.1 fs l at m))

-- and there the fields match
match : (fs : List Field) (l : List ℕ) (at : ℕ) → Says l at fs → matches l at fs ≡ true
match [] l at s = refl
match (f ∷ fs) l at s = rw (eq-eqb (number_at f.0 l at) f.1 s.0) (match fs l (at + f.0) s.1)

-- bytes tell a command: its kind's length and number, and its own numbers
record Tells (l : List ℕ) (c : Command) : Type 0 where
  what : Kind
  first : number_at 2 l 0 ≡ length_of what
  second : number_at 2 l 2 ≡ number_of what
  body : c ≡ command_of what l

-- so they do where they say the fields of its layout, or of a format's shorter record; the kind's
-- length is that of the record
tells : (l : List ℕ) (c : Command) (w : List Field) → IsRecord c w → Says l 0 w → (t : Tells l c) × (width w ≡ length_of t.what)
tells l (Format q cap) w (inl is) u =
    let t : Says l 0 (layout_of (Format q cap)) = rw is at u in
    let a : number_at 2 l 4 ≡ q.n0 = t.1.1.0 in
    let b : number_at 2 l 6 ≡ q.n = t.1.1.1.0 in
    let c : number_at 2 l 8 ≡ q.s = t.1.1.1.1.0 in
    let d : number_at 2 l 10 ≡ cap = t.1.1.1.1.1.0 in
    let e : number_at 2 l 12 ≡ q.edition = t.1.1.1.1.1.1.0 in
    (record { what = kind.FormatEdition; first = t.0; second = t.1.0; body = rw (a, b, c, d, e) }, rw is)
tells l (Format q cap) w (inr is) u =
    let t : Says l 0 (short_of q cap) = rw is.1 at u in
    let a : number_at 2 l 4 ≡ q.n0 = t.1.1.0 in
    let b : number_at 2 l 6 ≡ q.n = t.1.1.1.0 in
    let c : number_at 2 l 8 ≡ q.s = t.1.1.1.1.0 in
    let d : number_at 2 l 10 ≡ cap = t.1.1.1.1.1.0 in
    (record { what = kind.Format; first = t.0; second = t.1.0; body = rw (a, b, c, d, ← is.0) }, rw is.1)
tells l (Put x) w is u =
    let t : Says l 0 (layout_of (Put x)) = rw is.1 at u in
    let k : number_at 8 l 4 ≡ key x = t.1.1.0 in
    let v : number_at 8 l 12 ≡ value x = t.1.1.1.0 in
    (record { what = kind.Put; first = t.0; second = t.1.0; body = rw (k, v) (ap (λ (r : ℕ). Put (record_with (key x) (value x) r)) is.0) }, rw is.1)
tells l (Find k) w is u =
    let t : Says l 0 (layout_of (Find k)) = rw is at u in
    (record { what = kind.Find; first = t.0; second = t.1.0; body = cc }, rw is)
tells l (Remove k) w is u =
    let t : Says l 0 (layout_of (Remove k)) = rw is at u in
    (record { what = kind.Remove; first = t.0; second = t.1.0; body = cc }, rw is)
tells l Grow w is u =
    let t : Says l 0 (layout_of Grow) = rw is at u in
    (record { what = kind.Grow; first = t.0; second = t.1.0; body = refl }, rw is)
tells l Check w is u =
    let t : Says l 0 (layout_of Check) = rw is at u in
    (record { what = kind.Check; first = t.0; second = t.1.0; body = refl }, rw is)
tells l Shrink w is u =
    let t : Says l 0 (layout_of Shrink) = rw is at u in
    (record { what = kind.Shrink; first = t.0; second = t.1.0; body = refl }, rw is)

-- the record of a kind that bytes have
abbrev record_as : Kind → List ℕ → List Field
record_as kind.Format l =
    short_of (params (number_at 2 l 4) (number_at 2 l 6) (number_at 2 l 8) 1) (number_at 2 l 10)
record_as kind.FormatEdition l = layout_of (command_of kind.FormatEdition l)
record_as kind.Put l = layout_of (command_of kind.Put l)
record_as kind.Find l = layout_of (command_of kind.Find l)
record_as kind.Remove l = layout_of (command_of kind.Remove l)
record_as kind.Grow l = layout_of (command_of kind.Grow l)
record_as kind.Check l = layout_of (command_of kind.Check l)
record_as kind.Shrink l = layout_of (command_of kind.Shrink l)

-- is one of the command that is read with the kind,
kind_record : (k : Kind) (l : List ℕ) (c : Command) → c ≡ command_of k l → IsRecord c (record_as k l)
kind_record kind.Format l c e = rw e (inr (refl, refl))
kind_record kind.FormatEdition l c e = rw e (inl refl)
kind_record kind.Put l c e = rw e (refl, refl)
kind_record kind.Find l c e = rw e refl
kind_record kind.Remove l c e = rw e refl
kind_record kind.Grow l c e = rw e refl
kind_record kind.Check l c e = rw e refl
kind_record kind.Shrink l c e = rw e refl

-- they say its fields, where they have the kind's length and number,
kind_says : (k : Kind) (l : List ℕ) → number_at 2 l 0 ≡ length_of k → number_at 2 l 2 ≡ number_of k → Says l 0 (record_as k l)
kind_says kind.Format l f s = (f, (s, (refl, (refl, (refl, (refl, tt))))))
kind_says kind.FormatEdition l f s = (f, (s, (refl, (refl, (refl, (refl, (refl, tt)))))))
kind_says kind.Put l f s = (f, (s, (refl, (refl, tt))))
kind_says kind.Find l f s = (f, (s, (refl, tt)))
kind_says kind.Remove l f s = (f, (s, (refl, tt)))
kind_says kind.Grow l f s = (f, (s, tt))
kind_says kind.Check l f s = (f, (s, tt))
kind_says kind.Shrink l f s = (f, (s, tt))

-- and it takes as many bytes as the kind's length says
kind_width : (k : Kind) (l : List ℕ) → width (record_as k l) ≡ length_of k
kind_width kind.Format l = refl
kind_width kind.FormatEdition l = refl
kind_width kind.Put l = refl
kind_width kind.Find l = refl
kind_width kind.Remove l = refl
kind_width kind.Grow l = refl
kind_width kind.Check l = refl
kind_width kind.Shrink l = refl

-- a command's record at the start of an input is read as the command
pub reads : (c : Command) (w : List Field) (rest : List ℕ) → Fit w → IsRecord c w → first_of (encode w ++ rest) ≡ asks c (width w)
reads c w rest fit is =
    let l : List ℕ = encode w ++ rest in
    let told = tells l c w is (says w l 0 (matches_complete w [] rest 0 refl fit)) in
    let t : Tells l c = told.0 in
    let n : length l ≡ width w + length rest = rw (length-append, length-encode) in
    rw told.1 (whole t.what l (omega (arith, told.1)) t.first t.second ∙ ap (λ (d : Command). asks d (length_of t.what)) (sym t.body))

-- what is asked for, where something is
abbrev pub command_or : Command → Result Asked Unread → Command
command_or c (Ok a) = a.command
command_or c (Err why) = c

abbrev length_or : ℕ → Result Asked Unread → ℕ
length_or n (Ok a) = a.length
length_or n (Err why) = n

module _ (c : Command) (n : ℕ) where
  -- an input that asks for a command is not cut off
  not_cut : (t : Bool) (i : Result Asked Unread) → cond t (Err CutOff) i ≡ asks c n → (t ≡ false) × (i ≡ asks c n)
  not_cut true i e = (cc, cc)
  not_cut false i e = (refl, e)

  -- nor is its kind unknown, or its length wrong
  not_unknown : (t : Bool) (i : Result Asked Unread) → cond t i (Err UnknownKind) ≡ asks c n → (t ≡ true) × (i ≡ asks c n)
  not_unknown true i e = (refl, e)
  not_unknown false i e = (cc, cc)

  -- so it tells the command, and its record lies within the input
  asks_told : (l : List ℕ) (f : Option Form) → Of (number_at 2 l 2) f → formed l f ≡ asks c n → (t : Tells l c) × (n ≡ length_of t.what) × (n ≤ length l)
  asks_told l None h e = let z : ◌≡◌ {A = ℕ} 0 1 = cc in absurd (omega arith)
  asks_told l (Some g) h e =
      let u = not_unknown (eqb (number_at 2 l 0) g.length) _ e in
      let v = not_cut (ltb (length l) g.length) _ u.1 in
      let w = h g refl in
      let m : g.length ≡ length_of g.kind = ap Form.length w.1 in
      let d : g.length ≡ n = ap (length_or n) v.1 in (
        record { what = g.kind; first = eqb-true (number_at 2 l 0) g.length u.0 ∙ m; second = w.0; body = sym (ap (command_or c) v.1) },
        sym d ∙ m,
        omega (arith, ltb-false (length l) g.length v.0),
      )

-- what is read as a command are the bytes of one of its records
pub read_only : (l : List ℕ) (c : Command) (n : ℕ) → Bytes l → first_of l ≡ asks c n → (w : List Field) × IsRecord c w × (n ≡ width w) × (take n l ≡ encode w)
unfolding first_of
read_only l c n b e =
    let told = asks_told c n l (form_of (number_at 2 l 0) (number_at 2 l 2)) (of_number (number_at 2 l 0) (number_at 2 l 2)) (not_cut c n (ltb (length l) 4) _ e).1 in
    let t : Tells l c = told.0 in
    let w = record_as t.what l in
    let q : width w ≡ n = kind_width t.what l ∙ sym told.1 in
    let m : matches l 0 w ≡ true = match w l 0 (kind_says t.what l t.first t.second) in
    (w, kind_record t.what l c t.body, sym q, rw q at (matches_sound w l 0 b (omega (arith, told.2)) m))

false-true : false ≡ true → ⊥
false-true e = let z : ◌≡◌ {A = ℕ} 0 1 = cc in omega arith

-- a command told by a put's kind is the put of the record
put_told : (l : List ℕ) (c : Command) (k : Kind) → c ≡ command_of k l → asks_put c ≡ true → (k ≡ kind.Put) × (c ≡ Put (record_in l))
put_told l c kind.Put e u = (refl, e)
put_told l c kind.Format e u = absurd (false-true (rw e at u))
put_told l c kind.FormatEdition e u = absurd (false-true (rw e at u))
put_told l c kind.Find e u = absurd (false-true (rw e at u))
put_told l c kind.Remove e u = absurd (false-true (rw e at u))
put_told l c kind.Grow e u = absurd (false-true (rw e at u))
put_told l c kind.Check e u = absurd (false-true (rw e at u))
put_told l c kind.Shrink e u = absurd (false-true (rw e at u))

-- an input that begins with a whole put record asks for its put
pub put_first : (l : List ℕ) → is_put (first_of l) ≡ true → (first_of l ≡ asks (Put (record_in l)) 20) × (20 ≤ length l)
unfolding first_of
put_first l u = go (first_of l) refl u
  where
    go : (i : Result Asked Unread) → first_of l ≡ i → is_put i ≡ true → (i ≡ asks (Put (record_in l)) 20) × (20 ≤ length l)
    go (Err why) e u = absurd (false-true u)
    go (Ok a) e u =
        let c = a.command in
        let n = a.length in
        let w = asks_told c n l (form_of (number_at 2 l 0) (number_at 2 l 2)) (of_number (number_at 2 l 0) (number_at 2 l 2)) (not_cut c n (ltb (length l) 4) _ e).1 in
        let t : Tells l c = w.0 in
        let p = put_told l c t.what t.body u in
        let m : n ≡ 20 = w.1 ∙ ap length_of p.0 in
        (rw (p.1, m), omega (arith, w.2))
