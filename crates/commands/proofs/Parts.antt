-- A log that comes in parts answers as it does at once.
use mathlib.Core.Path.{◌≡◌, refl, ap, ◌∙◌}
use mathlib.Core.Bool.{Bool, true, false, cond}
use mathlib.Core.List.{List, ◌++◌}
use Prim.Native.Nat.{ℕ, zero, suc, ◌+◌, ◌-◌, ◌≤◌, ◌<◌}
use native.Mathlib.Nat.{add_assoc, zero-add}
use native.Mathlib.Omega.{arith}
use lib.Dec.{eqb, ltb}
use lib.ListN.{length, drop, length-append, length-drop}
use lib.Seq.{drop-append-le, drop-drop}
use borrow.Author.Tests.{ltb-false, le-ltb, eqb-false, eq-eqb, ne_eqb}
use Rattle.std.specs.Prelude.{Option, Some, None, Result, Ok, Err}
use Rattle.numbers.specs.Little.{number_at}
use Rattle.numbers.proofs.Laws.{number_front}
use Rattle.records.specs.declared.Kind.{Kind}
use Rattle.records.specs.declared.Kind.TheVariants as kind
use Rattle.records.specs.declared.Form.{Form}
use Rattle.records.specs.declared.Asked.{Asked}
use Rattle.records.specs.declared.Unread.{Unread}
use Rattle.records.specs.declared.Unread.TheVariants.{UnknownKind, CutOff}
use Rattle.records.specs.Records.{length_of, form_of, format_in, command_of, asks, formed, first_of}
use Rattle.commands.specs.Execute.{Site, Executed}
use Rattle.commands.specs.Log.{Turn, waits, stops, goes, on_item, turn, Log, rests, answered, on_turn, log, whole_log}
use Rattle.commands.specs.Promises.{joined}
use Rattle.records.proofs.Reading.{head_low, of_number}

-- a format's numbers are the same with more behind its record
format_front : (l m : List ℕ) (edition : ℕ) → 12 ≤ length l → format_in (l ++ m) edition ≡ format_in l edition
format_front l m edition h =
    rw (number_front 2 l m 4 (omega arith), number_front 2 l m 6 (omega arith), number_front 2 l m 8 (omega arith), number_front 2 l m 10 (omega arith))

-- and so is the command of every whole record
command_front : (k : Kind) (l m : List ℕ) → length_of k ≤ length l → command_of k (l ++ m) ≡ command_of k l
command_front kind.Format l m h = format_front l m 1 h
command_front kind.FormatEdition l m h =
    rw (number_front 2 l m 12 (omega arith)) (format_front l m (number_at 2 l 12) (omega arith))
command_front kind.Put l m h = rw (number_front 8 l m 4 (omega arith), number_front 8 l m 12 (omega arith))
command_front kind.Find l m h = rw (number_front 8 l m 4 (omega arith))
command_front kind.Remove l m h = rw (number_front 8 l m 4 (omega arith))
command_front kind.Grow l m h = refl
command_front kind.Check l m h = refl
command_front kind.Shrink l m h = refl

-- so is what a whole head asks for
head_front : (l m : List ℕ) → 4 ≤ length l → first_of (l ++ m) ≡ formed (l ++ m) (form_of (number_at 2 l 0) (number_at 2 l 2))
unfolding first_of
head_front l m h = rw (le-ltb (length (l ++ m)) 4 (omega (arith, length-append l m)), number_front 2 l m 0 (omega arith), number_front 2 l m 2 (omega arith))

-- a first record that is not cut off is the same with more behind it, and a command's lies within
-- the bytes
abbrev ReadSame : List ℕ → Result Asked Unread → Type 0
ReadSame l (Err CutOff) = Unit {0}
ReadSame l (Err UnknownKind) = (m : List ℕ) → first_of (l ++ m) ≡ Err UnknownKind
ReadSame l (Ok a) = (0 < a.length) × (a.length ≤ length l) × ((m : List ℕ) → first_of (l ++ m) ≡ Ok a)

form_same : (l : List ℕ) → 4 ≤ length l → (f : Option Form) → form_of (number_at 2 l 0) (number_at 2 l 2) ≡ f → ReadSame l (formed l f)
form_same l h None e = λ m. head_front l m h ∙ rw e
form_same l h (Some f) e = go (eqb (number_at 2 l 0) f.length) refl (ltb (length l) f.length) refl
  where
    go : (u : Bool) → eqb (number_at 2 l 0) f.length ≡ u → (v : Bool) → ltb (length l) f.length ≡ v
        → ReadSame l (cond u (cond v (Err CutOff) (asks (command_of f.kind l) f.length)) (Err UnknownKind))
    go false p v q = λ m. head_front l m h ∙ rw (e, number_front 2 l m 0 (omega arith), p)
    go true p true q = tt
    go true p false q =
        let b : f.length ≤ length l = ltb-false (length l) f.length q in
        let w : f.length ≡ length_of f.kind = ap Form.length (of_number (number_at 2 l 0) (number_at 2 l 2) f e).1 in (
          omega (arith, head_low f.kind),
          b,
          λ m. head_front l m h ∙ rw (e, number_front 2 l m 0 (omega arith), p, le-ltb (length (l ++ m)) f.length (omega (arith, length-append l m)), command_front f.kind l m (omega arith)),
        )

read_same : (l : List ℕ) → ReadSame l (first_of l)
unfolding first_of
read_same l = go (ltb (length l) 4) refl
  where
    go : (u : Bool) → ltb (length l) 4 ≡ u → ReadSame l (cond u (Err CutOff) (formed l (form_of (number_at 2 l 0) (number_at 2 l 2))))
    go true e = tt
    go false e = form_same l (ltb-false (length l) 4 e) (form_of (number_at 2 l 0) (number_at 2 l 2)) refl

-- a turn that goes on, or stops where more may come, is the same with more behind the bytes
abbrev TurnSame : (last : Bool) → Site → List ℕ → Turn → Type 0
TurnSame last d l waits = Unit {0}
TurnSame last d l (stops n) = last ≡ false → (more : Bool) (m : List ℕ) → turn more d (l ++ m) ≡ stops n
TurnSame last d l (goes c n) = (0 < n) × (n ≤ length l) × ((more : Bool) (m : List ℕ) → turn more d (l ++ m) ≡ goes c n)

turn_same : (last : Bool) (d : Site) (l : List ℕ) → TurnSame last d l (turn last d l)
unfolding turn
turn_same last d l = go (eqb (length l) 0) refl (first_of l) (read_same l)
  where
    some : eqb (length l) 0 ≡ false → (m : List ℕ) → eqb (length (l ++ m)) 0 ≡ false
    some e m = ne_eqb (length (l ++ m)) 0 (λ z. eqb-false (length l) 0 e (omega (arith, length-append l m)))

    cut : (u : Bool) → TurnSame u d l (cond u (stops 11) waits)
    cut true = λ e more m. cc
    cut false = tt

    go : (u : Bool) → eqb (length l) 0 ≡ u → (i : Result Asked Unread) → ReadSame l i → TurnSame last d l (cond u waits (on_item last d i))
    go true e i w = tt
    go false e (Err CutOff) w = cut last
    go false e (Err UnknownKind) w = λ f more m. rw (some e m, w m)
    go false e (Ok a) w = (w.0, w.1, λ more m. rw (some e m, w.2 m))

-- a log with another behind it, unless it has stopped
abbrev resumed : Log → Log → Log
resumed a b = cond a.stopped a (joined a b)

-- a command's reply goes before both alike
answered-resumed : (c : Executed) (n : ℕ) (a b : Log) → answered c n (resumed a b) ≡ resumed (answered c n a) b
answered-resumed c n a b = go a.stopped
  where
    go : (u : Bool) → answered c n (cond u a (joined a b)) ≡ cond u (answered c n a) (joined (answered c n a) b)
    go true = refl
    go false = rw add_assoc

-- what more input comes to: where the log has not stopped it goes on, behind what it did not take
abbrev Resumes : (last : Bool) → (more : ℕ) → (m : List ℕ) → Site → List ℕ → Log → Type 0
Resumes last more m d l g = log last (length g.replies + more) d (l ++ m) ≡ resumed g (log last more g.site (drop g.taken l ++ m))

resumes : (last : Bool) (room more : ℕ) (d : Site) (l m : List ℕ) → Resumes last more m d l (log false room d l)
unfolding log
resumes last zero more d l m = simp zero-add
resumes last (suc room) more d l m = go (turn false d l) (turn_same false d l) (λ e k. resumes last room more e k m)
  where
    go : (t : Turn) → TurnSame false d l t → ((e : Site) (k : List ℕ) → Resumes last more m e k (log false room e k))
        → Resumes last more m d l (on_turn d t (λ e n. log false room e (drop n l)))
    go waits w h = simp zero-add
    go (stops n) w h = let q : 1 + more ≡ suc more = omega arith in rw (q, w refl last m)
    go (goes c n) w h =
        let g = log false room c.site (drop n l) in
        let q : suc (length g.replies) + more ≡ suc (length g.replies + more) = omega arith in
        rw (q, w.2 last m, drop-append-le n l m w.1, h c.site (drop n l), drop-drop) (answered-resumed c n g _)

-- a log that has not stopped goes on with what comes next
pub in_parts : (last : Bool) (room more : ℕ) (d : Site) (l m : List ℕ) → (log false room d l).stopped ≡ false
    → log last (length (log false room d l).replies + more) d (l ++ m)
    ≡ joined (log false room d l) (log last more (log false room d l).site (drop (log false room d l).taken l ++ m))
in_parts last room more d l m s = resumes last room more d l m ∙ rw s

-- a log that has stopped takes nothing of what comes next
pub parts_stopped : (last : Bool) (room more : ℕ) (d : Site) (l m : List ℕ) → (log false room d l).stopped ≡ true
    → log last (length (log false room d l).replies + more) d (l ++ m) ≡ log false room d l
parts_stopped last room more d l m s = resumes last room more d l m ∙ rw s

-- where nothing is there nothing is answered
none_there : (room : ℕ) (d : Site) (l : List ℕ) → length l ≡ 0 → log true room d l ≡ rests d
unfolding log turn
none_there zero d l z = refl
none_there (suc room) d l z = rw (eq-eqb (length l) 0 z)

-- room for more replies than there are bytes changes nothing
room_over : (n over : ℕ) (d : Site) (l : List ℕ) → length l ≤ n → log true (n + over) d l ≡ log true n d l
unfolding log
room_over zero over d l h = none_there (0 + over) d l (omega arith)
room_over (suc n) over d l h =
    let q : suc n + over ≡ suc (n + over) = omega arith in
    rw q (go (turn true d l) (turn_same true d l) (λ e k. room_over n over e k))
  where
    go : (t : Turn) → TurnSame true d l t → ((e : Site) (k : List ℕ) → length k ≤ n → log true (n + over) e k ≡ log true n e k)
        → on_turn d t (λ e k. log true (n + over) e (drop k l)) ≡ on_turn d t (λ e k. log true n e (drop k l))
    go waits w f = refl
    go (stops k) w f = refl
    go (goes c k) w f = rw (f c.site (drop k l) (omega (arith, length-drop k l)))

-- so room for as many replies as there are bytes is enough
pub enough : (n : ℕ) (d : Site) (l : List ℕ) → length l ≤ n → log true n d l ≡ whole_log d l
enough n d l h =
    let q : n ≡ length l + (n - length l) = omega arith in
    rw q (room_over (length l) (n - length l) d l (omega arith))
