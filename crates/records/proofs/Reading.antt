-- The way from an input's bytes to its first record: its kind, and the kind's number and length.
use mathlib.Core.Path.{◌≡◌, refl}
use mathlib.Core.Bool.{Bool, true, false, cond}
use native.Mathlib.Omega.{arith}
use lib.Dec.{eqb}
use mathlib.Core.List.{List}
use Prim.Native.Nat.{ℕ, ◌≤◌, ◌<◌}
use lib.ListN.{length}
use borrow.Author.Tests.{eq-eqb, eqb-true, lt-ltb, le-ltb}
use Rattle.std.specs.Prelude.{Option, Some, None, Err}
use Rattle.numbers.specs.Little.{number_at}
use Rattle.records.specs.declared.Kind.{Kind}
use Rattle.records.specs.declared.Kind.TheVariants as kind
use Rattle.records.specs.declared.Form.{Form}
use Rattle.records.specs.declared.Unread.TheVariants.{CutOff}
use Rattle.records.specs.Records.{length_of, form_for, known, format_for, form_of, command_of, asks, first_of}

-- the number that a record has for its kind
abbrev pub number_of : Kind → ℕ
number_of kind.Format = 257
number_of kind.FormatEdition = 257
number_of kind.Put = 258
number_of kind.Find = 259
number_of kind.Remove = 260
number_of kind.Grow = 261
number_of kind.Check = 262
number_of kind.Shrink = 263

-- the length that is told chooses between the records of a format, and no others
abbrev pub Chosen : ℕ → Kind → Type 0
Chosen told kind.Format = format_for told ≡ kind.Format
Chosen told kind.FormatEdition = format_for told ≡ kind.FormatEdition
Chosen told kind.Put = Unit {0}
Chosen told kind.Find = Unit {0}
Chosen told kind.Remove = Unit {0}
Chosen told kind.Grow = Unit {0}
Chosen told kind.Check = Unit {0}
Chosen told kind.Shrink = Unit {0}

-- so does the length of a kind's record
pub chosen : (k : Kind) (told : ℕ) → told ≡ length_of k → Chosen told k
chosen kind.Format told e = rw e
chosen kind.FormatEdition told e = rw e
chosen kind.Put told e = tt
chosen kind.Find told e = tt
chosen kind.Remove told e = tt
chosen kind.Grow told e = tt
chosen kind.Check told e = tt
chosen kind.Shrink told e = tt

-- a kind's number has the kind's form
pub known_form : (k : Kind) (told n : ℕ) → n ≡ number_of k → Chosen told k → known k ≡ form_of told n
unfolding form_of
known_form kind.Format told n e h = rw (e, h)
known_form kind.FormatEdition told n e h = rw (e, h)
known_form kind.Put told n e h = rw e
known_form kind.Find told n e h = rw e
known_form kind.Remove told n e h = rw e
known_form kind.Grow told n e h = rw e
known_form kind.Check told n e h = rw e
known_form kind.Shrink told n e h = rw e

-- a record has a head at least
pub head_low : (k : Kind) → 4 ≤ length_of k
head_low kind.Format = omega arith
head_low kind.FormatEdition = omega arith
head_low kind.Put = omega arith
head_low kind.Find = omega arith
head_low kind.Remove = omega arith
head_low kind.Grow = omega arith
head_low kind.Check = omega arith
head_low kind.Shrink = omega arith

-- a form is of the kind of a number, and has the kind's length
abbrev pub Of : ℕ → Option Form → Type 0
Of x f = (g : Form) → f ≡ Some g → (x ≡ number_of g.kind) × (g ≡ form_for g.kind)

-- so it is with one test more
of_test : (x m : ℕ) (j : Kind) (f : Option Form) → m ≡ number_of j → Of x f → Of x (cond (eqb x m) (known j) f)
of_test x m j f is h = go (eqb x m) refl
  where
    go : (u : Bool) → eqb x m ≡ u → Of x (cond u (known j) f)
    go true e = λ g q. let d : x ≡ m = eqb-true x m e in let r : form_for j ≡ g = cc in rw (← r, d, is) (refl, refl)
    go false e = h

-- both records of a format have its number
format_number : (told : ℕ) → 257 ≡ number_of (format_for told)
format_number told = go (eqb told 14)
  where
    go : (u : Bool) → 257 ≡ number_of (cond u kind.FormatEdition kind.Format)
    go true = refl
    go false = refl

-- and with all of them
pub of_number : (told x : ℕ) → Of x (form_of told x)
unfolding form_of
of_number told x =
    of_test x 257 (format_for told) _ (format_number told)
    (of_test x 258 kind.Put _ refl
    (of_test x 259 kind.Find _ refl
    (of_test x 260 kind.Remove _ refl
    (of_test x 261 kind.Grow _ refl (of_test x 262 kind.Check _ refl (of_test x 263 kind.Shrink None refl (λ g q. (cc, cc))))))))

-- an input with no whole head is cut off
pub head_cut : (l : List ℕ) → length l < 4 → first_of l ≡ Err CutOff
unfolding first_of
head_cut l h = rw (lt-ltb (length l) 4 h)

-- a whole record of a kind is read as the command of its bytes
pub whole : (k : Kind) (l : List ℕ) → length_of k ≤ length l → number_at 2 l 0 ≡ length_of k → number_at 2 l 2 ≡ number_of k → first_of l ≡ asks (command_of k l) (length_of k)
unfolding first_of
whole k l b f s =
    rw (
      le-ltb (length l) 4 (omega (arith, head_low k)),
      ← known_form k (number_at 2 l 0) (number_at 2 l 2) s (chosen k (number_at 2 l 0) f),
      eq-eqb (number_at 2 l 0) (length_of k) f,
      le-ltb (length l) (length_of k) b,
    )
