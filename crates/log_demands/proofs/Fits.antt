-- The keys and values of the commands that bytes ask for fit 64 bits.
use mathlib.Core.Path.{◌≡◌, refl, ap}
use mathlib.Core.Bool.{Bool, true, false, cond}
use mathlib.Core.List.{List}
use Prim.Native.Nat.{ℕ, zero, suc, ◌≤◌}
use native.Mathlib.Omega.{arith}
use lib.Dec.{eqb, ltb}
use lib.ListN.{length, drop}
use borrow.Author.Tests.{ltb-false}
use Rattle.std.specs.Prelude.{Option, Some, None, Result, Ok, Err}
use Rattle.numbers.specs.Little.{Bytes, number_at}
use Rattle.numbers.proofs.Laws.{bytes_drop, number_bound}
use Rattle.layouts.specs.Layout.{in_use}
use Rattle.placing.specs.Image.{All}
use Rattle.demands.specs.Histories.{Fits}
use Rattle.records.specs.declared.Kind.{Kind}
use Rattle.records.specs.declared.Kind.TheVariants as kind
use Rattle.records.specs.declared.Form.{Form}
use Rattle.records.specs.declared.Command.{Command}
use Rattle.records.specs.declared.Asked.{Asked}
use Rattle.records.specs.declared.Unread.{Unread}
use Rattle.records.specs.declared.Unread.TheVariants.{UnknownKind, CutOff}
use Rattle.records.specs.Records.{length_of, form_of, command_of, asks, formed, first_of}
use Rattle.commands.specs.Execute.{call_of}
use Rattle.records.proofs.Reading.{of_number}
use Rattle.log_demands.specs.LogDemands.{on_first, asked}

-- a command's numbers fit: its call's do, with any row
abbrev pub Fit : Command → Type 0
Fit c = (row : List ℕ) → Fits in_use (call_of c row)

-- so do those of what an input asks for
abbrev AskedFits : Result Asked Unread → Type 0
AskedFits (Ok a) = Fit a.command
AskedFits (Err why) = Unit {0}

-- the command of a whole record has numbers that fit
kind_fits : (k : Kind) (l : List ℕ) → Bytes l → length_of k ≤ length l → Fit (command_of k l)
kind_fits kind.Format l b h row = tt
kind_fits kind.FormatEdition l b h row = tt
kind_fits kind.Put l b h row = (number_bound 8 l 4 (omega arith) b, number_bound 8 l 12 (omega arith) b, refl)
kind_fits kind.Find l b h row = number_bound 8 l 4 (omega arith) b
kind_fits kind.Remove l b h row = number_bound 8 l 4 (omega arith) b
kind_fits kind.Grow l b h row = tt
kind_fits kind.Check l b h row = tt
kind_fits kind.Shrink l b h row = tt

-- so what a head asks for does
form_fits : (l : List ℕ) → Bytes l → (f : Option Form) → form_of (number_at 2 l 0) (number_at 2 l 2) ≡ f → AskedFits (formed l f)
form_fits l b None e = tt
form_fits l b (Some f) e = go (eqb (number_at 2 l 0) f.length) (ltb (length l) f.length) refl
  where
    go : (u v : Bool) → ltb (length l) f.length ≡ v → AskedFits (cond u (cond v (Err CutOff) (asks (command_of f.kind l) f.length)) (Err UnknownKind))
    go false v q = tt
    go true true q = tt
    go true false q =
        let n : f.length ≡ length_of f.kind = ap Form.length (of_number (number_at 2 l 0) (number_at 2 l 2) f e).1 in
        kind_fits f.kind l b (omega (arith, ltb-false (length l) f.length q, n))

-- and the first record of an input
first_fits : (l : List ℕ) → Bytes l → AskedFits (first_of l)
unfolding first_of
first_fits l b = go (ltb (length l) 4)
  where
    go : (u : Bool) → AskedFits (cond u (Err CutOff) (formed l (form_of (number_at 2 l 0) (number_at 2 l 2))))
    go true = tt
    go false = form_fits l b (form_of (number_at 2 l 0) (number_at 2 l 2)) refl

-- and all commands at its start
pub asked_fits : (room : ℕ) (l : List ℕ) → Bytes l → All Fit (asked room l)
unfolding asked
asked_fits zero l b = tt
asked_fits (suc room) l b = go (first_of l) (first_fits l b) (λ n. asked_fits room (drop n l) (bytes_drop n l b))
  where
    go : (i : Result Asked Unread) → AskedFits i → ((n : ℕ) → All Fit (asked room (drop n l))) → All Fit (on_first i (λ n. asked room (drop n l)))
    go (Ok a) w k = (w, k a.length)
    go (Err why) w k = tt
