-- A log leaves a file that a fresh history left, and answers as its calls do.
use mathlib.Core.Path.{◌≡◌, refl, sym, ◌∙◌}
use mathlib.Core.Bool.{Bool, true, false, cond}
use mathlib.Core.Option.{Option, none}
use mathlib.Core.List.{List, [], ◌∷◌}
use Prim.Native.Nat.{ℕ, zero, suc}
use native.Mathlib.Omega.{arith}
use lib.Dec.{eqb}
use lib.ListN.{length, drop}
use borrow.Author.Tests.{eqb-true}
use Rattle.std.specs.Prelude.{Result, Ok, Err}
use Rattle.layouts.specs.Layout.{in_use}
use Rattle.placing.specs.Image.{All}
use Rattle.state.specs.State.{all, in_range}
use Rattle.gates.specs.Gates.{gate_of, check_gate, grow_gate, shrink_gate}
use Rattle.register.specs.Files.{left}
use Rattle.demands.specs.Histories.{Kept, makes}
use Rattle.demands.specs.Demands.{Fresh}
use Rattle.demands.proofs.Demands.{demands}
use Rattle.records.specs.declared.Command.{Command}
use Rattle.records.specs.declared.Command.TheVariants.{Format, Put, Find, Remove, Grow, Check, Shrink}
use Rattle.records.specs.declared.Asked.{Asked}
use Rattle.records.specs.declared.Unread.{Unread}
use Rattle.records.specs.declared.Unread.TheVariants.{UnknownKind, CutOff}
use Rattle.records.specs.Records.{first_of}
use Rattle.commands.specs.Execute.{Site, call_of, executed}
use Rattle.commands.specs.Log.{waits, stops, on_item, turn, on_turn, log}
use Rattle.records.proofs.Reading.{head_cut}
use Rattle.log_demands.specs.LogDemands.{on_first, asked, kept_by, file_at, AsCalled, AnswersOne, After, LogDemands}
use Rattle.log_demands.proofs.Fits.{Fit, asked_fits}
use Rattle.log_demands.proofs.OneCommand.{Holds, command_keeps}

-- the site that commands leave
unfoldable after_all : Site → List Command → Site
after_all d [] = d
after_all d (c ∷ cs) = after_all (executed d c).site cs

-- what commands keep is of the file after them
commands_keep : (o : Option Kept) (d : Site) (cs : List Command) → All Fit cs → Holds o d.state d.space
    → Holds (kept_by o d cs) (after_all d cs).state (after_all d cs).space
unfolding kept_by after_all
commands_keep o d [] w h = h
commands_keep o d (c ∷ cs) w h =
    commands_keep (cond (eqb (executed d c).numbers.refusal 0) (makes in_use o (call_of c [])) o) (executed d c).site cs w.1 (command_keeps o d c w.0 h)

-- a log leaves the site that the commands of its input leave
log-site : (last : Bool) (room : ℕ) (d : Site) (l : List ℕ) → (log last room d l).site ≡ after_all d (asked room l)
unfolding log turn asked after_all
log-site last zero d l = refl
log-site last (suc room) d l = go (eqb (length l) 0) refl (first_of l) refl (λ e n. log-site last room e (drop n l))
  where
    cut : (u : Bool) → (on_turn d (cond u (stops 11) waits) (λ e n. log last room e (drop n l))).site ≡ d
    cut true = refl
    cut false = refl

    go : (u : Bool) → eqb (length l) 0 ≡ u → (i : Result Asked Unread) → first_of l ≡ i
        → ((e : Site) (n : ℕ) → (log last room e (drop n l)).site ≡ after_all e (asked room (drop n l)))
        → (on_turn d (cond u waits (on_item last d i)) (λ e n. log last room e (drop n l))).site ≡ after_all d (on_first i (λ n. asked room (drop n l)))
    go true e i q k =
        let c : i ≡ Err CutOff = sym q ∙ head_cut l (omega (arith, eqb-true (length l) 0 e)) in
        rw c
    go false e (Ok a) q k = k (executed d a.command).site a.length
    go false e (Err UnknownKind) q k = refl
    go false e (Err CutOff) q k = cut last

-- after a log the file at the site is one that a fresh history left
fresh : (m : Kept) (d : Site) → After m d → Fresh m (file_at d)
fresh m d w =
    let cs : List Command = asked w.room w.input in
    let e : after_all w.start cs ≡ d = sym (log-site w.last w.room w.start w.input) ∙ w.leaves in
    (rw (w.keeps, e) at (commands_keep none w.start cs (asked_fits w.room w.input w.bytes) tt)).0

-- a command is called on the file at the site
called : (d : Site) (c : Command) → AsCalled d c
unfolding executed
called d (Format q cap) = tt
called d (Put x) = refl
called d (Find k) = refl
called d (Remove k) = refl
called d Grow = refl
called d Check = refl
called d Shrink = refl

-- no call but a format takes a state that is all zero
before : (space row : List ℕ) (c : Command) → AnswersOne space row c
unfolding executed left gate_of check_gate grow_gate shrink_gate in_range all
before space row (Format q cap) = tt
before space row (Put x) = refl
before space row (Find k) = refl
before space row (Remove k) = refl
before space row Grow = refl
before space row Check = refl
before space row Shrink = refl

pub log_demands : LogDemands
unfolding executed
log_demands = record { before = before; fresh = fresh; called = called; found = λ m d w. demands.found m (file_at d) (fresh m d w) }
