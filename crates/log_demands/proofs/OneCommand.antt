-- One command of a log leaves a file that a fresh history left, with what it keeps.
use mathlib.Core.Path.{◌≡◌, refl}
use mathlib.Core.Bool.{Bool, true, false, cond}
use mathlib.Core.Option.{Option, none, some}
use mathlib.Core.List.{List, [], ◌∷◌}
use Prim.Native.Nat.{ℕ, ◌*◌, ◌≤◌}
use native.Mathlib.Nat.{zero-add}
use native.Mathlib.Omega.{arith}
use lib.Dec.{ltb, eqb}
use lib.ListN.{length, take, length-take}
use borrow.Author.Tests.{eqb-true, eqb-false}
use Rattle.layouts.specs.Layout.{in_use}
use Rattle.homes.specs.declared.Params.{Params}
use Rattle.numbers.specs.Little.{written}
use Rattle.numbers.proofs.Laws.{written_front, written-length}
use Rattle.state.specs.declared.State.{State}
use Rattle.register.specs.Files.{Call, format, find, put, remove, grow, shrink, check, File, Left, left, numbers_of}
use Rattle.register.proofs.After.{same_layout}
use Rattle.demands.specs.Histories.{Fits, refusal, Kept, without, holding, paged, unpaged, begun, makes}
use Rattle.demands.specs.Demands.{Fresh}
use Rattle.demands.proofs.Demands.{demands}
use Rattle.records.specs.declared.Command.{Command}
use Rattle.records.specs.declared.Command.TheVariants.{Format, Put, Find, Remove, Grow, Check, Shrink}
use Rattle.records.specs.Records.{refused_by}
use Rattle.commands.specs.Execute.{Site, call_of, Executed, carries, called_with, executed}
use Rattle.commands.proofs.Lending.{written_first}
use Rattle.log_demands.proofs.Fits.{Fit}
use Rattle.log_demands.proofs.OneMore.{fresh_more, fresh_format, format_lent, fresh_cap, fresh_length}

-- the first pages of a space, with a state
abbrev first_on : State → List ℕ → (pages : ℕ) → File
first_on s space n = record { layout = in_use; state = s; area = take (256 * n) space }

-- what is kept is of the file at the start of a space that has all its pages
abbrev pub Holds : Option Kept → State → List ℕ → Type 0
Holds none s space = Unit {0}
Holds (some m) s space = Fresh m (first_on s space s.cap) × (256 * s.cap ≤ length space)

-- it is so once what a call left is back in its place
abbrev HoldsBack : Option Kept → List ℕ → Left → Type 0
HoldsBack o space l = Holds o l.file.state (written space 0 l.file.area)

-- the lent pages back as they were change nothing
back_same : (o : Option Kept) (s : State) (space : List ℕ) (n : ℕ) (l : Left) → l.file ≡ first_on s space n → Holds o s space → HoldsBack o space l
back_same o s space n l e h = rw (e, written_first (256 * n) space) h

-- bytes written at the start of a space stand there
back_front : (space new : List ℕ) → take (length new) (written space 0 new) ≡ new
back_front space new = rw zero-add at (written_front space 0 new (omega arith))

-- a file that a fresh history left is that of the space where its pages have room in it
back_fresh : (m : Kept) (space : List ℕ) (l : Left) → l.file.layout ≡ in_use → Fresh m l.file → 256 * m.cap ≤ length space → HoldsBack (some m) space l
back_fresh m space l u w h =
    let n : length l.file.area ≡ 256 * l.file.state.cap = omega (arith, fresh_length w, fresh_cap w) in
    (rw (← n, back_front space l.file.area, ← u) w, omega (arith, fresh_length w, written-length space 0 l.file.area (omega (arith, fresh_length w)), n))

-- what is kept after a call is of the file that it left
abbrev KeepsBack : Option Kept → Call → List ℕ → Left → Type 0
KeepsBack o c space l = HoldsBack (cond (eqb (numbers_of l.said).refusal 0) (makes in_use o c) o) space l

-- it is so of every call, since a refused one leaves the file, if it is so where the call is
-- accepted
by_refusal : (o : Option Kept) (s : State) (space : List ℕ) (n : ℕ) (c : Call) → Holds o s space
    → (refusal (first_on s space n) c ≡ 0 → HoldsBack (makes in_use o c) space (left (first_on s space n) c)) → KeepsBack o c space (left (first_on s space n) c)
by_refusal o s space n c h k = go (eqb (refusal f c) 0) refl
  where
    f : File
    f = first_on s space n

    go : (u : Bool) → eqb (refusal f c) 0 ≡ u → HoldsBack (cond u (makes in_use o c) o) space (left f c)
    go true e = k (eqb-true (refusal f c) 0 e)
    go false e = back_same o s space n (left f c) (demands.total f c (eqb-false (refusal f c) 0 e)).0 h

-- of a format: an accepted one begins a file
format_keeps : (o : Option Kept) (s : State) (space : List ℕ) (q : Params) (cap : ℕ) → Holds o s space
    → KeepsBack o (format q cap) space (left (first_on s space cap) (format q cap))
format_keeps o s space q cap h =
    by_refusal o s space cap (format q cap) h
    (λ z. back_fresh (begun in_use q cap) space (left (first_on s space cap) (format q cap)) (same_layout (first_on s space cap) (format q cap)) (fresh_format (first_on s space cap) q cap z)
    (omega (arith, format_lent (first_on s space cap) q cap z, length-take (256 * cap) space)))

-- of any other call: it goes on with the file on as many pages, and where nothing is kept it keeps
-- nothing
module _ (c : Call) (fits : Fits in_use c) (nothing : makes in_use none c ≡ none)
    (something : (m : Kept) → (new : Kept) × (makes in_use (some m) c ≡ some new) × (new.cap ≡ m.cap)) where
  -- where it is accepted
  accepted_keeps : (o : Option Kept) (s : State) (space : List ℕ) → Holds o s space → refusal (first_on s space s.cap) c ≡ 0
      → HoldsBack (makes in_use o c) space (left (first_on s space s.cap) c)
  accepted_keeps none s space h z = rw nothing tt
  accepted_keeps (some m) s space h z =
      let t = something m in
      rw t.1
      (back_fresh t.0 space (left (first_on s space s.cap) c) (same_layout (first_on s space s.cap) c) (fresh_more c fits z t.1 h.0) (omega (arith, t.2, fresh_cap h.0, h.1)))

  -- accepted or not
  call_keeps : (o : Option Kept) (s : State) (space : List ℕ) → Holds o s space → KeepsBack o c space (left (first_on s space s.cap) c)
  call_keeps o s space h = by_refusal o s space s.cap c h (accepted_keeps o s space h)

-- what is kept after a command is of the file that it left
abbrev Keeps : Option Kept → Command → Executed → Type 0
Keeps o c r = Holds (cond (eqb r.numbers.refusal 0) (makes in_use o (call_of c [])) o) r.site.state r.site.space

-- and it is so of every command
pub command_keeps : (o : Option Kept) (d : Site) (c : Command) → Fit c → Holds o d.state d.space → Keeps o c (executed d c)
unfolding executed
command_keeps o d (Format q cap) w h = go (ltb 128 cap)
  where
    go : (u : Bool) → Keeps o (Format q cap) (cond u (carries (refused_by 12) d) (called_with d (Format q cap) cap))
    go true = h
    go false = format_keeps o d.state d.space q cap h
command_keeps o d (Put x) w h = call_keeps (put x) (w []) refl (λ m. (holding m (x ∷ m.held), refl, refl)) o d.state d.space h
command_keeps o d (Find k) w h = call_keeps (find k) (w []) refl (λ m. (m, refl, refl)) o d.state d.space h
command_keeps o d (Remove k) w h = call_keeps (remove k) (w []) refl (λ m. (holding m (without k m.held), refl, refl)) o d.state d.space h
command_keeps o d Grow w h = call_keeps (grow (take d.state.cap d.row)) tt refl (λ m. (paged m, refl, refl)) o d.state d.space h
command_keeps o d Check w h = call_keeps check tt refl (λ m. (m, refl, refl)) o d.state d.space h
command_keeps o d Shrink w h = call_keeps shrink tt refl (λ m. (unpaged m, refl, refl)) o d.state d.space h
