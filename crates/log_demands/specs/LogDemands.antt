-- What the demands come to in a log: `LogDemands`, at the end. What is quoted is the demands', or
-- 01's where it says so.
use Rattle.std.specs.Prelude.{ℕ, zero, suc, ◌*◌, ◌^◌, ◌<◌, ◌≡◌, ◌↔◌, Bool, cond, List, [], ◌∷◌, take, drop, eqb, Result, Ok, Err}
use Rattle.std.proofs.Math.Option.{Option, none, some}
use Rattle.layouts.specs.Layout.{in_use}
use Rattle.homes.specs.Homes.{params}
use Rattle.numbers.specs.Little.{Bytes}
use Rattle.state.specs.declared.State.{State}
use Rattle.register.specs.Files.{File, file_of, left, numbers_of}
use Rattle.demands.specs.Histories.{Kept, commit_of, makes}
use Rattle.demands.specs.Demands.{Fresh}
use Rattle.records.specs.declared.Command.{Command}
use Rattle.records.specs.declared.Command.TheVariants.{Format, Put, Find, Remove, Grow, Check, Shrink}
use Rattle.records.specs.declared.Asked.{Asked}
use Rattle.records.specs.declared.Unread.{Unread}
use Rattle.records.specs.Records.{first_of, refused_by}
use Rattle.commands.specs.Execute.{Site, site, call_of, executed}
use Rattle.commands.specs.Log.{log}

-- a command that is read goes before those behind it; at what is no command they end
abbrev pub on_first : Result Asked Unread → (ℕ → List Command) → List Command
on_first (Ok a) rest = a.command ∷ rest a.length
on_first (Err why) rest = []

-- the commands at the start of an input, at most so many
unfoldable pub asked : (room : ℕ) → List ℕ → List Command
asked zero l = []
asked (suc room) l = on_first (first_of l) (λ n. asked room (drop n l))

-- what the accepted commands leave: "the accepted puts and removals", and the accepted growths and
-- shrinkings, from the last accepted format on
unfoldable pub kept_by : Option Kept → Site → List Command → Option Kept
kept_by o d [] = o
kept_by o d (c ∷ cs) = kept_by (cond (eqb (executed d c).numbers.refusal 0) (makes in_use o (call_of c [])) o) (executed d c).site cs

-- the file at a site: the state, and the pages that it tells of
abbrev pub file_at : Site → File
file_at d = file_of d.state (take (256 * d.state.cap) d.space)

-- something of every command but a format
abbrev pub ButFormat : (Command → Type 0) → Command → Type 0
ButFormat Says (Format q cap) = Unit {0}
ButFormat Says (Put x) = Says (Put x)
ButFormat Says (Find k) = Says (Find k)
ButFormat Says (Remove k) = Says (Remove k)
ButFormat Says Grow = Says Grow
ButFormat Says Check = Says Check
ButFormat Says Shrink = Says Shrink

-- a command is answered as its call on the file at the site, with a count for each of its pages;
-- only a format is lent other pages
abbrev pub AsCalled : Site → Command → Type 0
AsCalled d = ButFormat (λ c. (executed d c).numbers ≡ numbers_of (left (file_at d) (call_of c (take d.state.cap d.row))).said)

-- 01: "Before a format the state is all zero"
abbrev pub no_file : State
no_file = record { params = params 0 0 0 0; p = 0; cap = 0; r = 0 }

-- 01: "so all calls but format answer 1"
abbrev pub AnswersOne : (space row : List ℕ) → Command → Type 0
AnswersOne space row = ButFormat (λ c. (executed (site no_file space row) c).numbers ≡ refused_by 1)

-- After any bytes, from any site, in which a format was accepted, and with what the accepted
-- commands keep
pub record After (m : Kept) (d : Site) : Type 0 where
  pub last : Bool
  pub room : ℕ
  pub start : Site
  pub input : List ℕ
  pub bytes : Bytes input
  pub keeps : kept_by none start (asked room input) ≡ some m
  pub leaves : (log last room start input).site ≡ d

-- What is promised of a log, and proved as `log_demands` (proofs/LogDemands.antt)
pub record LogDemands : Type 0 where
  pub before : (space row : List ℕ) (c : Command) → AnswersOne space row c
  -- the file at the site is one that a fresh history left, with what the commands kept: all of
  -- `Demands` is of it
  pub fresh : (m : Kept) (d : Site) → After m d → Fresh m (file_at d)
  -- and a command is answered as its call is on that file
  pub called : (d : Site) (c : Command) → AsCalled d c
  -- so "a search gives a request's commit exactly when the accepted puts and removals leave it
  -- there"
  pub found : (m : Kept) (d : Site) → After m d → (k : ℕ) → k < 2 ^ 64
      → let said = (executed d (Find k)).numbers in
      ((v : ℕ) → ((said.refusal ≡ 0) × (said.value ≡ v)) ↔ (commit_of k m.held ≡ some v)) × ((said.refusal ≡ 5) ↔ (commit_of k m.held ≡ none))
