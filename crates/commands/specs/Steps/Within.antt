-- One turn in the code's terms: steps between code and definition.
use Rattle.std.specs.Prelude.{ℕ, ◌≤◌, List}
use Rattle.numbers.specs.Fields.{encode}
use Rattle.records.specs.Records.{refused_by, reply_of}
use Rattle.state.specs.declared.Done.{Done}
use Rattle.state.specs.declared.Numbers.{Numbers}
use Rattle.register.specs.Files.{Left, numbers_of}
use Rattle.commands.specs.declared.Step.{Step}
use Rattle.commands.specs.declared.Step.TheVariants.{Waits, Stops, Goes}
use Rattle.commands.specs.declared.Ran.{Ran}
use Rattle.commands.specs.Execute.{Site}
use Rattle.commands.specs.Log.{Turn, waits, stops, goes}

-- a turn as the code tells it
abbrev pub step_of : Turn → Step
step_of waits = Waits
step_of (stops n) = Stops
step_of (goes c n) = Goes c.site.state n

-- the site after a turn
abbrev pub site_after : Site → Turn → Site
site_after d waits = d
site_after d (stops n) = d
site_after d (goes c n) = c.site

-- the bytes where the reply goes, after a turn
abbrev pub reply_after : Site → (part : List ℕ) → Turn → List ℕ
reply_after d part waits = part
reply_after d part (stops n) = encode (reply_of (refused_by n) d.state)
reply_after d part (goes c n) = encode (reply_of c.numbers c.site.state)

-- a turn takes no more bytes than are there
abbrev pub Takes : ℕ → Step → Type 0
Takes n Waits = Unit {0}
Takes n Stops = Unit {0}
Takes n (Goes s k) = k ≤ n

-- a log takes and gives no more bytes than there is place for
abbrev pub RanIn : (input replies : ℕ) → Ran → Type 0
RanIn n m r = (r.taken ≤ n) × (r.given ≤ m)

-- what a call left, as the code tells it
abbrev pub told_left : Left → Done Numbers
told_left l = record { state = l.file.state; answer = numbers_of l.said }
