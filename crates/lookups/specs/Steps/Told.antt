-- What a search found, in the Option of the code.
use Rattle.std.specs.Prelude.{None, Some}
use Rattle.std.specs.Prelude as Std
use Rattle.std.proofs.Math.Option.{Option, none, some}
use Rattle.pages.specs.Page.{Record}

abbrev pub told : Option Record → Std.Option Record
told none = None
told (some x) = Some x

abbrev pub held_by : Std.Option Record → Option Record
held_by None = none
held_by (Some x) = some x
