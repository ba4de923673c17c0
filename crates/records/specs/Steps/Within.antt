-- What the code knows of what it has read: steps between code and definition.
use Rattle.std.specs.Prelude.{ℕ, ◌≤◌, ◌≡◌, Option, Some, None, Result, Ok, Err}
use Rattle.records.specs.declared.Form.{Form}
use Rattle.records.specs.declared.Asked.{Asked}
use Rattle.records.specs.declared.Unread.{Unread}
use Rattle.records.specs.Records.{length_of}

-- a known kind comes with the length of its record
abbrev pub Formed : Option Form → Type 0
Formed None = Unit {0}
Formed (Some f) = f.length ≡ length_of f.kind

-- a command's record lies within the bytes that are there
abbrev pub Lies : ℕ → Result Asked Unread → Type 0
Lies n (Err u) = Unit {0}
Lies n (Ok a) = a.length ≤ n
