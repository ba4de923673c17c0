-- Sorted entries made the records of the list.
use Rattle.std.specs.Prelude.{ℕ, ◌+◌, cond, List, [], ◌∷◌, ◌++◌, eqb}
use Rattle.std.proofs.Math.Option.{Option, none, some}
use Rattle.numbers.specs.Fields.{Field, width, encode}
use Rattle.layouts.specs.Layout.{in_use}
use Rattle.placing.specs.Lay.{count}
use Rattle.pages.specs.Page.{Record, key, vacant, payload}
use Rattle.entries.specs.declared.Entry.{Entry}
use Rattle.entries.specs.Steps.Entries.{size, fields}

-- how many bytes a second value takes
abbrev pub more : ℕ
more = width (payload in_use vacant)

-- a record that was found
abbrev pub or_vacant : Option Record → Record
or_vacant none = vacant
or_vacant (some x) = x

-- an entry as a record of the list: the second value of a 771 is sought again
abbrev pub entry_fields : (ℕ → Option Record) → Entry → List Field
entry_fields look e =
    cond (eqb e.from 771)
    ((2, size + more) ∷ (2, e.from) ∷ (8, key e.held) ∷ (payload in_use e.held ++ payload in_use (or_vacant (look (key e.held)))))
    (fields e)

abbrev pub unpacked : (ℕ → Option Record) → List Entry → List ℕ
unpacked look [] = []
unpacked look (e ∷ es) = encode (entry_fields look e) ++ unpacked look es

-- how many grow by a second value
abbrev pub wide : List Entry → ℕ
wide es = count (λ e. eqb e.from 771) es
