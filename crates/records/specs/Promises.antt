-- What is promised of the log's records: `RecordPromises`, at the end (01, 'The log program'; 02,
-- request 4). What is quoted is 01's, or 02's where that is said.
use Rattle.std.specs.Prelude.{ℕ, ◌^◌, ◌<◌, ◌≡◌, List, ◌++◌, take}
use Rattle.numbers.specs.Little.{Bytes}
use Rattle.numbers.specs.Fields.{Field, width, encode}
use Rattle.layouts.specs.Layout.{in_use}
use Rattle.pages.specs.Small.{Small}
use Rattle.records.specs.declared.Command.{Command}
use Rattle.records.specs.declared.Command.TheVariants.{Format, Put, Find, Remove, Grow, Check, Shrink}
use Rattle.records.specs.Records.{asks, first_of, IsRecord}

-- the numbers of a command are of the width that they have in its record: "n0, N, s, cap (2 bytes
-- each)", the edition "a last two-byte number" (02, request 4), and a record that the layout in use takes
abbrev pub Sized : Command → Type 0
Sized (Format q cap) = (q.n0 < 2 ^ 16) × (q.n < 2 ^ 16) × (q.s < 2 ^ 16) × (q.edition < 2 ^ 16) × (cap < 2 ^ 16)
Sized (Put x) = Small in_use x
Sized (Find k) = k < 2 ^ 64
Sized (Remove k) = k < 2 ^ 64
Sized Grow = Unit {0}
Sized Check = Unit {0}
Sized Shrink = Unit {0}

-- What is promised, and proved as `record_promises` (proofs/Promises.antt)
pub record RecordPromises : Type 0 where
  -- "257 format: n0, N, s, cap (2 bytes each), length 12. 258 put: key, value, length 20. 259 find
  -- and 260 remove: key, length 12. 261 grow and 262 check: length 4.": these bytes, whatever is
  -- behind them, are read as that command. "Length covers the whole record." 02, request 4: "a
  -- format command of length 14 carries" the edition "as a last two-byte number, and length 12
  -- still means edition 1"; request 5: "command kind 263, length 4"
  pub reads : (c : Command) (w : List Field) (rest : List ℕ) → Sized c → IsRecord c w → first_of (encode w ++ rest) ≡ asks c (width w)
  -- "all others are unknown": what is read as a command are the bytes of one of its records, and no
  -- others
  pub read_only : (l : List ℕ) (c : Command) (n : ℕ) → Bytes l → first_of l ≡ asks c n → (w : List Field) × IsRecord c w × (n ≡ width w) × (take n l ≡ encode w)
