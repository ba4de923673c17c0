-- Where the strings of a record lie.
use Rattle.std.specs.Prelude.{◌+◌, ◌≤◌}
use Rattle.raw_calls.specs.declared.raw_records.Asked.{Asked}

-- one behind the other, each with its length in front, and each of 16,400 bytes, or 4,100 counts, at most
pub record Lying (asked : Asked) : Type 0 where
  pub area : 50 ≤ asked.area
  pub second : asked.area + 4 ≤ asked.second
  pub copied : asked.second ≤ asked.area + 16404
  pub row : asked.second + 4 ≤ asked.row
  pub counts : asked.row ≤ asked.second + 16404
  pub room : asked.row + 4 ≤ asked.room
  pub lent : asked.room ≤ asked.row + 16404
