-- What is promised of the parts that a log comes in: `LogPromises`, at the end (01, 'The log
-- program'). What is quoted is 01's; of its records `RecordPromises` (crate `records`) says more.
use Rattle.std.specs.Prelude.{ℕ, ◌+◌, ◌≤◌, ◌≡◌, Bool, true, false, List, ◌++◌, length, drop}
use Rattle.commands.specs.Execute.{Site}
use Rattle.commands.specs.Log.{Log, log, whole_log}

-- one log and then another: the replies one after the other, the bytes taken added, the site and
-- the stop of the second
abbrev pub joined : Log → Log → Log
joined a b = record { replies = a.replies ++ b.replies; site = b.site; taken = a.taken + b.taken; stopped = b.stopped }

-- What is promised, and proved as `log_promises` (proofs/Promises.antt)
pub record LogPromises : Type 0 where
  -- "It reads commands and writes one reply each", in whatever parts its input comes: a log of a
  -- first part that may go on, and then one of what the first did not take with the next part
  -- behind it, are the log of both parts at once
  pub in_parts : (last : Bool) (room more : ℕ) (d : Site) (l m : List ℕ)
      → let first = log false room d l in
      first.stopped ≡ false → log last (length first.replies + more) d (l ++ m) ≡ joined first (log last more first.site (drop first.taken l ++ m))
  -- "After 10 or 11 it stops.": what comes next changes nothing
  pub parts_stopped : (last : Bool) (room more : ℕ) (d : Site) (l m : List ℕ)
      → let first = log false room d l in
      first.stopped ≡ true → log last (length first.replies + more) d (l ++ m) ≡ first
  -- "one reply each": room for as many replies as there are bytes is enough for the whole log
  pub enough : (room : ℕ) (d : Site) (l : List ℕ) → length l ≤ room → log true room d l ≡ whole_log d l
