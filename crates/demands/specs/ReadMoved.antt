-- 01's "Pages read" and "Moved", said of the pages and not of the walks that count them. What is
-- quoted is 01's.
use Rattle.std.specs.Prelude.{ℕ, ◌+◌, ◌^◌, ◌≤◌, ◌<◌, ◌≡◌, List}
use Rattle.std.proofs.Math.Option.{some}
use Rattle.placing.specs.Rows.{strayed}
use Rattle.pages.specs.Page.{Record, key, records_in}
use Rattle.pages.specs.Area.{part_at, held_from}
use Rattle.state.specs.State.{homes}
use Rattle.register.specs.Files.{Call, format, find, put, remove, grow, shrink, check, due, File, left, numbers_of}
use Rattle.demands.specs.Histories.{Fits, refusal, commit_of}

-- the two counts of a call
abbrev pub pages_read : File → Call → ℕ
pages_read f c = (numbers_of (left f c).said).read

abbrev pub moved : File → Call → ℕ
moved f c = (numbers_of (left f c).said).moved

-- page b of a file holds a request, with this commit
abbrev pub HeldOn : File → (b k v : ℕ) → Type 0
HeldOn f b k v = (b < f.state.cap) × (commit_of k (records_in f.layout (part_at f.area b)) ≡ some v)

-- "the number of distinct pages judged": the first page after those that a find judges, from the
-- home of the request on
abbrev pub read_to : File → (k : ℕ) → ℕ
read_to f k = homes f.state k + pages_read f (find k)

-- a find of a request that is held judges the pages from its home to the one that holds it, and no
-- other
abbrev pub ReadHeld : File → Type 0
ReadHeld f = (k b v : ℕ) → k < 2 ^ 64 → HeldOn f b k v → read_to f k ≡ b + 1

-- a find of one that is not held, to the page that an accepted put of it, now, would put it on
abbrev pub ReadAbsent : File → Type 0
ReadAbsent f = (x : Record) (b w : ℕ) → Fits f.layout (put x) → refusal f (put x) ≡ 0 → HeldOn (left f (put x)).file b (key x) w → read_to f (key x) ≡ b + 1

-- and no find judges more than there are
abbrev pub ReadWithin : File → Type 0
ReadWithin f = (k : ℕ) → k < 2 ^ 64 → read_to f k ≤ f.state.cap

-- the records on each page of a file
abbrev pub pages_of : File → List (List Record)
pages_of f = held_from f.layout f.area f.state.cap 0

-- "for put and remove, the number of times a held record went to a neighbouring page; for grow, the
-- number of records whose page differs; otherwise 0": a record that a put adds, or a removal takes
-- out, is none of them. 02, request 5: for shrink "counted the same way" as for grow
abbrev pub differ : Call → (before after : List (List Record)) → ℕ
differ (format q cap) before after = 0
differ (find k) before after = 0
differ (put x) before after = strayed key after before
differ (remove k) before after = strayed key before after
differ (grow row) before after = strayed key before after
differ shrink before after = strayed key before after
differ check before after = 0
differ due before after = 0

-- what a call tells of the records moved is what its two areas show, whether or not it is accepted
abbrev pub Moved : File → Type 0
Moved f = (c : Call) → Fits f.layout c → moved f c ≡ differ c (pages_of f) (pages_of (left f c).file)
