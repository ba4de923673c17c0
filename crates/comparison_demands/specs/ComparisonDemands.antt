-- What is promised of the comparison of two files (02, request 6): `ComparisonDemands`, at the end. What
-- is quoted is the request's.
use Rattle.std.specs.Prelude.{ℕ, ◌+◌, ◌*◌, ◌≤◌, ◌<◌, ◌≡◌, ◌↔◌, List, [], map, length}
use Rattle.numbers.specs.Fields.{encode}
use Rattle.layouts.specs.Layout.{Layout, in_use}
use Rattle.placing.specs.Lay.{Sorted}
use Rattle.placing.specs.Walks.{seek}
use Rattle.pages.specs.Page.{Record, key}
use Rattle.state.specs.declared.State.{State}
use Rattle.state.specs.declared.Numbers.{Numbers}
use Rattle.state.specs.Answer.{numbers}
use Rattle.register.specs.Calls.{checked}
use Rattle.register.specs.Files.{File}
use Rattle.demands.specs.Histories.{Kept, record_of, commit_of}
use Rattle.demands.specs.Demands.{Fresh}
use Rattle.sites.specs.Held.{same, held_in, read_over}
use Rattle.two_sets.specs.Differences.{Difference, only_first, only_second, unlike, turned, key_of, differences, differ_at}
use Rattle.differences.specs.Listing.{fields, closing, listing}
use Rattle.comparisons.specs.declared.ComparedNumbers.{ComparedNumbers}
use Rattle.comparisons.specs.Compare.{filled, compared, compared_numbers}

-- what a comparison of any numbers and any bytes says, in numbers
abbrev pub said : Layout → State → List ℕ → State → List ℕ → (room : List ℕ) → ComparedNumbers
said f s area t other room = compared_numbers (compared f s area t other room).answer

-- the list of two files that pass
abbrev pub list_of : Layout → State → List ℕ → State → List ℕ → List ℕ
list_of f s area t other = listing f (differences key same (held_in f s area) (held_in f t other))

-- what a check of one file says, in numbers; "refusal 0 means accepted" (01)
abbrev pub checks : Layout → State → List ℕ → Numbers
checks f s area = numbers (checked f s area).answer

-- a refusal of a file: check's, with the broken page if there is one, and the pages read over both files
pub record Told (n : ComparedNumbers) (which before : ℕ) (c : Numbers) : Type 0 where
  pub file : n.file ≡ which
  pub refusal : n.numbers.refusal ≡ c.refusal
  pub page : n.numbers.page ≡ c.page
  pub read : n.numbers.read ≡ read_over before c.read

-- Of any numbers and any bytes
pub record OnAnyBytes (f : Layout) (s : State) (area : List ℕ) (t : State) (other room : List ℕ) : Type 0 where
  -- "each file's 1, 2, 4 and 9 as check gives them, the first file's before the second's"
  pub first : ((checks f s area).refusal ≡ 0 → ⊥) → Told (said f s area t other room) 1 0 (checks f s area)
  pub second : (checks f s area).refusal ≡ 0 → ((checks f t other).refusal ≡ 0 → ⊥) → Told (said f s area t other room) 2 s.cap (checks f t other)
  -- "after any of them the room is unchanged and the length is 0"
  pub unchanged : ((said f s area t other room).numbers.refusal ≡ 0 → ⊥) → ((compared f s area t other room).room ≡ room) × ((said f s area t other room).taken ≡ 0)
  -- "then 15 exactly when the room is shorter than the whole list", and no other refusal then
  pub short : (checks f s area).refusal ≡ 0 → (checks f t other).refusal ≡ 0
      → (((said f s area t other room).numbers.refusal ≡ 15) ↔ (length room < length (list_of f s area t other)))
      × (((said f s area t other room).numbers.refusal ≡ 0) ↔ (length (list_of f s area t other) ≤ length room))
  -- then how many bytes are wanted is told, whether or not they are there
  pub wanted : (checks f s area).refusal ≡ 0 → (checks f t other).refusal ≡ 0 → (said f s area t other room).wanted ≡ length (list_of f s area t other)

-- two files of one page layout, each after a fresh history, with what they keep: parameters, lent sizes,
-- pages grown to and editions may be any
pub record TwoFresh (a b : Kept) (f g : File) : Type 0 where
  pub first : Fresh a f
  pub second : Fresh b g
  pub layout : a.layout ≡ b.layout

-- what differs between the records of two
abbrev pub differing : (a b : Kept) → List (Difference Record)
differing a b = differences key same a.held b.held

-- Of such files
pub record Lists (a b : Kept) (f g : File) : Type 0 where
  -- a comparison lists what differs between the records that accepted puts and removals leave, and is
  -- refused for room alone
  pub lists : (room : List ℕ) → compared a.layout f.state f.area g.state g.area room ≡ filled (a.cap + b.cap) (listing a.layout (differing a b)) room
  -- "exactly the differences": of every request, what the list says of it
  pub says : (k : ℕ) → seek (key_of key) k (differing a b) ≡ differ_at key same (record_of k a.held) (record_of k b.held)
  -- "rising by key"; "Each difference stands once"
  pub rises : Sorted (key_of key) (differing a b)
  -- told the other way round, 769 and 770 are exchanged, and so are the values of each 771
  pub turns : differing b a ≡ map turned (differing a b)
  -- "Equal files give the closing record alone", and no others do: where both hold the same commit for
  -- every request
  pub equal : (differing a b ≡ []) ↔ ((k : ℕ) → commit_of k a.held ≡ commit_of k b.held)
  -- 20 bytes for each record of both files and 16 more are room enough
  pub enough : length (listing in_use (differing a b)) ≤ 20 * (length a.held + length b.held) + 16

-- What is promised, and proved as `comparison_demands` (proofs/ComparisonDemands.antt)
pub record ComparisonDemands : Type 0 where
  pub any_bytes : (f : Layout) (s : State) (area : List ℕ) (t : State) (other room : List ℕ) → OnAnyBytes f s area t other room
  pub after_fresh : (a b : Kept) (f g : File) → TwoFresh a b f g → Lists a b f g
  -- the list depends on the two record sets alone: not on parameters, sizes, editions, or the order in
  -- which records came
  pub sets_alone : (a b a' b' : Kept) (f g f' g' : File) → TwoFresh a b f g → TwoFresh a' b' f' g'
      → ((k : ℕ) → record_of k a.held ≡ record_of k a'.held) → ((k : ℕ) → record_of k b.held ≡ record_of k b'.held) → differing a b ≡ differing a' b'
  -- "the closing record alone, with zeros"
  pub alone : (f : Layout) → listing f [] ≡ encode (closing 0 0 0)
  -- "length 20", "length 20", "length 28", "length 16", in the layout in use
  pub long_first : (x : Record) → length (encode (fields in_use (only_first x))) ≡ 20
  pub long_second : (y : Record) → length (encode (fields in_use (only_second y))) ≡ 20
  pub long_unlike : (x y : Record) → length (encode (fields in_use (unlike x y))) ≡ 28
  pub long_closing : (p q r : ℕ) → length (encode (closing p q r)) ≡ 16
