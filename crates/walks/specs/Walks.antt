-- The walks of find, put and remove on any bytes (01, 'The walks'). What is quoted is 01's. A page
-- is none where it is broken; b counts the slots of a page; h is the home of a key; n counts the
-- pages read.
use Rattle.std.specs.Prelude.{ℕ, suc, ◌-◌, cond, List, [], ◌∷◌, length, take, get_or, leb, ltb, eqb, Result, Ok, Err}
use Rattle.std.proofs.Math.Option.{Option, none, some}
use Rattle.layouts.specs.Layout.{Layout, slots_of}
use Rattle.placing.specs.Lay.{rank_of, rank_in, ins}
use Rattle.placing.specs.Walks.{ends_on}
use Rattle.pages.specs.Page.{Record, key, value, records_in}
use Rattle.pages.specs.Places.{closed, ahead}
use Rattle.pages.specs.Area.{part_at, pages_from, with_page}
use Rattle.state.specs.declared.Refusal.{Refusal}
use Rattle.state.specs.declared.Refusal.TheVariants.{Broken, Absent, NoRoom}
use Rattle.state.specs.Answer.{Answer, accepted, again}
use Rattle.walks.specs.declared.Met.{Met}
use Rattle.walks.specs.declared.Met.TheVariants.{Found, Ends, AtEnd}

-- the slot that holds a key, with its value; the first of the records stands in slot i
abbrev pub held_at : (k i : ℕ) → List Record → Option (ℕ × ℕ)
held_at k i [] = none
held_at k i (x ∷ rs) = let on = held_at k (suc i) rs in cond (eqb (key x) k) (some (i, value x)) on

abbrev pub on_held : {A : Type 0} → Option (ℕ × ℕ) → (ℕ → ℕ → A) → A → A
on_held (some w) found missed = found w.0 w.1
on_held none found missed = missed

-- what a walk meets, or the broken page that ended it
abbrev pub Walks : Type 0
Walks = Result Met Refusal

module _ (b : ℕ) (h : ℕ → ℕ) where
  -- The walk to a key: "A broken page ends it (4). A page that holds the key ends it with the
  -- value. Otherwise a page that isn't full, or whose last record stands after the sought (home,
  -- key), ends it .. ; so does the end of the area." An ending page is told with the place of the
  -- key there.
  abbrev pub meets : (k a n : ℕ) → List (Option (List Record)) → Walks
  meets k a n [] = Ok (AtEnd n)
  meets k a n (none ∷ ps) = Err (Broken a (suc n))
  meets k a n (some p ∷ ps) =
      let on = meets k (suc a) (suc n) ps in
      on_held (held_at k 0 p) (λ i v. Ok (Found a i (length p) v (suc n)))
      (cond (ends_on (rank_in key h) b (rank_of h k) p) (Ok (Ends a (ahead (rank_in key h) (rank_of h k) p) (length p) (suc n))) on)

-- "Find starts at the home.": the walk in an area of cap pages
unfoldable pub walk : Layout → (ℕ → ℕ) → List ℕ → (cap k : ℕ) → Walks
walk f h area cap k = meets (slots_of f) h k (h k) 0 (pages_from f h area (cap - h k) (h k))

-- Find: what the walk meets is the answer.
abbrev pub find_answer : Walks → Answer
find_answer (Ok (Found a i c v n)) = Ok (accepted v n 0)
find_answer (Ok (Ends a i c n)) = Err (Absent n)
find_answer (Ok (AtEnd n)) = Err (Absent n)
find_answer (Err why) = Err why

-- pages to be written, each with its address and its records
abbrev pub Pages : Type 0
Pages = List (ℕ × List Record)

-- the area with these pages written
abbrev pub writes : Layout → List ℕ → Pages → List ℕ
writes f area [] = area
writes f area (w ∷ ws) = writes f (with_page f area w.0 w.1) ws

-- the whole walk of a put or a remove: the pages to be written, with how many were read and how
-- many records moved, or why not. "every page looked at is judged before any is written"
pub data Walked : Type 0 where
  went : Pages → (read moved : ℕ) → Walked
  stopped : Refusal → Walked

-- one page more to be written, where all went well
abbrev pub and_page : ℕ → List Record → Walked → Walked
and_page a p (went ws n m) = went ((a, p) ∷ ws) n m
and_page a p (stopped why) = stopped why

module _ (b : ℕ) (h : ℕ → ℕ) where
  -- Put, from the ending page on: "the record goes to its place in order on the ending page. If
  -- that page was full, its last record (the new one counted) goes to its place on the next page,
  -- and so on to the first page that wasn't full. Past the end ..: 7."
  abbrev pub carry : (a n m : ℕ) → Record → List (Option (List Record)) → Walked
  carry a n m x [] = stopped (NoRoom n)
  carry a n m x (none ∷ ps) = stopped (Broken a (suc n))
  carry a n m x (some p ∷ ps) =
      let q = ins (rank_in key h) x p in
      let on = carry (suc a) (suc n) (suc m) (get_or q b x) ps in
      cond (ltb (length p) b) (went ((a, q) ∷ []) (suc n) m) (and_page a (take b q) on)

  -- Remove, where page a was full and p is what it still holds: "If the page was full and the next
  -- page exists and its first record has a home no higher than this page, that record comes back to
  -- its place here, and the next page is treated the same way."
  abbrev pub pull_back : (a n m : ℕ) → List Record → List (Option (List Record)) → Walked
  pull_back a n m p [] = went ((a, p) ∷ []) n m
  pull_back a n m p (none ∷ ps) = stopped (Broken (suc a) (suc n))
  pull_back a n m p (some [] ∷ ps) = went ((a, p) ∷ []) (suc n) m
  pull_back a n m p (some (y ∷ q) ∷ ps) =
      let on = pull_back (suc a) (suc n) (suc m) q ps in
      cond (leb (h (key y)) a)
      (and_page a (ins (rank_in key h) y p) (cond (ltb (suc (length q)) b) (went ((suc a, q) ∷ []) (suc n) (suc m)) on))
      (went ((a, p) ∷ []) (suc n) m)

module _ (f : Layout) (h : ℕ → ℕ) where
  -- "Put walks likewise; a found key is 6, with the value held", or a clash (02, request 1: "13 ..
  -- stands where 6 stood in the walk; 6 is now given only for equal values"); "where the walk met
  -- only full pages to the end of the area: 7". The ending page counts once.
  abbrev pub put_met : List ℕ → (cap : ℕ) → Record → Walks → Walked
  put_met area cap x (Ok (Found a i c v n)) = stopped (again (value x) v n)
  put_met area cap x (Err why) = stopped why
  put_met area cap x (Ok (Ends a i c n)) = carry (slots_of f) h a (n - 1) 0 x (pages_from f h area (cap - a) a)
  put_met area cap x (Ok (AtEnd n)) = stopped (NoRoom n)

  unfoldable pub put_walk : List ℕ → (cap : ℕ) → Record → Walked
  put_walk area cap x = put_met area cap x (walk f h area cap (key x))

  -- "Remove finds the key and closes the slots up."
  abbrev pub remove_met : List ℕ → (cap : ℕ) → Walks → Walked
  remove_met area cap (Ok (Found a i c v n)) =
      let p = records_in f (part_at area a) in
      cond (ltb (length p) (slots_of f)) (went ((a, closed i p) ∷ []) n 0) (pull_back (slots_of f) h a n 0 (closed i p) (pages_from f h area (cap - suc a) (suc a)))
  remove_met area cap (Err why) = stopped why
  remove_met area cap (Ok (Ends a i c n)) = stopped (Absent n)
  remove_met area cap (Ok (AtEnd n)) = stopped (Absent n)

  unfoldable pub remove_walk : List ℕ → (cap k : ℕ) → Walked
  remove_walk area cap k = remove_met area cap (walk f h area cap k)
