-- How a put and a remove go in two phases: what the first settles, and what the second writes. That
-- the two together are the walk is proved.
use Rattle.std.specs.Prelude.{ℕ, zero, suc, ◌+◌, ◌-◌, ◌≤◌, ◌<◌, ◌≡◌, Bool, true, false, cond, ◌&&◌, List, [], ◌∷◌, map, length, take, get_or, leb, ltb, eqb, Result, Ok, Err}
use Rattle.std.proofs.Math.Option.{Option, none, some}
use Rattle.layouts.specs.Layout.{in_use, slots_of}
use Rattle.placing.specs.Lay.{rank_of, rank_in, ins}
use Rattle.pages.specs.Page.{Record, key, vacant, home_for, padded, records_in, well_formed, read_page}
use Rattle.pages.specs.Places.{closed, ahead}
use Rattle.pages.specs.Steps.Slots.{backed}
use Rattle.pages.specs.Area.{part_at}
use Rattle.state.specs.declared.Refusal.{Refusal}
use Rattle.state.specs.declared.Refusal.TheVariants.{Broken, NoRoom}
use Rattle.walks.specs.declared.Met.{Met}
use Rattle.walks.specs.declared.Met.TheVariants.{Found, Ends, AtEnd}
use Rattle.walks.specs.declared.Walk.{Walk}
use Rattle.walks.specs.declared.Change.{Change}
use Rattle.walks.specs.Walks.{Walks, Pages, Walked, went, stopped}

-- what a put or a remove is going to do, or why it does nothing
abbrev pub Plan : Type 0
Plan = Result Change Refusal

abbrev pub change : (first at last read : ℕ) → (rises : Bool) → Change
change first at last read rises = record { first = first; at = at; last = last; read = read; rises = rises }

-- how many slots a page has in the files that the code walks
abbrev pub slots : ℕ
slots = slots_of in_use

-- what any bytes hold on a page
abbrev pub held : List ℕ → ℕ → List Record
held area a = records_in in_use (part_at area a)

-- the first record of a page
abbrev pub first_of : List Record → Record
first_of rs = get_or rs 0 vacant

-- the record in the last slot of a page
abbrev pub last_of : List Record → Record
last_of rs = get_or rs 11 vacant

module _ (h : ℕ → ℕ) (area : List ℕ) where
  -- the home of the record in the last slot of the page where a walk ended, or 0
  abbrev pub last_home : Met → ℕ
  last_home (Found a i c v n) = get_or (padded (map (home_for h) (held area a))) 11 0
  last_home (Ends a i c n) = get_or (padded (map (home_for h) (held area a))) 11 0
  last_home (AtEnd n) = 0

  -- a walk with that home
  abbrev pub ended : Walks → Result Walk Refusal
  ended (Ok m) = Ok (record { met = m; last = last_home m })
  ended (Err why) = Err why

  -- page a is good and full, and the last of its records has this home
  abbrev pub FullTo : (a home : ℕ) → Type 0
  FullTo a home = (read_page in_use h a (part_at area a) ≡ some (held area a)) × (length (held area a) ≡ slots) × (home ≡ h (key (last_of (held area a))))

module _ (h : ℕ → ℕ) where
  -- a seam that rises: all slots of a page hold records that stand before the first of the next page
  abbrev pub seam : (p q : List Record) → Bool
  seam p [] = false
  seam p (y ∷ q) = eqb (ahead (rank_in key h) (rank_in key h y) p) slots

  -- the first n seams from page a on rise
  abbrev pub seams : List ℕ → (a n : ℕ) → Bool
  seams area a zero = true
  seams area a (suc n) = seams area a n && seam (held area (a + n)) (held area (suc (a + n)))

  -- so do those between the pages from the first to the last
  abbrev pub rising : List ℕ → (first last : ℕ) → Bool
  rising area first last = seams area first (last - first)

module _ (h : ℕ → ℕ) (area : List ℕ) where
  -- n pages from a on, each with one record more; its last goes on
  abbrev pub poured : (n a : ℕ) → Record → Pages
  poured zero a x = []
  poured (suc n) a x = let q = ins (rank_in key h) x (held area a) in (a, take slots q) ∷ poured n (suc a) (get_or q slots x)

  -- page a with a slot closed up, then the first record of the next page in its place, for n pages;
  -- the last is closed up only
  abbrev pub drawn : (n a slot : ℕ) → Pages
  drawn zero a slot = (a, closed slot (held area a)) ∷ []
  drawn (suc n) a slot = (a, backed slots h (first_of (held area (suc a))) (closed slot (held area a))) ∷ drawn n (suc a) 0

-- told is what a plan tells of the seams, by its last page
module _ (b : ℕ) (told : ℕ → Bool) where
  -- the first phase of a put from page a on: the pages from the first to the one before it are full
  abbrev pub reached : (from at a n : ℕ) → List (Option (List Record)) → Plan
  reached f at a n [] = Err (NoRoom n)
  reached f at a n (none ∷ ps) = Err (Broken a (suc n))
  reached f at a n (some p ∷ ps) = let on = reached f at (suc a) (suc n) ps in cond (ltb (length p) b) (Ok (change f at a (suc n) (told a))) on

  -- the first phase of a remove where page a was full and loses a record; h is the home of a key
  abbrev pub reached_back : (ℕ → ℕ) → (from at a n : ℕ) → List (Option (List Record)) → Plan
  reached_back h f at a n [] = Ok (change f at a n (told a))
  reached_back h f at a n (none ∷ ps) = Err (Broken (suc a) (suc n))
  reached_back h f at a n (some [] ∷ ps) = Ok (change f at a (suc n) (told a))
  reached_back h f at a n (some (y ∷ q) ∷ ps) =
      let on = reached_back h f at (suc a) (suc n) ps in
      cond (leb (h (key y)) a) (cond (ltb (suc (length q)) b) (Ok (change f at (suc a) (suc n) (told (suc a)))) on) (Ok (change f at a (suc n) (told a)))

-- what a plan comes to: the pages that it writes, in each case with what was read and moved
abbrev pub planned : ((n a slot : ℕ) → Pages) → Plan → Walked
planned pages (Ok c) = went (pages (c.last - c.first) c.first c.at) c.read (c.last - c.first)
planned pages (Err why) = stopped why

-- a broken page is one of those that were read
abbrev pub BrokenIn : (cap : ℕ) → Refusal → Type 0
BrokenIn cap why = (a n : ℕ) → why ≡ Broken a n → (a < cap) × (n ≤ cap)

-- where a walk may end
abbrev pub MetIn : (cap : ℕ) → Met → Type 0
MetIn cap (Found a i c v n) = (a < cap) × (i < c) × (c ≤ 12) × (n ≤ suc a)
MetIn cap (Ends a i c n) = (a < cap) × (i < 12) × (c ≤ 12) × (1 ≤ n) × (n ≤ suc a)
MetIn cap (AtEnd n) = n ≤ cap

-- where a walk ends
abbrev pub WalkIn : (cap : ℕ) → Result Walk Refusal → Type 0
WalkIn cap (Ok w) = MetIn cap w.met
WalkIn cap (Err why) = BrokenIn cap why

-- where the walk to a key ends
abbrev pub EndIn : (cap : ℕ) → Walks → Type 0
EndIn cap (Ok m) = MetIn cap m
EndIn cap (Err why) = BrokenIn cap why

-- where a plan of a put begins: the place of the key on the first page
abbrev pub PlacedIn : (ℕ → ℕ) → List ℕ → ℕ → Plan → Type 0
PlacedIn h area k (Ok c) = c.at ≡ ahead (rank_in key h) (rank_of h k) (held area c.first)
PlacedIn h area k (Err why) = Unit {0}

-- where a plan may write
abbrev pub PlanIn : (cap : ℕ) → Plan → Type 0
PlanIn cap (Ok c) = (c.first ≤ c.last) × (c.last < cap) × (c.at < 12)
PlanIn cap (Err why) = Unit {0}

-- the bytes of these pages are well formed
abbrev pub Formed : List ℕ → (first last : ℕ) → Type 0
Formed area first last = (a : ℕ) → first ≤ a → a ≤ last → well_formed in_use a (part_at area a) ≡ true

-- so are those of the pages that a plan changes
abbrev pub FormedIn : List ℕ → Plan → Type 0
FormedIn area (Ok c) = Formed area c.first c.last
FormedIn area (Err why) = Unit {0}

-- and a plan tells whether the seams between them rise
abbrev pub RisesIn : (ℕ → ℕ) → List ℕ → Plan → Type 0
RisesIn h area (Ok c) = c.rises ≡ rising h area c.first c.last
RisesIn h area (Err why) = Unit {0}
