-- Keys on their way home, each with its page kept as a turn in a group. A step between code and
-- definition.
use Rattle.std.specs.Prelude.{ℕ, ◌+◌, ◌-◌, ◌*◌, ◌/◌, ◌%◌, ◌<◌, ◌≡◌, Bool, cond, ◌&&◌, get_or, ltb, eqb}
use Rattle.homes.specs.declared.Stage.{Stage}
use Rattle.homes.specs.declared.lane.Lane.{Lane}
use Rattle.homes.specs.declared.lanes.Lanes.{Lanes}
use Rattle.homes.specs.Homes.{swept}

-- the lane of a page, with G groups, and the page of a lane
abbrev pub lane_at : (G a : ℕ) → Lane
lane_at G a = record { turn = a / G; group = a % G }

abbrev pub address_of : (G : ℕ) → Lane → ℕ
address_of G l = l.turn * G + l.group

-- a turn below eight, and one of G groups
abbrev pub InGroup : (G : ℕ) → Lane → Type 0
InGroup G l = (l.turn < 8) × (l.group < G)

-- the same page with twice as many groups as G
abbrev pub regrouped : (G : ℕ) → Lane → Lane
regrouped G l = record { turn = l.turn / 2; group = l.turn % 2 * G + l.group }

-- the lane of its group's new page, which is so far behind size F = np x G
abbrev pub aimed : (s G np : ℕ) → Lane → Lane
aimed s G np l = record { turn = np; group = swept s 0 G (G - 1 - l.group) }

-- a step: for a mover whose new page is below P, that page
unfoldable pub stepped_to : (s P : ℕ) → Stage → Bool → Lane → Lane
stepped_to s P t moves l = let new = aimed s t.g t.np l in cond (moves && ltb (t.f + new.group) P) new l

-- a step as if every new page were there, where 1 says that the key is a mover
unfoldable pub gone_to : (s G np moves : ℕ) → Lane → Lane
gone_to s G np m l = cond (eqb m 1) (aimed s G np l) l

-- a page that is below P, or else the one before it
abbrev pub picked : (P after before : ℕ) → ℕ
picked P after before = cond (ltb after P) after before

-- lane i of many, and that its page is kept beside it
abbrev pub lane_of : Lanes → ℕ → Lane
lane_of ls i = record { turn = get_or ls.turns i 0; group = get_or ls.groups i 0 }

abbrev pub Placed : (G : ℕ) → Lanes → ℕ → Type 0
Placed G ls i = InGroup G (lane_of ls i) × (get_or ls.pages i 0 ≡ address_of G (lane_of ls i))
