-- The records of two areas as entries at the top end of one, and laid on its pages.
use mathlib.Core.Path.{◌≡◌, refl, sym, ap, ◌∙◌}
use mathlib.Core.Option.{Option}
use mathlib.Core.List.{List, [], ◌∷◌, ◌++◌, map, map-append}
use Prim.Native.Nat.{ℕ, zero, suc, ◌+◌, ◌-◌, ◌*◌, ◌/◌, ◌^◌, ◌≤◌, ◌<◌}
use native.Mathlib.Omega.{arith}
use lib.ListN.{length, take, drop, length-append, length-map}
use lib.Seq.{drop_at, length-take-le}
use Rattle.numbers.specs.Little.{Bytes}
use Rattle.layouts.specs.Layout.{in_use}
use Rattle.homes.specs.Homes.{home_in}
use Rattle.placing.specs.Image.{All, Distinct, RecordSet, cat}
use Rattle.placing.specs.Lay.{sort, lay, taken}
use Rattle.placing.proofs.Lists.{all_append}
use Rattle.pages.specs.Page.{Record, key, home_for}
use Rattle.pages.specs.Small.{Small}
use Rattle.pages.specs.Steps.Known.{KnownHere}
use Rattle.pages.specs.Area.{part_at, held_from, area_from}
use Rattle.pages.proofs.Bounds.{part_small}
use Rattle.pages.proofs.Read.{held_few}
use Rattle.entries.specs.declared.Entry.{Entry}
use Rattle.entries.specs.Steps.Entries.{size, entries_in, row_bytes, rank, home}
use Rattle.entries.proofs.Entries.{SizedEntry}
use Rattle.entries.proofs.Rows.{row_length, row_append, entries_row}
use Rattle.rebuild.specs.Relaid.{laid_out}
use Rattle.rebuild.specs.Steps.Rebuild.{slots, tagged_from, tagged, packed, record_in}
use Rattle.rebuild.proofs.Tags.{home_small}
use Rattle.rebuild.proofs.Packing.{on_page, parts_from, Above, above_length, above_room, below_same}
use Rattle.rebuild.proofs.Commuting.{Right, pages_right, pages_records, taken_records, distinct_records, entries_laid}
use Rattle.rebuild.proofs.Fitting.{tagged_fit, held_fit}
use Rattle.sites.specs.declared.Site.{Site}
use Rattle.sites.specs.Steps.Sites.{pages_at, Walkable, look}
use Rattle.two_sets.specs.Steps.Lowest.{lacking}
use Rattle.two_sets.proofs.Lowest.{lacking-append, lacking_all, lacking-length}
use Rattle.unions.specs.Steps.Both.{lacking_on, both_of, lacking_entries}

-- what is lacking of each page
abbrev pub partly : (look : ℕ → Option Record) → List ℕ → ℕ → List Record
partly look l i = lacking key look (on_page l i)

pub partly_few : (look : ℕ → Option Record) (l : List ℕ) (i : ℕ) → length (partly look l i) ≤ slots
partly_few look l i = omega (arith, lacking-length key look (on_page l i), held_few in_use (part_at l i))

partly_pages : (look : ℕ → Option Record) (l : List ℕ) (n a : ℕ) → parts_from (partly look l) n a ≡ map (lacking key look) (held_from in_use l n a)
partly_pages look l zero a = refl
partly_pages look l (suc n) a = ap (λ (ps : List (List Record)). partly look l a ∷ ps) (partly_pages look l n (suc a))

-- what all pages lack is what their records lack
partly_cat : (look : ℕ → Option Record) (ps : List (List Record)) → cat (map (lacking key look) ps) [] ≡ lacking key look (cat ps [])
partly_cat look [] = refl
partly_cat look (p ∷ ps) = rw (partly_cat look ps) (sym (lacking-append key look p (cat ps [])))

-- what is known of a page is known where it and the one before it are as they were
pub here_still : (h : ℕ → ℕ) (l m : List ℕ) (a : ℕ) → ((b : ℕ) → b ≤ a → part_at m b ≡ part_at l b) → KnownHere in_use h l a → KnownHere in_use h m a
here_still h l m zero e k = rw (e 0 (omega arith)) k
here_still h l m (suc a) e k = rw (e (suc a) (omega arith), e a (omega arith)) k

-- while the pages are packed downward, those below stand as they did
module _ (here : Site) (area : List ℕ) (look : ℕ → Option Record) (w : Walkable area here) (a at : ℕ) (m : List ℕ)
    (s : Above (partly look area) (home_in here.shape) here.cap area (256 * here.cap) a at m) where
  pub still_long : length m ≡ 256 * here.cap
  still_long = above_length _ _ _ area _ _ _ m (omega (arith, w.long)) s ∙ w.long

  pub still_stands : (b : ℕ) → b < a → part_at m b ≡ part_at area b
  still_stands = below_same _ _ _ area _ _ _ m (omega (arith, w.long)) s (partly_few look area) refl

  pub still_known : 0 < a → KnownHere in_use (home_in here.shape) m (a - 1)
  still_known z = here_still (home_in here.shape) area m (a - 1) (λ b k. still_stands b (omega arith)) (w.known (a - 1) (omega (arith, s.within)))

  pub still_room : 0 < a → (n : ℕ) → n ≤ slots → size * n ≤ at
  still_room z n k = omega (arith, above_room _ _ _ area _ _ _ m (omega (arith, w.long)) s (partly_few look area) refl)

module _ (here : Site) (area : List ℕ) (there : Site) (other : List ℕ) where
  abbrev h : ℕ → ℕ
  h = home_in here.shape

  -- the entries of what is lacking of each page
  pub partly_entries : tagged_from h 0 (parts_from (partly (look there other) area) here.cap 0) ≡ lacking_entries here area there other
  unfolding lacking_entries
  partly_entries = ap (tagged_from h 0) (partly_pages (look there other) area here.cap 0)

  lacking_right : All (Right h) (lacking_entries here area there other)
  unfolding lacking_entries
  lacking_right = pages_right h 0 (map (lacking key (look there other)) (pages_at here area))

  lacking_records : map record_in (lacking_entries here area there other) ≡ lacking_on here area there other
  unfolding lacking_entries
  lacking_records = pages_records h 0 (map (lacking key (look there other)) (pages_at here area)) ∙ partly_cat (look there other) (pages_at here area)

  -- the entries of both
  abbrev pub entries_of_both : List Entry
  entries_of_both = packed h there.cap other ++ lacking_entries here area there other

  both_right : All (Right h) entries_of_both
  unfolding packed
  both_right = all_append (Right h) (packed h there.cap other) (lacking_entries here area there other) (pages_right h 0 (pages_at there other)) lacking_right

  both_records : map record_in entries_of_both ≡ both_of here area there other
  unfolding packed
  both_records = map-append record_in (packed h there.cap other) (lacking_entries here area there other) ∙ rw (pages_records h 0 (pages_at there other), lacking_records)

  both_length : length entries_of_both ≡ length (both_of here area there other)
  both_length = sym (length-map entries_of_both record_in) ∙ ap length both_records

-- such entries fit their bytes
lacking_fit : (h : ℕ → ℕ) (look : ℕ → Option Record) (l : List ℕ) (n a : ℕ) → ((k : ℕ) → h k < 2 ^ 16) → Bytes l → 256 * (a + n) ≤ length l → a + n ≤ 4096
    → All SizedEntry (tagged_from h a (map (lacking key look) (held_from in_use l n a)))
lacking_fit h look l zero a low b e m = tt
lacking_fit h look l (suc n) a low b e m =
    all_append SizedEntry (tagged h a (partly look l a)) (tagged_from h (suc a) (map (lacking key look) (held_from in_use l n (suc a))))
    (tagged_fit h a (partly look l a) low (omega arith) (lacking_all key (Small in_use) look (on_page l a) (part_small in_use l a (omega arith) b)))
    (lacking_fit h look l n (suc a) low b (omega arith) (omega arith))

-- pages take twelve records each at most
taken_most : (home : Record → ℕ) (rs : List Record) (n : ℕ) → taken home slots rs n ≤ slots * n
taken_most home rs zero = omega arith
taken_most home rs (suc n) = omega (arith, taken_most home rs n)

-- the entries of both stand in an area from a base on, with room, and are laid as both files' records are
pub record Standing (here : Site) (both : List Record) (base : ℕ) (k : List ℕ) : Type 0 where
  pub low : base ≤ 256 * here.cap
  pub whole : 256 * here.cap ≡ base + size * ((256 * here.cap - base) / size)
  pub long : length k ≡ 256 * here.cap
  pub once : Distinct rank (entries_in (drop base k))
  pub room : taken home slots (entries_in (drop base k)) here.cap ≡ length (entries_in (drop base k))
  pub many : (256 * here.cap - base) / size ≡ length both
  pub few : length both ≤ slots * here.cap
  pub laid : area_from in_use 0 (map (map record_in) (lay home slots here.cap 0 (sort rank (entries_in (drop base k))))) ≡ area_from in_use 0 (laid_out slots (home_in here.shape) here.cap both)

-- both packed, where they are a set that has room
module _ (here : Site) (area : List ℕ) (there : Site) (other : List ℕ) (w : Walkable area here) (v : Walkable other there) (b : Bytes area) (b' : Bytes other)
    (set : RecordSet key (both_of here area there other))
    (room : taken (home_for (home_in here.shape)) slots (both_of here area there other) here.cap ≡ length (both_of here area there other)) where
  abbrev lack : List Entry
  lack = lacking_entries here area there other

  abbrev all : List Entry
  all = packed (home_in here.shape) there.cap other

  abbrev es : List Entry
  es = entries_of_both here area there other

  low : (k : ℕ) → home_in here.shape k < 2 ^ 16
  low k = home_small here.shape k _ w.ready refl

  sized : All SizedEntry es
  unfolding packed lacking_entries
  sized =
      all_append SizedEntry all lack (held_fit (home_in here.shape) other there.cap 0 low b' (omega (arith, v.long)) (omega (arith, v.few)))
      (lacking_fit (home_in here.shape) (look there other) area here.cap 0 low b (omega (arith, w.long)) (omega (arith, w.few)))

  most : length es ≤ slots * here.cap
  most = omega (arith, both_length here area there other, room, taken_most (home_for (home_in here.shape)) (both_of here area there other) here.cap)

  parts : length es ≡ length all + length lack
  parts = length-append all lack

  module _ (top : ℕ) (t : top ≡ 256 * here.cap - size * length lack) (m : List ℕ) (e : m ≡ take top area ++ row_bytes lack) where
    front : length (take top area) ≡ top
    front = length-take-le top area (omega (arith, t, w.long))

    first_length : length m ≡ 256 * here.cap
    first_length = rw e (omega (arith, length-append (take top area) (row_bytes lack), front, row_length lack, t, most, parts))

    -- the other's have room below
    pub all_room : (top ≤ length m) × (size * length all ≤ top)
    all_room = (omega (arith, first_length, t), omega (arith, t, most, parts))

    module _ (base : ℕ) (s : base ≡ top - size * length all) (k : List ℕ) (f : k ≡ take base m ++ (row_bytes all ++ drop top m)) where
      begins : base + size * length es ≡ 256 * here.cap
      begins = omega (arith, s, t, most, parts)

      rows : k ≡ take base m ++ row_bytes es
      rows = f ∙ rw (ap (drop top) e ∙ drop_at (take top area) (row_bytes lack) top front) (ap (λ (x : List ℕ). take base m ++ x) (sym (row_append all lack)))

      below : length (take base m) ≡ base
      below = length-take-le base m (omega (arith, first_length, begins))

      -- the entries that stand there
      stand : entries_in (drop base k) ≡ es
      stand = rw (rows, drop_at (take base m) (row_bytes es) base below) (entries_row es sized)

      pub both_stand : Standing here (both_of here area there other) base k
      both_stand =
          let h = home_in here.shape in
          let right = both_right here area there other in
          let records = both_records here area there other in
          let many = both_length here area there other in
          let as_laid = entries_laid h es right here.cap in
          record {
            low = omega (arith, begins);
            whole = omega (arith, begins);
            long = rw rows (omega (arith, length-append (take base m) (row_bytes es), below, row_length es, begins));
            once = rw stand (distinct_records h es right (rw records set));
            room = rw stand (taken_records h slots es right here.cap ∙ rw records room ∙ sym many);
            many = omega (arith, begins, many);
            few = omega (arith, most, many);
            laid = rw stand (rw (as_laid, records));
          }
