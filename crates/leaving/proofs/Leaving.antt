-- The turns over the homes of a file that grows: what is left to leave and to count, with what is done, is all.
use mathlib.Core.Path.{◌≡◌, sym, ap, ◌∙◌}
use mathlib.Core.Bool.{Bool, true, false}
use mathlib.Core.List.{List, [], ◌++◌}
use Prim.Native.Nat.{ℕ, suc, ◌+◌, ◌-◌, ◌*◌, ◌/◌, ◌≤◌, ◌<◌}
use native.Mathlib.Numerals.{add-one}
use native.Mathlib.Decide.{dec_lt}
use native.Mathlib.Omega.{arith}
use lib.Dec.{eqb}
use lib.ListN.{length, take, drop, get_or, set, length-append, length-set, length-take}
use lib.Seq.{get_or-set_same, get_or-set_other}
use Rattle.placing.specs.Image.{All}
use Rattle.placing.specs.Lay.{count}
use Rattle.placing.specs.Rows.{at_home}
use Rattle.placing.specs.Steps.Keep.{keep}
use Rattle.placing.proofs.Lists.{all_map, all_take, count-append, count-le}
use Rattle.placing.proofs.Keeping.{keep_append, keep-length, keep-count}
use Rattle.placing.proofs.Rank.{mono}
use Rattle.pages.specs.Page.{key}
use Rattle.entries.specs.declared.Entry.{Entry}
use Rattle.entries.specs.Steps.Entries.{size}
use Rattle.rebuild.specs.Steps.Rebuild.{slots, record_in}
use Rattle.rebuild.proofs.Commuting.{Right, all_drop}
use Rattle.leaving.specs.Steps.Leaving.{homed, going, entered}
use Rattle.leaving.proofs.Segments.{onward, Passed, few, at_place, all_here, split, passed_next}
use Rattle.leaving.proofs.Room.{entered_none, entered-length, entered-append}
use Rattle.leaving.proofs.Going.{going_few}
use Rattle.leaving.proofs.Tagged.{tagged_on, was_in, rank_was, onward_right, onward_few}
use Rattle.leaving.proofs.Growing.{Grows, none_other, none_before, none_higher, all_stay, stay_and_go, home_goes}

-- the entries from page a on, but for the first ones
abbrev pub waiting : (ℕ → ℕ) → (cap : ℕ) → List ℕ → (a over : ℕ) → List Entry
waiting h cap area a over = drop over (onward (tagged_on h area) (cap - a) a)

-- between turns, at page a
pub record Leaving (was h : ℕ → ℕ) (P cap : ℕ) (area : List ℕ) (all : List Entry) (room₀ : List ℕ) (a over at : ℕ) (row room : List ℕ) : Type 0 where
  pub below : a ≤ P
  pub small : length all ≤ slots * cap
  pub passed : Passed (rank_was was) (was_in was) (tagged_on h area) cap a over
  pub ends : at + size * length (keep (homed P) (waiting h cap area a over)) ≡ size * length (keep (homed P) all)
  pub rest : entered room at (keep (homed P) (waiting h cap area a over)) ≡ entered room₀ 0 (keep (homed P) all)
  pub long : length room ≡ length room₀
  pub many : length row ≡ cap
  pub old : (i : ℕ) → a ≤ i → i < cap → get_or row i 0 ≡ at_home (was_in was) i (waiting h cap area a over)
  pub new : (i : ℕ) → i < a → get_or row i 0 ≡ count (homed i) all
  pub still : (i : ℕ) → a ≤ i → i < P → count (homed i) all ≡ count (homed i) (waiting h cap area a over)

module _ {was h : ℕ → ℕ} {P cap : ℕ} {area : List ℕ} {all : List Entry} {room₀ : List ℕ} {a over at : ℕ} {row room : List ℕ} (w : Leaving was h P cap area all room₀ a over at row room) where
  pub not_far : at ≤ size * (slots * cap)
  not_far = omega (arith, w.ends, w.small, keep-length (homed P) all)

  -- page a, which is not the last
  module _ (l : a < P) (m : P < cap) where
    -- those at home here
    abbrev here : ℕ
    here = at_home (was_in was) a (waiting h cap area a over)

    abbrev own : List Entry
    own = take here (waiting h cap area a over)

    -- and the others
    abbrev others : List Entry
    others = waiting h cap area (suc a) (over + here - slots)

    in_rank : (x y : Entry) → rank_was was x ≤ rank_was was y → was_in was x ≤ was_in was y
    in_rank x y = mono key was (record_in x) (record_in y)

    told : get_or row a 0 ≡ here
    told = w.old a (omega arith) (omega arith)

    -- as many as stand on the pages from a on
    pub in_area : over + get_or row a 0 ≤ slots * (cap - a)
    in_area = omega (arith, told, few (rank_was was) (was_in was) in_rank w.passed (omega arith), onward_few h area (cap - a) a)

    parts : waiting h cap area a over ≡ own ++ others
    parts = split (rank_was was) (was_in was) in_rank w.passed (omega arith)

    next : Passed (rank_was was) (was_in was) (tagged_on h area) cap (suc a) (over + here - slots)
    next = passed_next (rank_was was) (was_in was) in_rank w.passed (omega arith)

    own_here : All (λ e. was_in was e ≡ a) own
    own_here = all_here (rank_was was) (was_in was) in_rank w.passed (omega arith)

    own_right : All (Right h) own
    own_right = all_take (Right h) here (waiting h cap area a over) (all_drop (Right h) over (onward (tagged_on h area) (cap - a) a) (onward_right h area (cap - a) a))

    others_right : All (Right h) others
    others_right = all_drop (Right h) (over + here - slots) (onward (tagged_on h area) (cap - suc a) (suc a)) (onward_right h area (cap - suc a) (suc a))

    own_many : length own ≡ here
    own_many = length-take here (waiting h cap area a over) ∙ omega (arith, count-le (λ e. eqb (was_in was e) a) (waiting h cap area a over))

    counted : (on : Entry → Bool) → count on (waiting h cap area a over) ≡ count on own + count on others
    counted on = ap (count on) parts ∙ count-append on own others

    module _ {gives takes : ℕ → Bool} (g : Grows was h gives takes P) where
      -- a turn, whichever of its own go
      module _ (gone : List Entry) (over' at' : ℕ) (row' room' : List ℕ) (is : keep (homed P) own ≡ gone) (o : over' ≡ over + get_or row a 0 - slots) (e : at' ≡ at + size * length gone)
          (f : room' ≡ entered room at gone) (same : length row' ≡ length row) (now : get_or row' a 0 ≡ get_or row a 0 - length gone) (apart : (i : ℕ) → (i ≡ a → ⊥) → get_or row' i 0 ≡ get_or row i 0) where
        kept : keep (homed P) (waiting h cap area a over) ≡ gone ++ keep (homed P) others
        kept = ap (keep (homed P)) parts ∙ keep_append (homed P) own others ∙ ap (λ (es : List Entry). es ++ keep (homed P) others) is

        now_here : get_or row' a 0 ≡ count (homed a) all
        now_here =
            omega (
              arith,
              now,
              told,
              own_many,
              ap length is,
              keep-count (homed P) own,
              stay_and_go g a l own own_right own_here,
              w.still a (omega arith) l,
              counted (homed a),
              none_higher g a l others others_right (all_map (λ x. suc a ≤ was_in was x) (λ x. a < was_in was x) (λ x k. omega arith) others next.high),
            )

        turned : Leaving was h P cap area all room₀ (suc a) (over + here - slots) at' row' room'
        turned = record {
          below = omega arith;
          small = w.small;
          passed = next;
          ends = omega (arith, e, w.ends, ap length kept, length-append gone (keep (homed P) others));
          rest = rw (f, e) (entered-append room at gone (keep (homed P) others) ∙ rw (← kept) w.rest);
          long = ap length f ∙ entered-length room at gone ∙ w.long;
          many = same ∙ w.many;
          old = λ i j k. apart i (λ q. omega arith) ∙ w.old i (omega arith) k ∙ counted (λ x. eqb (was_in was x) i) ∙ omega (arith, none_before g a l own own_right own_here i (omega arith));
          new = λ i j. go i j (dec_lt i a);
          still = λ i j k. w.still i (omega arith) k ∙ counted (homed i) ∙ omega (arith, none_other g a l own own_right own_here i (omega arith) k);
        }
          where
            go : (i : ℕ) → i < suc a → Dec (i < a) → get_or row' i 0 ≡ count (homed i) all
            go i j (yes k) = apart i (λ q. omega arith) ∙ w.new i k
            go i j (no k) =
                let q : i ≡ a = omega arith in
                rw q now_here

        turn : Leaving was h P cap area all room₀ (a + 1) over' at' row' room'
        turn =
            let q : over' ≡ over + here - slots = o ∙ rw told in
            rw (q, add-one) turned

      -- a page that gives
      module _ (on : gives a ≡ true) (to end : ℕ) (room' : List ℕ) (there : to ≡ P) (e : end ≡ at + size * length (going takes area to a (get_or row a 0) over))
          (f : room' ≡ entered room at (going takes area to a (get_or row a 0) over)) where
        abbrev leave : List Entry
        leave = going takes area P a (get_or row a 0) over

        own_gone : keep (homed P) own ≡ leave
        own_gone =
            home_goes g area a on (onward (tagged_on h area) (cap - a) a) (over + here) (few (rank_was was) (was_in was) in_rank w.passed (omega arith))
            (at_place (rank_was was) (was_in was) in_rank w.passed (omega arith)) here over (omega arith) own_here
            ∙ ap (λ (n : ℕ). going takes area P a n over) (sym told)

        ended : end ≡ at + size * length leave
        ended = e ∙ ap (λ (n : ℕ). at + size * length (going takes area n a (get_or row a 0) over)) there

        many_gone : (end - at) / size ≡ length leave
        many_gone = omega (arith, ended)

        pub no_more : (end - at) / size ≤ get_or row a 0
        no_more = omega (arith, many_gone, going_few takes area P a (get_or row a 0) over)

        pub leaving_gives : (over' at' : ℕ) (row' k : List ℕ) → over' ≡ over + get_or row a 0 - slots → at' ≡ end → row' ≡ set row a (get_or row a 0 - (end - at) / size) → k ≡ room'
            → Leaving was h P cap area all room₀ (a + 1) over' at' row' k
        leaving_gives over' at' row' k o p q r =
            turn leave over' at' row' k own_gone o (p ∙ ended) (r ∙ f ∙ ap (λ (n : ℕ). entered room at (going takes area n a (get_or row a 0) over)) there)
            (ap length q ∙ length-set row a (get_or row a 0 - (end - at) / size))
            (rw q (get_or-set_same row a (get_or row a 0 - (end - at) / size) 0 (omega (arith, w.many)) ∙ rw many_gone))
            (λ i n. rw q (get_or-set_other row a i (get_or row a 0 - (end - at) / size) 0 n))

      -- a page that gives none
      pub leaving_keeps : gives a ≡ false → (over' at' : ℕ) (row' k : List ℕ) → over' ≡ over + get_or row a 0 - slots → at' ≡ at → row' ≡ row → k ≡ room
          → Leaving was h P cap area all room₀ (a + 1) over' at' row' k
      leaving_keeps off over' at' row' k o p q r =
          turn [] over' at' row' k (all_stay g a l own own_right own_here off) o (omega arith) (r ∙ sym (entered_none room at)) (ap length q) (rw q (omega arith)) (λ i n. rw q)
