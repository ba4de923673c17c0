-- One turn of the log in code, and the turns of its loop: what each way out comes to.
use mathlib.Core.Path.{◌≡◌, refl, sym, ◌∙◌}
use mathlib.Core.Bool.{Bool, true, false}
use mathlib.Core.List.{List, [], ◌∷◌, ◌++◌, append_assoc, append-nil}
use Prim.Native.Nat.{ℕ, suc, ◌+◌, ◌-◌, ◌*◌, ◌≤◌, ◌<◌}
use native.Mathlib.Nat.{add_assoc, add-zero, zero-add}
use native.Mathlib.Omega.{arith}
use lib.ListN.{length, drop, length-append, length-drop}
use lib.Seq.{drop-drop}
use borrow.Rule.Slice.PartMut.{put_same}
use Rattle.numbers.specs.Little.{written}
use Rattle.numbers.specs.Fields.{Field, width, encode}
use Rattle.numbers.proofs.Laws.{written-nil, written-written}
use Rattle.numbers.proofs.Records.{length-encode}
use Rattle.state.specs.declared.State.{State}
use Rattle.records.proofs.Lent.{from, from-drop, place, placed, placed-written}
use Rattle.commands.specs.declared.Step.{Step}
use Rattle.commands.specs.declared.Step.TheVariants.{Waits, Stops, Goes}
use Rattle.commands.specs.declared.Ran.{Ran}
use Rattle.records.specs.Records.{reply_of, refused_by, bytes_of_all}
use Rattle.commands.specs.Execute.{Site, site, Executed}
use Rattle.commands.specs.Log.{Turn, waits, stops, goes, turn, Log, rests, on_turn, log, ran_of}
use Rattle.commands.specs.Steps.Within.{step_of, site_after, reply_after, Takes, RanIn}

-- what the code gives back of a turn: the step, the space, the row, and the bytes of the reply
abbrev pub Served : Site → (part : List ℕ) → (n : ℕ) → Turn → Step → (space row reply : List ℕ) → Type 0
Served d part n t step space row reply =
    (step ≡ step_of t) × ((space ≡ (site_after d t).space) × ((row ≡ (site_after d t).row) × ((reply ≡ reply_after d part t) × Takes n step)))

-- which turn a step tells of
told_waits : (t : Turn) → Waits ≡ step_of t → t ≡ waits
told_waits waits e = refl
told_waits (stops n) e = cc
told_waits (goes c n) e = cc

told_stops : (t : Turn) → Stops ≡ step_of t → (n : ℕ) × (t ≡ stops n)
told_stops waits e = (0, cc)
told_stops (stops n) e = (n, refl)
told_stops (goes c n) e = (0, cc)

told_goes : (t : Turn) (s : State) (n : ℕ) → Goes s n ≡ step_of t → (c : Executed) × (t ≡ goes c n) × (s ≡ c.site.state)
told_goes waits s n e = absurd (let z : ◌≡◌ {A = ℕ} 0 1 = cc in omega arith)
told_goes (stops m) s n e = absurd (let z : ◌≡◌ {A = ℕ} 0 1 = cc in omega arith)
told_goes (goes c m) s n e = (c, cc, cc)

-- the bytes of replies with one more behind them
bytes_more : (rs : List (List Field)) (r : List Field) → bytes_of_all (rs ++ (r ∷ [])) ≡ bytes_of_all rs ++ encode r
unfolding bytes_of_all
bytes_more [] r = append-nil (encode r)
bytes_more (x ∷ rs) r = rw (bytes_more rs r, append_assoc)

-- a log behind replies that are given and bytes that are taken
abbrev pub behind : List (List Field) → (taken : ℕ) → Log → Log
behind rs n g = record { replies = rs ++ g.replies; site = g.site; taken = n + g.taken; stopped = g.stopped }

-- a log under way: the replies so far stand at the front of the bytes, and the whole log is what is
-- left of it behind them
pub record Going (last : Bool) (room : ℕ) (d : Site) (input given : List ℕ) (e : Site) (now : List ℕ) (taken told : ℕ) : Type 0 where
  pub sofar : List (List Field)
  pub fits : 28 * room ≤ length given
  pub low : told ≤ room
  pub within : taken ≤ length input
  pub space_kept : length e.space ≡ length d.space
  pub row_kept : length e.row ≡ length d.row
  pub replies_kept : length now ≡ length given
  pub many : length sofar ≡ told
  pub wide : length (bytes_of_all sofar) ≡ 28 * told
  pub bytes : now ≡ written given 0 (bytes_of_all sofar)
  pub whole : log last room d input ≡ behind sofar taken (log last (room - told) e (drop taken input))

-- what the code gives back of a log
abbrev pub Ended : Log → (input given : List ℕ) → Ran → (space row now : List ℕ) → Type 0
Ended g input given ran space row now =
    (ran ≡ ran_of g) × ((space ≡ g.site.space) × ((row ≡ g.site.row) × ((now ≡ written given 0 (bytes_of_all g.replies)) × RanIn (length input) (length given) ran)))

abbrev ran_to : State → (taken given : ℕ) → (stopped : Bool) → Ran
ran_to s n m u = record { state = s; taken = n; given = m; stopped = u }

-- before the first turn the whole log is left
pub log_starts : (last : Bool) (room : ℕ) (d : Site) (input given : List ℕ) → 28 * room ≤ length given → Going last room d input given d given 0 0
unfolding bytes_of_all
log_starts last room d input given f =
    let z : room - 0 ≡ room = omega arith in
    record {
      sofar = [];
      fits = f;
      low = omega arith;
      within = omega arith;
      space_kept = refl;
      row_kept = refl;
      replies_kept = refl;
      many = refl;
      wide = refl;
      bytes = sym (written-nil given 0);
      whole = rw (z, zero-add);
    }

module _ {last : Bool} {room : ℕ} {d : Site} {input given : List ℕ} {e : Site} {now : List ℕ} {taken told : ℕ} (g : Going last room d input given e now taken told) where
  -- where nothing is left the log ends
  rests_here : log last (room - told) e (drop taken input) ≡ rests e → Ended (log last room d input) input given (ran_to e.state taken (28 * told) false) e.space e.row now
  rests_here r =
      rw (g.whole, r, append-nil, add-zero, g.many) (refl, (refl, (refl, (g.bytes, (g.within, omega (arith, g.fits, g.low))))))

  -- there is no room for more
  pub log_full : room ≤ told → Ended (log last room d input) input given (ran_to e.state taken (28 * room) false) e.space e.row now
  unfolding log
  log_full l =
      let z : room - told ≡ 0 = omega arith in
      let all : 28 * room ≡ 28 * told = omega (arith, g.low) in
      rw all (rests_here (rw z))

  -- a reply more: how many there are, how many bytes, and which
  module _ (r : List Field) (w : width r ≡ 28) where
    more_many : length (g.sofar ++ (r ∷ [])) ≡ told + 1
    more_many = rw (length-append, g.many)

    more_wide : length (bytes_of_all (g.sofar ++ (r ∷ []))) ≡ 28 * (told + 1)
    more_wide = rw (bytes_more, length-append, g.wide, length-encode, w) (omega arith)

    more_bytes : (v : List ℕ) → v ≡ encode r → placed now told v ≡ written given 0 (bytes_of_all (g.sofar ++ (r ∷ [])))
    more_bytes v e =
        let n : 28 * told ≡ 0 + length (bytes_of_all g.sofar) = omega (arith, g.wide) in
        rw (e, placed-written now (encode r) told (length-encode r ∙ w), n, g.bytes, bytes_more)
        (written-written given 0 (bytes_of_all g.sofar) (encode r) (omega arith))

  -- a turn of the loop
  module _ (k : told < room) (step : Step) (space row reply : List ℕ) (s : Served e (place now told) (length (from input taken)) (turn last e (from input taken)) step space row reply) where
    -- what is left begins with a turn
    one_turn : log last (room - told) e (drop taken input) ≡ on_turn e (turn last e (drop taken input)) (λ f n. log last (room - (told + 1)) f (drop n (drop taken input)))
    unfolding log
    one_turn = let left : room - told ≡ suc (room - (told + 1)) = omega arith in rw left

    -- which the code has served
    served : (t : Turn) → turn last e (drop taken input) ≡ t → Served e (place now told) (length (drop taken input)) t step space row reply
    served t f = rw (from-drop input taken, f) at s

    -- it waits
    pub log_waits : step ≡ Waits → Ended (log last room d input) input given (ran_to e.state taken (28 * told) false) space row (placed now told reply)
    log_waits q =
        let f : turn last e (drop taken input) ≡ waits = told_waits _ (sym q ∙ (served _ refl).0) in
        let h = served waits f in
        rw (h.1.0, h.1.1.0, h.1.1.1.0, put_same) (rests_here (rw (one_turn, f)))

    -- it stops
    stops_by : (n : ℕ) → turn last e (drop taken input) ≡ stops n
        → Ended (log last room d input) input given (ran_to e.state taken (28 * told + 28) true) space row (placed now told reply)
    stops_by n f =
        let h = served (stops n) f in
        let y = reply_of (refused_by n) e.state in
        let m : 28 * (told + 1) ≡ 28 * told + 28 = omega arith in
        rw (h.1.0, h.1.1.0, g.whole, one_turn, f, add-zero, more_many y refl, m)
        (refl, (refl, (refl, (more_bytes y refl reply h.1.1.1.0, (g.within, omega (arith, g.fits))))))

    pub log_stops : step ≡ Stops → Ended (log last room d input) input given (ran_to e.state taken (28 * told + 28) true) space row (placed now told reply)
    log_stops q = let (n, f) = told_stops _ (sym q ∙ (served _ refl).0) in stops_by n f

    -- it goes on
    module _ (a : State) (n : ℕ) (q : step ≡ Goes a n) (u : length space ≡ length e.space) (v : length row ≡ length e.row) (x : length (placed now told reply) ≡ length now) where
      goes_by : (c : Executed) → turn last e (drop taken input) ≡ goes c n → a ≡ c.site.state
          → Going last room d input given (site a space row) (placed now told reply) (taken + n) (told + 1)
      goes_by c f p =
          let h = served (goes c n) f in
          let y = reply_of c.numbers c.site.state in
          let t : n ≤ length (drop taken input) = rw q at h.1.1.1.1 in
          record {
            sofar = g.sofar ++ (y ∷ []);
            fits = g.fits;
            low = omega arith;
            within = omega (arith, g.within, length-drop taken input);
            space_kept = u ∙ g.space_kept;
            row_kept = v ∙ g.row_kept;
            replies_kept = x ∙ g.replies_kept;
            many = more_many y refl;
            wide = more_wide y refl;
            bytes = more_bytes y refl reply h.1.1.1.0;
            whole = g.whole ∙ rw (one_turn, f, p, h.1.0, h.1.1.0, append_assoc, drop-drop, add_assoc);
          }

      pub log_goes : Going last room d input given (site a space row) (placed now told reply) (taken + n) (told + 1)
      log_goes = let (c, f, p) = told_goes _ a n (sym q ∙ (served _ refl).0) in goes_by c f p
