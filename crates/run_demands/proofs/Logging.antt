-- The log that holds a run's records does what the run does.
use mathlib.Core.Path.{◌≡◌, refl, ◌∙◌}
use mathlib.Core.Bool.{Bool, true, false}
use mathlib.Core.List.{List, [], ◌∷◌, ◌++◌, append-nil}
use Prim.Native.Nat.{ℕ, zero, suc, ◌+◌, ◌*◌, ◌≤◌, ◌<◌, min}
use native.Mathlib.Omega.{arith}
use lib.Dec.{ltb}
use lib.ListN.{length, take, drop, length-take, length-drop, drop_of_length-le}
use lib.Seq.{take_all, take_at, drop_at}
use borrow.Author.Tests.{eq-eqb, ne_eqb, eqb-true, ltb-true, ltb-false}
use Rattle.numbers.specs.Little.{written}
use Rattle.numbers.proofs.Laws.{written-nil}
use Rattle.numbers.proofs.Records.{and_left, and_right}
use Rattle.register.specs.Files.{Call, put, File, left, after}
use Rattle.records.specs.Records.{first_of, is_put, record_in}
use Rattle.records.proofs.ToTheByte.{put_first}
use Rattle.commands.specs.Execute.{Site, site, executed}
use Rattle.commands.specs.Log.{turn, Log, rests, log, whole_log}
use Rattle.commands.proofs.Lending.{written_first}
use Rattle.log_demands.specs.LogDemands.{file_at}
use Rattle.register.proofs.After.{same_layout}
use Rattle.pay_runs.specs.PayRun.{end_to_end, puts_in, replies_to}
use Rattle.pay_runs.proofs.Items.{reply_to}
use Rattle.pay_runs.proofs.PutKeeps.{put_keeps}

-- bytes as long as the first of a space, written over its start, are its first
first_back : (n : ℕ) (space new : List ℕ) → length new ≡ length (take n space) → take n (written space 0 new) ≡ new
unfolding written
first_back n space new e = go (ltb (length space) n) refl
  where
    m : length new ≡ min n (length space)
    m = e ∙ length-take n space

    go : (u : Bool) → ltb (length space) n ≡ u → take n (new ++ drop (0 + length new) space) ≡ new
    go true l =
        let few : length space < n = ltb-true (length space) n l in
        let none : drop (0 + length new) space ≡ [] = drop_of_length-le space {i = 0 + length new} (omega (arith, m, few)) in
        rw (none, append-nil) (take_all n new (omega (arith, m, few)))
    go false l =
        let many : n ≤ length space = ltb-false (length space) n l in
        take_at new (drop (0 + length new) space) n (omega (arith, m, many))

-- and what is written there once more stands in their place
over_again : (l a b : List ℕ) → length b ≡ length a → written (written l 0 a) 0 b ≡ written l 0 b
unfolding written
over_again l a b e =
    rw (drop_at a (drop (0 + length a) l) (0 + length b) (omega arith), e)

-- a site with another file in the place of its own
abbrev pub having : Site → File → Site
having d f = site f.state (written d.space 0 f.area) d.row

-- the same layout and lent size, and as many bytes of area
abbrev SameSize : File → File → Type 0
SameSize f g = (g.layout ≡ f.layout) × (g.state.cap ≡ f.state.cap) × (length g.area ≡ length f.area)

-- puts leave them as they are
pub puts_keep : (f : File) (n : ℕ) (l : List ℕ) → SameSize f (after f (puts_in n l))
unfolding after puts_in
puts_keep f zero l = (refl, refl, refl)
puts_keep f (suc n) l =
    let k = put_keeps f (record_in l) in
    let w = puts_keep (left f (put (record_in l))).file n (drop 20 l) in
    (w.0 ∙ same_layout f (put (record_in l)), w.1 ∙ k.cap, w.2 ∙ k.long)

-- the file at a site that has a file of the same size in the place of its own
pub file_had : (d : Site) (f : File) → SameSize (file_at d) f → file_at (having d f) ≡ f
file_had d f w = rw (w.1, first_back (256 * d.state.cap) d.space f.area w.2, ← w.0)

-- what the log comes to
abbrev pub logged : Site → List Call → (taken : ℕ) → Log
logged d cs n = record { replies = replies_to (file_at d) cs; site = having d (after (file_at d) cs); taken = n; stopped = false }

-- nothing more is asked
log_none : (room : ℕ) (d : Site) (l : List ℕ) → length l ≡ 0 → log true room d l ≡ rests d
unfolding log turn
log_none zero d l e = refl
log_none (suc room) d l e = rw (eq-eqb (length l) 0 e)

-- a put is asked
log-put : (room : ℕ) (d : Site) (l : List ℕ) → is_put (first_of l) ≡ true
    → let o = left (file_at d) (put (record_in l)) in
    log true (suc room) d l ≡ record { replies = reply_to o ∷ (log true room (having d o.file) (drop 20 l)).replies; site = (log true room (having d o.file) (drop 20 l)).site; taken = 20 + (log true room (having d o.file) (drop 20 l)).taken; stopped = (log true room (having d o.file) (drop 20 l)).stopped }
unfolding log turn executed left
log-put room d l u =
    let p = put_first l u in
    rw (ne_eqb (length l) 0 (λ z. omega (arith, p.1)), p.0, written-nil)

-- the log of put records, with room for all replies and more
pub log_puts : (n more : ℕ) (d : Site) (l : List ℕ) → end_to_end n l ≡ true → log true (n + more) d l ≡ logged d (puts_in n l) (20 * n)
unfolding end_to_end puts_in replies_to after
log_puts zero more d l e =
    log_none (0 + more) d l (eqb-true (length l) 0 e) ∙ rw (written_first (256 * d.state.cap) d.space)
log_puts (suc n) more d l e =
    let u : Bool = is_put (first_of l) in
    let v : Bool = end_to_end n (drop 20 l) in
    let g : File = (left (file_at d) (put (record_in l))).file in
    let cs : List Call = puts_in n (drop 20 l) in
    let z : suc n + more ≡ suc (n + more) = omega arith in
    let on = log_puts n more (having d g) (drop 20 l) (and_right u v e) in
    let had : file_at (having d g) ≡ g = let k = put_keeps (file_at d) (record_in l) in file_had d g (same_layout (file_at d) (put (record_in l)), k.cap, k.long) in
    let same : length (after g cs).area ≡ length g.area = (puts_keep g n (drop 20 l)).2 in
    let m : 20 * suc n ≡ 20 + 20 * n = omega arith in
    rw (z, log-put (n + more) d l (and_left u v e), on, had, over_again d.space g.area (after g cs).area same, m)

-- put records end to end are 20 bytes each
end_length : (n : ℕ) (l : List ℕ) → end_to_end n l ≡ true → length l ≡ 20 * n
unfolding end_to_end
end_length zero l e = eqb-true (length l) 0 e
end_length (suc n) l e =
    let u : Bool = is_put (first_of l) in
    let v : Bool = end_to_end n (drop 20 l) in
    omega (arith, (put_first l (and_left u v e)).1, length-drop 20 l, end_length n (drop 20 l) (and_right u v e))

-- the whole log of a run's records
pub whole_puts : (n : ℕ) (d : Site) (l : List ℕ) → end_to_end n l ≡ true → whole_log d l ≡ logged d (puts_in n l) (length l)
whole_puts n d l e =
    let k : length l ≡ 20 * n = end_length n l e in
    let m : length l ≡ n + 19 * n = omega arith in
    rw (m, log_puts n (19 * n) d l e) (rw (← m, k))
