-- A page that is filled from where reading stands.
use mathlib.Core.Path.{◌≡◌, sym, ap, ◌∙◌}
use mathlib.Core.Bool.{true, not}
use mathlib.Core.List.{List, ◌∷◌, ◌++◌, map, append_assoc}
use Prim.Native.Nat.{ℕ, suc, ◌+◌, ◌*◌, ◌^◌, ◌≤◌, ◌<◌}
use native.Mathlib.Numerals.{add-one}
use native.Mathlib.Omega.{arith}
use native.Mathlib.Decide.{dec_lt}
use lib.Dec.{eqb}
use lib.ListN.{length, take, drop, get_or, length-map}
use borrow.Author.Tests.{ltb-true}
use Rattle.layouts.specs.Layout.{in_use}
use Rattle.placing.specs.Steps.Keep.{keep}
use Rattle.placing.proofs.Lists.{count-le}
use Rattle.placing.proofs.Order.{sorted_drop}
use Rattle.placing.proofs.Rows.{below}
use Rattle.pages.specs.Page.{Record, vacant, page_bytes, in_memory}
use Rattle.pages.specs.Steps.Slots.{records_of}
use Rattle.pages.specs.Area.{part_at, with_page}
use Rattle.pages.proofs.Areas.{with_length}
use Rattle.pages.proofs.Memory.{page_records}
use Rattle.pages.proofs.Read.{ready, held_twelve}
use Rattle.entries.specs.declared.Entry.{Entry}
use Rattle.entries.specs.Steps.Entries.{rank, home}
use Rattle.rebuild.specs.Steps.Rebuild.{slots, record_in, hops}
use Rattle.rebuild.proofs.Laying.{home_first, with_front, with_beyond}
use Rattle.sliding.specs.declared.Place.{Place}
use Rattle.sliding.specs.declared.Pulled.{Pulled}
use Rattle.sliding.specs.Steps.Reading.{held, rest, left, stayed, unread, Stands, Stays, Pulls}
use Rattle.sliding.specs.Steps.Closing.{stays, Leaving}
use Rattle.sliding.proofs.Places.{entry_on, rest_first}
use Rattle.sliding.proofs.Coherent.{key_in, gone, Reads, reads, next_stays}
use Rattle.sliding.proofs.Counted.{full_first, taken_length}
use Rattle.sliding.proofs.Onward.{rest_holds, rest_distinct, held_same, rest_same}
use Rattle.sliding.proofs.Closing.{Closing, still_at, L, xs, k, homes_next, onto, inside, next_ahead}

module _ {h : ℕ → ℕ} {P cap : ℕ} {first counts row area : List ℕ} {place : Place} {over moved a : ℕ} (g : Leaving h P cap first counts row)
    (c : Closing h P cap first counts row area place over moved a) (more : a < cap) where
  -- reading may go on in the area as it is
  pub stands_here : Stands area cap row place
  stands_here = record {
    within = c.stands.within;
    slot = λ l. rw (held_same area first a c.ahead place.page c.low) (c.stands.slot l);
    end = c.stands.end;
    inside = c.stands.inside;
    whole = c.stands.whole;
  }

  module _ (want : ℕ) (is : want ≡ k g c) (t : Pulled) (w : Pulls h area cap row place want a t) (s : Stays area cap row place t.place) where
    seen : rest h area cap place.page place.slot ≡ xs g c
    seen = rest_same area first a c.ahead h cap place.page place.slot c.low

    r : Reads (stays P) want (xs g c)
    r = reads (stays P) want (xs g c) (rest_distinct h first cap key_in g.once place.page place.slot c.stands.within)

    far : a ≤ t.place.page
    far = omega (arith, c.low, s.onward)

    -- it takes the first of those that stay
    takes : stayed want (left row place.next) (rest h area cap place.page place.slot) ≡ take (k g c) (L g c)
    takes = rw (seen, c.met) (r.taken ∙ ap (λ (n : ℕ). take n (L g c)) is)

    left_then : rest h first cap t.place.page t.place.slot ≡ unread want (gone (stays P) (xs g c)) (xs g c)
    left_then = sym (rest_same area first a c.ahead h cap t.place.page t.place.slot far) ∙ w.read ∙ rw (seen, c.met)

    met_then : left row t.place.next ≡ gone (stays P) (rest h first cap t.place.page t.place.slot)
    met_then = w.met ∙ rw (seen, c.met, left_then) r.leave

    still_then : still_at h P cap first t.place ≡ drop (k g c) (L g c)
    still_then = rw left_then (r.stay ∙ rw is)

    page_is : t.page ≡ in_memory (map record_in (take (k g c) (L g c)))
    page_is = w.page ∙ rw takes

    moved_is : t.moved ≡ hops a (take (k g c) (L g c))
    moved_is = w.moved ∙ rw takes

    taken_many : length (take (k g c) (L g c)) ≡ k g c
    taken_many = taken_length rank home home_first slots a (L g c) c.sorted

    pub storable : cap ≤ 4096 → (a < 4096) × (256 * (a + 1) ≤ length area) × (t.page.count ≤ 12) × (t.page ≡ in_memory (records_of t.page))
    storable l =
        let q = ready t.page (map record_in (take (k g c) (L g c))) page_is (rw length-map (omega (arith, taken_many))) in
        (omega arith, inside g c more, q.0, q.1)

    hops_few : t.moved ≤ 12
    hops_few = omega (arith, moved_is, count-le (λ e. not (eqb e.from a)) (take (k g c) (L g c)), taken_many)

    pub moved_fits : cap ≤ 4096 → moved + t.moved < 2 ^ 32
    moved_fits l = omega (arith, c.few, hops_few)

    -- all that stay of page a are read then
    pub passed : a < t.place.page
    passed = go (dec_lt a t.place.page)
      where
        go : Dec (a < t.place.page) → a < t.place.page
        go (yes l) = l
        go (no l) =
            let q : t.place.page ≡ a = omega (arith, far) in
            let q' : place.page ≡ a = omega (arith, c.low, s.onward) in
            let below : t.place.page < cap = omega arith in
            let same : held area t.place.page ≡ held first t.place.page = held_same area first a c.ahead t.place.page far in
            let here : t.place.slot < length (held first t.place.page) = rw same at (s.here below) in
            let x : Record = get_or (held first t.place.page) t.place.slot vacant in
            let e : Entry = entry_on h t.place.page x in
            let t' : List Entry = rest h first cap t.place.page (t.place.slot + 1) in
            let one : rest h first cap t.place.page t.place.slot ≡ e ∷ t' = rest_first h first cap t.place.page t.place.slot below here in
            let st : stays P e ≡ true = next_stays (stays P) e t' (left row t.place.next) (rw one at met_then) (rw same at (s.next below)) in
            let head : drop (k g c) (L g c) ≡ e ∷ keep (stays P) t' = sym still_then ∙ rw (one, st) in
            let lies = rw one at (rest_holds h first cap (λ y. home y < P → home y ≤ y.from) g.lies t.place.page t.place.slot s.stands.within) in
            let full : k g c ≡ slots = full_first rank home home_first slots a (L g c) c.sorted e (keep (stays P) t') head (omega (arith, lies.0 (ltb-true (home e) P st))) in
            absurd (omega (arith, w.near (omega arith), ap length takes, taken_many, full, held_twelve in_use (part_at first t.place.page)))

    pub sinking_turn : (new : List ℕ) → new ≡ with_page in_use area a (records_of t.page) → (over' : ℕ) → over' ≡ below home (drop (k g c) (L g c)) (a + 1)
        → Closing h P cap first counts row new t.place over' (moved + t.moved) (a + 1)
    sinking_turn new n over' o = record {
      within = omega arith;
      long = ap length put ∙ with_length in_use area a p (inside g c more) ∙ c.long;
      ahead = rw add-one (ap (drop (256 * suc a)) put ∙ with_beyond area a p (256 * suc a) (inside g c more) (omega arith) ∙ next_ahead g c more area first c.ahead);
      stands = record {
        within = s.stands.within;
        slot = λ l. rw (← held_same area first a c.ahead t.place.page far) (s.stands.slot l);
        end = s.stands.end;
        inside = s.stands.inside;
        whole = s.stands.whole;
      };
      low = omega (arith, passed);
      met = met_then;
      pages = rw (front, still_then, add-one, append_assoc) (rw (onto g c more) at c.pages);
      hopped = rw (still_then, add-one, moved_is) (omega (arith, rw (onto g c more) at c.hopped));
      sorted = rw still_then (sorted_drop rank (k g c) (L g c) c.sorted);
      waits = rw still_then o;
      homes = rw still_then (homes_next g c);
      few = omega (arith, c.few, hops_few);
    }
      where
        p : List Record
        p = map record_in (take (k g c) (L g c))

        put : new ≡ with_page in_use area a p
        put = n ∙ ap (with_page in_use area a) (page_records t.page p page_is)

        front : take (256 * (a + 1)) new ≡ take (256 * a) area ++ page_bytes in_use a p
        front = ap (take (256 * (a + 1))) put ∙ with_front area a p (inside g c more)
