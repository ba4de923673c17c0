-- One page of a survey, from its rows of homes and keys; and a row of counts with the records of a
-- page added.
use Rattle.std.specs.Prelude.{ℕ, ◌+◌, ◌-◌, Bool, true, false, cond, ◌&&◌, ◌||◌, Option, Some, None, List, [], ◌∷◌, get_or, set, leb, ltb, eqb}
use Rattle.layouts.specs.Layout.{Layout, slots_of}
use Rattle.placing.specs.Lay.{ranked}
use Rattle.pages.specs.declared.Rank.{Rank}
use Rattle.survey.specs.declared.Seen.{Seen}

-- before the first page
abbrev pub unseen : Seen
unseen = record { image = true; full = true; last = None; records = 0 }

-- whether (home, key) stands after the last record, if there is any
abbrev pub rises_from : Option Rank → (home key : ℕ) → Bool
rises_from None home key = true
rises_from (Some last) home key = ltb (ranked last.home last.key) (ranked home key)

-- after page a of n records
abbrev pub looked : Layout → Seen → (a n : ℕ) → List ℕ → List ℕ → Seen
looked f s a n hs ks =
    cond (eqb n 0)
    (record { image = s.image; full = false; last = s.last; records = s.records + n })
    (record {
      image = s.image && ((s.full || leb a (get_or hs 0 0)) && rises_from s.last (get_or hs 0 0) (get_or ks 0 0));
      full = eqb n (slots_of f);
      last = Some (record { home = get_or hs (n - 1) 0; key = get_or ks (n - 1) 0 });
      records = s.records + n;
    })

-- n more at place j of a row
abbrev pub added : List ℕ → (j n : ℕ) → List ℕ
added row j n = set row j (get_or row j 0 + n)

-- one more for each of these homes
abbrev pub tallied : List ℕ → List ℕ → List ℕ
tallied [] row = row
tallied (j ∷ hs) row = tallied hs (added row j 1)
