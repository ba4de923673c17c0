-- The merge of another file into a living one (02, request 9), for any page layout, any numbers and any
-- bytes. What is quoted is the request's.
use Rattle.std.specs.Prelude.{ℕ, ◌+◌, cond, List, length, eqb, Result, Ok, Err}
use Rattle.std.proofs.Math.Option.{Option, none, some}
use Rattle.layouts.specs.Layout.{Layout, slots_of}
use Rattle.placing.specs.Lay.{taken}
use Rattle.placing.specs.Rows.{counts}
use Rattle.pages.specs.Page.{Record, key, home_for}
use Rattle.pages.specs.Area.{area_from}
use Rattle.rebuild.specs.Relaid.{laid_out}
use Rattle.state.specs.declared.State.{State}
use Rattle.state.specs.declared.Refusal.{Refusal}
use Rattle.state.specs.declared.Done.{Done}
use Rattle.state.specs.State.{homes, holding}
use Rattle.state.specs.Answer as answers
use Rattle.state.specs.Answer.{told}
use Rattle.gates.specs.Gates.{on_gate, check_gate, merge_gate}
use Rattle.sites.specs.declared.Which.{Which}
use Rattle.sites.specs.declared.Which.TheVariants.{First, Second}
use Rattle.sites.specs.Held.{held_in, same, read_over}
use Rattle.sites.specs.Told.{file_of}
use Rattle.two_sets.specs.Union.{union, lowest_clash}
use Rattle.merges.specs.declared.Joined.{Joined}
use Rattle.merges.specs.declared.MergeRefusal.{MergeRefusal}
use Rattle.merges.specs.declared.MergeRefusal.TheVariants.{File, Clash, NoRoom}
use Rattle.merges.specs.declared.MergedNumbers.{MergedNumbers}

-- what a merge answers: that it is done, or why not
abbrev pub Merged : Type 0
Merged = Result Joined MergeRefusal

abbrev pub done : State → Merged → Done Merged
done s answer = record { state = s; answer = answer }

-- with a refusal goes the state that was given
abbrev pub done_of : State → Result (State × Joined) MergeRefusal → Done Merged
done_of s (Ok (next, j)) = done next (Ok j)
done_of s (Err why) = done s (Err why)

-- what a merge comes to: the living file's state with the answer, its area and the row. The other file is
-- never written.
pub record Outcome : Type 0 where
  pub merge : Done Merged
  pub area : List ℕ
  pub row : List ℕ

-- refused, with the living file unchanged, and the row as told
abbrev pub refused : State → (area row : List ℕ) → MergeRefusal → Outcome
refused s area row why = record { merge = done s (Err why); area = area; row = row }

-- a file that is refused, after so many pages of the other
abbrev pub refused_file : State → (area row : List ℕ) → Which → (before : ℕ) → Refusal → Outcome
refused_file s area row which before why = refused s area row (File which why (read_over before (answers.refused why).read))

-- where no key clashes: "The living file ends as the image of both record sets at its own size", or there is
-- no room (7); the row "after success or 7 holds the number of each home over both sets"
unfoldable pub joined : Layout → State → (area : List ℕ) → (both : List Record) → (read : ℕ) → Outcome
joined f s area both read =
    let row = counts (home_for (homes s)) both s.cap 0 in
    cond (eqb (taken (home_for (homes s)) (slots_of f) both s.cap) (length both))
    (record {
      merge = done (holding s (length both)) (Ok (record { read = read }));
      area = area_from f 0 (laid_out (slots_of f) (homes s) s.cap both);
      row = row;
    })
    (refused s area row (NoRoom read))

abbrev pub on_clash : {A : Type 0} → Option ℕ → (ℕ → A) → A → A
on_clash (some k) clash on = clash k
on_clash none clash on = on

-- where both files pass: "13 with the lowest clashing key in the value field, then 7"; all pages of both have
-- been judged
unfoldable pub settled : Layout → State → (area row : List ℕ) → State → (other : List ℕ) → Outcome
settled f s area row t other =
    on_clash (lowest_clash key same (held_in f s area) (held_in f t other))
    (λ k. refused s area row (Clash k (s.cap + t.cap)))
    (joined f s area (union key (held_in f s area) (held_in f t other)) (s.cap + t.cap))

-- "Refusals, in order and with both files unchanged: the living file's 1 and 2, its row's 3, its 4 and 9, the
-- other's 1, 2, 4 and 9, then 13 .., then 7"
unfoldable pub merged : Layout → State → (area row : List ℕ) → State → (other : List ℕ) → Outcome
merged f s area row t other =
    on_gate (merge_gate f s area (length row)) (refused_file s area row First 0)
    (on_gate (check_gate f t other) (refused_file s area row Second s.cap)
    (settled f s area row t other))

-- a file that is refused, in numbers, whatever number tells the file and whatever answer the refusal
abbrev pub refused_numbers : (file : ℕ) → answers.Answer → (read : ℕ) → MergedNumbers
refused_numbers file why read = record { numbers = told (answers.numbers why).refusal (answers.numbers why).page 0 read 0; file = file }

-- an answer in 01's numbers and 02's, with the file that a refusal is about
abbrev pub merged_numbers : Merged → MergedNumbers
merged_numbers (Ok j) = record { numbers = told 0 0 0 j.read 0; file = 0 }
merged_numbers (Err (File which why read)) = record { numbers = told (answers.refused why).refusal (answers.refused why).page 0 read 0; file = file_of which }
merged_numbers (Err (Clash k read)) = record { numbers = told 13 0 k read 0; file = 0 }
merged_numbers (Err (NoRoom read)) = record { numbers = told 7 0 0 read 0; file = 0 }
