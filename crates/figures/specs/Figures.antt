-- The starred figures of 01, 'Figures to try': what the definitions give beside what 01 prints, as
-- one table.
use Rattle.std.specs.Prelude.{◌≡◌, refl, List, [], ◌∷◌, ◌++◌, map, cond, ℕ, ◌*◌, replicate}
use Rattle.numbers.specs.Little.{little, bytes_of, number_at, written}
use Rattle.numbers.specs.Fields.{encode}
use Rattle.layouts.specs.Layout.{in_use}
use Rattle.draws.specs.Draws.{draw, later}
use Rattle.homes.specs.Homes.{mover, swept, new_page, moved_to, next_groups, steps, params, home}
use Rattle.pages.specs.Page.{key, record_with, page_bytes, records_in, well_formed, read_page, in_memory}
use Rattle.pages.specs.Places.{closed}
use Rattle.pages.specs.Steps.Slots.{opened}
use Rattle.pages.specs.Area.{part_at}
use Rattle.state.specs.declared.Done.{Done}
use Rattle.state.specs.State.{all, in_range, is_due}
use Rattle.state.specs.Answer.{Answer, numbers}
use Rattle.walks.specs.Walks.{walk, put_walk}
use Rattle.survey.specs.Survey.{is_image, surveyed}
use Rattle.rebuild.specs.Relaid.{relaid}
use Rattle.gates.specs.Gates.{gate_of, image_gate, check_gate, grow_gate}
use Rattle.changes.specs.Changes.{Outcome}
use Rattle.register.specs.Calls.{Growth, formatted, stored, has_room, remade, grow_open, grew}

-- "Seed 1: draws"
abbrev draws : List ℕ
draws = map (draw 1) (1 ∷ 2 ∷ 3 ∷ 4 ∷ [])

-- "n0 2, N 8, s 3: groups grow in the order 7, 4, 1, 6, 3, 0, 5, 2": the new page of each of these
-- groups
abbrev grown : List ℕ
grown = map (new_page 3 16 8) (7 ∷ 4 ∷ 1 ∷ 6 ∷ 3 ∷ 0 ∷ 5 ∷ 2 ∷ [])

-- "n0 2, N 2, s 1": the homes of a key at P 4, 5, 6, 7 and 8
abbrev homes : ℕ → List ℕ
homes K = map (λ P. home (params 2 2 1 1) P K) (4 ∷ 5 ∷ 6 ∷ 7 ∷ 8 ∷ [])

-- "Same file: key 42590 is a mover at x = 1, key 42591 isn't": 1 for a mover, 0 for none
abbrev movers : List ℕ
movers = map (λ K. cond (mover (later 1) 2 K 1) 1 0) (42590 ∷ 42591 ∷ [])

-- "P 4: 38 records not due, 39 due": 1 for due, 0 for not
abbrev dues : List ℕ
dues = map (λ r. cond (is_due in_use (record { params = params 2 2 1 1; p = 4; cap = 4; r = r })) 1 0) (38 ∷ 39 ∷ [])

-- a file of n0, N and s all 1 in an area that held other bytes before
abbrev file : (cap : ℕ) → Outcome
file cap = formatted in_use (record { params = params 0 0 0 0; p = 0; cap = 0; r = 0 }) (params 1 1 1 1) cap (replicate (256 * cap) 255)

-- keys put one after the other, each with itself as its value
abbrev put_all : List ℕ → Outcome → Outcome
put_all [] o = o
put_all (k ∷ ks) o = put_all ks (stored in_use o.done.state o.area (record_with k k 0))

-- and then one page more
abbrev grow : Outcome → Growth
grow o = grew in_use o.done.state o.area (replicate 2 0)

-- the refusal of an answer, and what it moved
abbrev refusal : Done Answer → ℕ
refusal d = (numbers d.answer).refusal

abbrev moved_by : Done Answer → ℕ
moved_by d = (numbers d.answer).moved

-- the keys of a page
abbrev keys_on : List ℕ → ℕ → List ℕ
keys_on area a = map key (records_in in_use (part_at area a))

abbrev twelve : List ℕ
twelve = 0 ∷ 1 ∷ 2 ∷ 3 ∷ 4 ∷ 5 ∷ 6 ∷ 7 ∷ 8 ∷ 9 ∷ 10 ∷ 11 ∷ []

-- "Keys 0 to 11, then grow: all twelve on page 1, page 0 empty, moved 12."
abbrev moves : Growth → List (List ℕ)
moves g = (refusal g.done ∷ moved_by g.done ∷ []) ∷ keys_on g.area 0 ∷ keys_on g.area 1 ∷ []

-- "Then key 12 is refused with 7, though page 0 is empty."
abbrev then12 : Growth → List (List ℕ)
then12 g = (refusal (stored in_use g.done.state g.area (record_with 12 12 0)).done ∷ []) ∷ []

-- "Keys 0 to 12 put at P 1: page 0 holds 0 to 11, page 1 holds 12; grow is refused with 7."
abbrev thirteen : Outcome → List (List ℕ)
thirteen o = keys_on o.area 0 ∷ keys_on o.area 1 ∷ (refusal (grow o).done ∷ []) ∷ []

-- "cap 1: the thirteenth key is refused with 7, a held key still gets 6." With another value than
-- its own it gets 13 (02, request 1).
abbrev one_page : Outcome → List (List ℕ)
one_page o = map (λ x. refusal (stored in_use o.done.state o.area x).done) (record_with 12 12 0 ∷ record_with 5 5 0 ∷ record_with 5 12 0 ∷ []) ∷ []

-- what takes no call
abbrev alone : List (List ℕ)
alone = draws ∷ grown ∷ homes 0 ∷ homes 1 ∷ movers ∷ dues ∷ []

-- The table: a row or more for each figure, the keys of a page in a row of their own, as the
-- definitions give it ..
abbrev pub given : List (List ℕ)
given =
    alone
    ++ (moves (grow (put_all twelve (file 2)))
    ++ (then12 (grow (put_all twelve (file 2))) ++ (thirteen (put_all (twelve ++ 12 ∷ []) (file 2)) ++ one_page (put_all twelve (file 1)))))

-- .. and as 01 prints it, with the 13 of 02
abbrev pub printed : List (List ℕ)
printed =
    (16807 ∷ 282475249 ∷ 1622650073 ∷ 984943658 ∷ [])
    ∷ (16 ∷ 17 ∷ 18 ∷ 19 ∷ 20 ∷ 21 ∷ 22 ∷ 23 ∷ [])
    ∷ (0 ∷ 0 ∷ 5 ∷ 6 ∷ 6 ∷ [])
    ∷ (1 ∷ 4 ∷ 4 ∷ 4 ∷ 4 ∷ [])
    ∷ (1 ∷ 0 ∷ [])
    ∷ (0 ∷ 1 ∷ [])
    ∷ (0 ∷ 12 ∷ [])
    ∷ []
    ∷ (0 ∷ 1 ∷ 2 ∷ 3 ∷ 4 ∷ 5 ∷ 6 ∷ 7 ∷ 8 ∷ 9 ∷ 10 ∷ 11 ∷ [])
    ∷ (7 ∷ [])
    ∷ (0 ∷ 1 ∷ 2 ∷ 3 ∷ 4 ∷ 5 ∷ 6 ∷ 7 ∷ 8 ∷ 9 ∷ 10 ∷ 11 ∷ [])
    ∷ (12 ∷ [])
    ∷ (7 ∷ [])
    ∷ (7 ∷ 6 ∷ 13 ∷ [])
    ∷ []

-- the rows that take a run of the calls, each run worked out by itself
run_moves : moves (grow (put_all twelve (file 2))) ≡ ((0 ∷ 12 ∷ []) ∷ [] ∷ twelve ∷ [])
unfolding draw mover swept moved_to next_groups steps home little bytes_of number_at written encode page_bytes records_in well_formed read_page in_memory part_at opened closed all in_range walk put_walk is_image surveyed gate_of image_gate check_gate grow_gate relaid has_room remade grow_open
run_moves = refl

run_then12 : then12 (grow (put_all twelve (file 2))) ≡ ((7 ∷ []) ∷ [])
unfolding draw mover swept moved_to next_groups steps home little bytes_of number_at written encode page_bytes records_in well_formed read_page in_memory part_at opened closed all in_range walk put_walk is_image surveyed gate_of image_gate check_gate grow_gate relaid has_room remade grow_open
run_then12 = refl

run_thirteen : thirteen (put_all (twelve ++ 12 ∷ []) (file 2)) ≡ (twelve ∷ (12 ∷ []) ∷ (7 ∷ []) ∷ [])
unfolding draw mover swept moved_to next_groups steps home little bytes_of number_at written encode page_bytes records_in well_formed read_page in_memory part_at opened closed all in_range walk put_walk is_image surveyed gate_of image_gate check_gate grow_gate relaid has_room remade grow_open
run_thirteen = refl

run_one : one_page (put_all twelve (file 1)) ≡ ((7 ∷ 6 ∷ 13 ∷ []) ∷ [])
unfolding draw mover swept moved_to next_groups steps home little bytes_of number_at written encode page_bytes records_in well_formed read_page in_memory part_at opened closed all in_range walk put_walk is_image surveyed gate_of image_gate check_gate grow_gate relaid has_room remade grow_open
run_one = refl

rows : {a b s t : List (List ℕ)} → a ≡ b → s ≡ t → a ++ s ≡ b ++ t
rows e f = rw (e, f)

pub figures : given ≡ printed
unfolding draw mover swept moved_to next_groups steps home little bytes_of number_at written encode page_bytes records_in well_formed read_page in_memory part_at opened closed all in_range walk put_walk is_image surveyed gate_of image_gate check_gate grow_gate relaid has_room remade grow_open
figures = rows {a = alone} refl (rows run_moves (rows run_then12 (rows run_thirteen run_one)))
