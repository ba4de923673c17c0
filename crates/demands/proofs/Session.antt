-- A history with every call in it, from bytes that are no file: so the demands speak of something.
use mathlib.Core.Path.{refl}
use mathlib.Core.List.{List, [], ◌∷◌}
use native.Mathlib.Omega.{arith}
use lib.ListN.{replicate}
use Rattle.layouts.specs.Layout.{in_use}
use Rattle.homes.specs.Homes.{params}
use Rattle.numbers.specs.Little.{little, bytes_of, number_at, written}
use Rattle.numbers.specs.Fields.{encode}
use Rattle.draws.specs.Draws.{draw}
use Rattle.homes.specs.Homes.{mover, swept, moved_to, next_groups, steps, home}
use Rattle.pages.specs.Page.{record_with, page_bytes, records_in, well_formed, read_page}
use Rattle.pages.specs.Places.{closed}
use Rattle.pages.specs.Area.{part_at}
use Rattle.state.specs.State.{all, in_range}
use Rattle.walks.specs.Walks.{walk, put_walk, remove_walk}
use Rattle.survey.specs.Survey.{is_image, surveyed}
use Rattle.rebuild.specs.Relaid.{relaid}
use Rattle.gates.specs.Gates.{gate_of, image_gate, check_gate, grow_gate, shrink_gate}
use Rattle.register.specs.Calls.{has_room, remade, grow_open}
use Rattle.register.specs.Files.{Call, format, find, put, remove, grow, shrink, check, due, File, left, after}
use Rattle.demands.specs.Histories.{Kept, without, kept}
use Rattle.demands.specs.Demands.{Fresh}

abbrev start : File
start = record { layout = in_use; state = record { params = params 0 0 0 0; p = 0; cap = 0; r = 0 }; area = replicate 512 255 }

-- 01's whole session first; then a repeat and a clash, a record more, a removal, one page more, one less and one more
abbrev calls : List Call
calls = format (params 1 1 1 1) 2 ∷ put (record_with 5 9 0) ∷ find 5 ∷ put (record_with 5 9 0) ∷ put (record_with 5 8 0) ∷ put (record_with 7 1 0) ∷ remove 5 ∷ grow (0 ∷ 0 ∷ []) ∷ shrink ∷ grow (0 ∷ 0 ∷ []) ∷ check ∷ due ∷ []

-- it keeps one record, on two pages
abbrev outcome : Kept
outcome = record { layout = in_use; params = params 1 1 1 1; cap = 2; p = 2; held = record_with 7 1 0 ∷ [] }

pub session : Fresh outcome (after start calls)
unfolding draw mover swept moved_to next_groups steps home little bytes_of number_at written encode page_bytes records_in well_formed read_page part_at closed all in_range walk put_walk remove_walk is_image surveyed gate_of image_gate check_gate grow_gate shrink_gate relaid has_room remade grow_open left after without kept
session =
    record {
      start = start;
      calls = calls;
      fits = (tt, ((omega arith, omega arith, refl), (omega arith, ((omega arith, omega arith, refl), ((omega arith, omega arith, refl), ((omega arith, omega arith, refl), (omega arith, (tt, (tt, (tt, (tt, (tt, tt))))))))))));
      keeps = refl;
      leaves = refl;
    }
