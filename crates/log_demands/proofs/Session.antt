-- 01's whole session, worked out by the definitions: bytes in, bytes out, and the file that it
-- leaves. So the demands of a log speak of something.
use mathlib.Core.Path.{◌≡◌, refl}
use mathlib.Core.Bool.{true}
use mathlib.Core.List.{List, [], ◌∷◌, ◌++◌}
use Prim.Native.Nat.{ℕ}
use lib.ListN.{replicate}
use Rattle.layouts.specs.Layout.{in_use}
use Rattle.homes.specs.Homes.{params}
use Rattle.numbers.specs.Little.{Bytes, little, bytes_of, number_at, written}
use Rattle.numbers.specs.Fields.{encode}
use Rattle.numbers.proofs.Laws.{bytes_append}
use Rattle.numbers.proofs.Records.{bytes_encode}
use Rattle.draws.specs.Draws.{draw}
use Rattle.homes.specs.Homes.{mover, swept, moved_to, next_groups, steps, home}
use Rattle.pages.specs.Page.{record_with, page_bytes, records_in, well_formed, read_page}
use Rattle.pages.specs.Places.{closed}
use Rattle.pages.specs.Area.{part_at}
use Rattle.state.specs.State.{all, in_range}
use Rattle.walks.specs.Walks.{walk, put_walk, remove_walk}
use Rattle.gates.specs.Gates.{gate_of}
use Rattle.register.specs.Files.{left}
use Rattle.demands.specs.Histories.{Kept}
use Rattle.records.specs.declared.Command.TheVariants.{Put, Find}
use Rattle.records.specs.Records.{form_of, first_of, layout_of, short_of, bytes_of_all}
use Rattle.commands.specs.Execute.{Site, site, executed}
use Rattle.commands.specs.Log.{turn, log, whole_log}
use Rattle.log_demands.specs.LogDemands.{asked, kept_by, no_file, After}

-- two pages and a row of zeros, and no file yet
abbrev start : Site
start = site no_file (replicate 512 0) (0 ∷ 0 ∷ [])

-- "Whole session, hex. In:"
abbrev input : List ℕ
input =
    12 ∷ 0 ∷ 1 ∷ 1 ∷ 1 ∷ 0 ∷ 1 ∷ 0 ∷ 1 ∷ 0 ∷ 2 ∷ 0
    ∷ 20 ∷ 0 ∷ 2 ∷ 1 ∷ 5 ∷ 0 ∷ 0 ∷ 0 ∷ 0 ∷ 0 ∷ 0 ∷ 0 ∷ 9 ∷ 0 ∷ 0 ∷ 0 ∷ 0 ∷ 0 ∷ 0 ∷ 0
    ∷ 12 ∷ 0 ∷ 3 ∷ 1 ∷ 5 ∷ 0 ∷ 0 ∷ 0 ∷ 0 ∷ 0 ∷ 0 ∷ 0
    ∷ []

-- "Out:"
abbrev output : List ℕ
output =
    28 ∷ 0 ∷ 1 ∷ 2 ∷ 0 ∷ 0 ∷ 0 ∷ 0 ∷ 0 ∷ 0 ∷ 0 ∷ 0 ∷ 0 ∷ 0 ∷ 0 ∷ 0 ∷ 0 ∷ 0 ∷ 0 ∷ 0 ∷ 0 ∷ 0 ∷ 0 ∷ 0 ∷ 1 ∷ 0 ∷ 0 ∷ 0
    ∷ 28 ∷ 0 ∷ 1 ∷ 2 ∷ 0 ∷ 0 ∷ 0 ∷ 0 ∷ 0 ∷ 0 ∷ 0 ∷ 0 ∷ 0 ∷ 0 ∷ 0 ∷ 0 ∷ 1 ∷ 0 ∷ 0 ∷ 0 ∷ 0 ∷ 0 ∷ 0 ∷ 0 ∷ 1 ∷ 0 ∷ 0 ∷ 0
    ∷ 28 ∷ 0 ∷ 1 ∷ 2 ∷ 0 ∷ 0 ∷ 0 ∷ 0 ∷ 9 ∷ 0 ∷ 0 ∷ 0 ∷ 0 ∷ 0 ∷ 0 ∷ 0 ∷ 1 ∷ 0 ∷ 0 ∷ 0 ∷ 0 ∷ 0 ∷ 0 ∷ 0 ∷ 1 ∷ 0 ∷ 0 ∷ 0
    ∷ []

pub session : bytes_of_all (whole_log start input).replies ≡ output
unfolding draw mover swept moved_to next_groups steps home little bytes_of number_at written encode page_bytes records_in well_formed read_page part_at closed all in_range walk put_walk remove_walk gate_of left form_of first_of executed turn log bytes_of_all
session = refl

-- what it keeps: one record on one of two pages
abbrev outcome : Kept
outcome = record { layout = in_use; params = params 1 1 1 1; cap = 2; p = 1; held = record_with 5 9 0 ∷ [] }

-- the session's bytes are those of its three commands
bytes : Bytes input
unfolding bytes_of encode
bytes =
    bytes_append (encode (short_of (params 1 1 1 1) 2)) (encode (layout_of (Put (record_with 5 9 0))) ++ encode (layout_of (Find 5))) (bytes_encode (short_of (params 1 1 1 1) 2))
    (bytes_append (encode (layout_of (Put (record_with 5 9 0)))) (encode (layout_of (Find 5))) (bytes_encode (layout_of (Put (record_with 5 9 0)))) (bytes_encode (layout_of (Find 5))))

pub session_after : After outcome (whole_log start input).site
unfolding draw mover swept moved_to next_groups steps home little bytes_of number_at written encode page_bytes records_in well_formed read_page part_at closed all in_range walk put_walk remove_walk gate_of left form_of first_of executed asked kept_by
session_after = record { last = true; room = 44; start = start; input = input; bytes = bytes; keeps = refl; leaves = refl }
