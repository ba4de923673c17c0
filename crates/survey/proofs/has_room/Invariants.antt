-- `survey::has_room` meets its contract. The loop's invariant: what is left over so far goes on
-- through the counts that are left.
use Rattle.std.proofs.Common.{◌≡◌, ◌*◌, ◌≤◌, drop}
use Rattle.placing.specs.Rows.{left_over}
use Rattle.survey.proofs.has_room.Given as goal

abbrev pub invariant-loop-count : goal.invariant-loop-count
invariant-loop-count g l = (l.over ≤ 4294967296 * l.count-index) × (left_over l.slots (drop l.count-index l.row) l.over ≡ left_over l.slots l.row 0)
