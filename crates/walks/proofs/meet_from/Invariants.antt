-- `walks::meet_from` meets its contract. The outer invariant: what is left of the walk is the whole of
-- it. The inner one: what is left of the page's slots decides as all of them do.
use mathlib.Core.Path.{◌≡◌}
use Prim.Native.Nat.{◌-◌, ◌≤◌}
use Rattle.layouts.specs.Layout.{in_use}
use Rattle.homes.specs.Homes.{home_in}
use Rattle.walks.specs.Walks.{walk}
use Rattle.walks.specs.Steps.Plans.{slots, held}
use Rattle.walks.proofs.Scanning.{ToScan}
use Rattle.walks.proofs.Meeting.{walk_left}
use Rattle.walks.proofs.meet_from.Given as goal

abbrev pub invariant-loop-slot : goal.invariant-loop-slot
invariant-loop-slot l = ToScan (home_in l.shape) l.key (held l.pages.bytes.now l.a) l.slot

abbrev pub invariant-pages : goal.invariant-pages
invariant-pages l = (l.a ≤ l.pages.cap) × (l.read ≤ l.a) × (walk_left (home_in l.shape) l.pages.bytes.now l.pages.cap l.key l.a l.read ≡ walk in_use (home_in l.shape) l.pages.bytes.now l.pages.cap l.key)

abbrev pub decreases-loop-slot : goal.decreases-loop-slot
decreases-loop-slot l = slots - l.slot

abbrev pub decreases-pages : goal.decreases-pages
decreases-pages l = l.pages.cap - l.a
