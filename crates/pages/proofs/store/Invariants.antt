-- `pages::store` meets its contract. The loop's invariant says what is left to do: the slots from i
-- on, written behind the others, make the page.
use mathlib.Core.Path.{◌≡◌}
use Prim.Native.Nat.{◌-◌}
use lib.ListN.{length, drop}
use Rattle.numbers.specs.Little.{written}
use Rattle.numbers.specs.Fields.{encode}
use Rattle.layouts.specs.Layout.{slots_of, slot_at}
use Rattle.pages.specs.Page.{slots, page_bytes}
use Rattle.pages.specs.Steps.Slots.{records_of}
use Rattle.pages.proofs.store.Given as goal

abbrev pub invariant-loop-i : goal.invariant-loop-i
invariant-loop-i g l =
    let f = g.L.Layout.layout in
    let rs = records_of l.page in
    (length l.part ≡ 256) × (written l.part (slot_at f l.i) (encode (slots f (slots_of f - l.i) (drop l.i rs))) ≡ page_bytes f l.address rs)
