use mathlib.Core.Path.{refl, ap, ◌∙◌}
use native.Mathlib.Omega.{arith}
use borrow.Author.Rules.{rules}
use Rattle.homes.specs.Homes.{home_in}
use Rattle.pages.specs.Page.{value}
use Rattle.walks.proofs.Scanning.{slot_after, slot_used, slot_hit, slot_on}
use Rattle.walks.proofs.Meeting.{Seen, page_few, page_last, page_rows, page_tested, walk_starts, walk_sick, walk_found, walk_ends, walk_on, walk_told, walk_refused}
use Rattle.walks.proofs.meet_from.Goals as goal

pub pages-init : goal.pages-init
pages-init c =
    let a = c.args in
    (omega arith, omega arith, walk_starts (home_in a.shape) a.pages.bytes.now a.pages.cap a.key a.home 0 c.requires.1 refl)

pub loop-slot-preserved : goal.loop-slot-preserved
loop-slot-preserved c =
    let s : Seen (home_in c.args.shape) c.args.pages.bytes.now c.args.pages.cap c.pages.a _ = record { lies = c.if-pages-a.false; is = c.judge.ensures } in
    let t = page_tested s c.in-Some.is (omega arith) c.args.pages.small c.loop-slot.invariant (omega arith) c.requires.1 (search rules) in
    slot_on t c.if-is_past.false c.if-keys-slot.false

pub pages-preserved : goal.pages-preserved
pages-preserved c =
    let s : Seen (home_in c.args.shape) c.args.pages.bytes.now c.args.pages.cap c.pages.a _ = record { lies = c.if-pages-a.false; is = c.judge.ensures } in (
      omega arith,
      omega arith,
      walk_on s c.args.key c.pages.read c.in-Some.is (page_rows s c.in-Some.is (omega arith) c.args.pages.small) (omega arith) c.loop-slot.invariant c.loop-slot-test.false ∙ c.pages.invariant.2,
    )

pub returns-in_default-clause-value : goal.returns-in_default-clause-value
returns-in_default-clause-value c =
    let s : Seen (home_in c.args.shape) c.args.pages.bytes.now c.args.pages.cap c.pages.a _ = record { lies = c.if-pages-a.false; is = c.judge.ensures } in
    walk_refused (home_in c.args.shape) c.args.pages.bytes.now _ _ (walk_sick s c.args.key c.pages.read c.in_default.is ∙ c.pages.invariant.2)

pub returns-then-is_past-clause-value : goal.returns-then-is_past-clause-value
returns-then-is_past-clause-value c =
    let s : Seen (home_in c.args.shape) c.args.pages.bytes.now c.args.pages.cap c.pages.a _ = record { lies = c.if-pages-a.false; is = c.judge.ensures } in
    let t = page_tested s c.in-Some.is (omega arith) c.args.pages.small c.loop-slot.invariant (omega arith) c.requires.1 (search rules) in
    walk_told (home_in c.args.shape) c.args.pages.bytes.now _ _ _ (walk_ends s c.args.key c.pages.read c.in-Some.is t.rows t.small t.left (slot_after t c.if-is_past.true) c.loop-slot-test.true ∙ c.pages.invariant.2)
    (page_last s c.in-Some.is)

pub returns-then-is_past-clause-within : goal.returns-then-is_past-clause-within
returns-then-is_past-clause-within c =
    let s : Seen (home_in c.args.shape) c.args.pages.bytes.now c.args.pages.cap c.pages.a _ = record { lies = c.if-pages-a.false; is = c.judge.ensures } in
    (c.if-pages-a.false, c.loop-slot-test.true, page_few s c.in-Some.is, omega arith, omega arith)

pub returns-then-keys-slot-clause-value : goal.returns-then-keys-slot-clause-value
returns-then-keys-slot-clause-value c =
    let s : Seen (home_in c.args.shape) c.args.pages.bytes.now c.args.pages.cap c.pages.a _ = record { lies = c.if-pages-a.false; is = c.judge.ensures } in
    let t = page_tested s c.in-Some.is (omega arith) c.args.pages.small c.loop-slot.invariant (omega arith) c.requires.1 (search rules) in
    walk_told (home_in c.args.shape) c.args.pages.bytes.now _ _ _ (walk_found s c.args.key c.pages.read c.in-Some.is _ _ (slot_hit t c.if-is_past.false c.if-keys-slot.true _ (ap value c.record_at-held.ensures)) ∙ c.pages.invariant.2)
    (page_last s c.in-Some.is)

pub returns-then-keys-slot-clause-within : goal.returns-then-keys-slot-clause-within
returns-then-keys-slot-clause-within c =
    let s : Seen (home_in c.args.shape) c.args.pages.bytes.now c.args.pages.cap c.pages.a _ = record { lies = c.if-pages-a.false; is = c.judge.ensures } in
    (c.if-pages-a.false, slot_used (page_tested s c.in-Some.is (omega arith) c.args.pages.small c.loop-slot.invariant (omega arith) c.requires.1 (search rules)) c.if-is_past.false, page_few s c.in-Some.is, omega arith)
