use mathlib.Core.Path.{◌≡◌, refl, ap, ◌∙◌}
use mathlib.Core.List.{List}
use mathlib.Core.Logic.{⊎_elim}
use Prim.Native.Nat.{ℕ, ◌+◌, ◌%◌, ◌≤◌, ◌<◌}
use native.Mathlib.Nat.{mod-lt}
use native.Mathlib.Omega.{arith}
use lib.ListN.{get_or, set, replicate, get_or-replicate}
use lib.Seq.{get_or-set_other}
use Rattle.draws.proofs.Split.{split}
use Rattle.homes.proofs.Rowed.{none, one, over}
use Rattle.homes.proofs.Beginning.{start_is, start_by}
use Rattle.homes.proofs.lanes.begin.Invariants.{Rest}
use Rattle.homes.proofs.lanes.begin.Goals as goal

-- It holds at the start.
rest : Rest (replicate 16 0) 0
rest = record { zeros = λ j l h. get_or-replicate 16 j 0 0 h }

-- A turn keeps it.
rest_on : (row : List ℕ) (i v : ℕ) → Rest row i → Rest (set row i v) (i + 1)
rest_on row i v q = record { zeros = λ j h l. get_or-set_other row i j v 0 (λ e. omega arith) ∙ q.zeros j (omega arith) l }

-- So every page is below m.
all_fit : (m : ℕ) (keys row : List ℕ) (i : ℕ) → 1 ≤ m → i ≤ 12 → Rest row i → ((j : ℕ) → j < 12 → get_or row j 0 ≡ get_or keys j 0 % m) → (j : ℕ) → j < 16 → get_or row j 0 < m
all_fit m keys row i low top r each j h =
    ⊎_elim
    (λ l. omega (arith, each j l, mod-lt (get_or keys j 0) low))
    (λ l. omega (arith, r.zeros j (omega arith) h))
    (split j 12)

pub loop-i-init : goal.loop-i-init
loop-i-init c = (none _ _ refl, none _ _ refl, rest)

pub page-requires : goal.page-requires
page-requires c =
    let new = c.before.before.before in
    start_is _ _ new.new-start.ensures new.requires.0 new.requires.1

pub overflow_cast-pages : goal.overflow_cast-pages
overflow_cast-pages c =
    let new = c.before.before.before.before in
    omega (arith, c.page.ensures.within, start_by _ _ new.new-start.ensures, new.requires.1)

pub loop-i-preserved : goal.loop-i-preserved
loop-i-preserved c =
    let seed = c.before in
    let at = seed.before.before in
    let inv = at.loop-i.invariant in
    let h = seed.loop-i-test.true in
    let page = c.page.ensures.value ∙ ap (λ (n : ℕ). get_or at.args.keys at.loop-i.i 0 % n) (start_by _ _ at.new-start.ensures) in
    (one _ _ _ _ inv.0 h seed.twice_seed.ensures, one _ _ _ _ inv.1 (omega arith) page, rest_on _ _ _ inv.2)

pub returns : goal.returns
returns c =
    let start = c.before.before.before in
    let inv = c.loop-i.invariant in
    let end = c.loop-i-test.false in
    record { by_index = λ i h. (over inv.0 end i h, over inv.1 end i h); fit = all_fit _ start.args.keys _ _ start.requires.0 (omega arith) inv.2 (over inv.1 end) }
