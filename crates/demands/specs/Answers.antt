-- What the code's contracts allow: said of the contracts that the toolchain makes of each call's
-- `requires` and `ensures` (register/src/lib.rt, state/src/lib.rt), and of no copy of them.
use Rattle.std.specs.Prelude.{◌≡◌, []}
use contract.Lifetimes.{Lfts}
use denote.Triple.Entry.{Args, Res}
use denote.Triple.Clauses.{Ended, Lasts, AtExit, at_exit}
use Rattle.layouts.specs.Layout.{in_use}
use Rattle.state.proofs.State.due as Due
use Rattle.state.specs.contracts.State.due as DueContract
use Rattle.register.proofs.format as Format
use Rattle.register.specs.contracts.format as FormatContract
use Rattle.register.proofs.find as Find
use Rattle.register.specs.contracts.find as FindContract
use Rattle.register.proofs.put as Put
use Rattle.register.specs.contracts.put as PutContract
use Rattle.register.proofs.remove as Remove
use Rattle.register.specs.contracts.remove as RemoveContract
use Rattle.register.proofs.check as Check
use Rattle.register.specs.contracts.check as CheckContract
use Rattle.register.proofs.grow as Grow
use Rattle.register.specs.contracts.grow as GrowContract
use Rattle.register.proofs.shrink as Shrink
use Rattle.register.specs.contracts.shrink as ShrinkContract
use Rattle.register.specs.Files.{format, find, put, remove, grow, shrink, check, due, file_in, file_of, says, leaves, left}

module _ (T : Ended) where
  -- what a call is given, what it returns, and what it leaves of that which was lent to be changed
  abbrev Lives : Type 0
  Lives = Lfts T.signature.lifetimes

  abbrev Given : Lives → Type 0
  Given = Args T.signature

  abbrev Gives : Lives → Type 0
  Gives = Res T.signature

  -- Demand 1: "Every call takes any numbers and any bytes and ends": a contract asks nothing of its
  -- caller. 01: "prove that any two answers it allows are the same". And what it allows is what a
  -- definition says, here `left`.
  pub record Settled {O : Type 0}
      (Asked : (κs : Lives) → Given κs → Type 0)
      (Learnt : (κs : Lives) → Given κs → Gives κs → AtExit T κs → Type 0)
      (call : (κs : Lives) (a : Given κs) → O)
      (came : (κs : Lives) (a : Given κs) → Gives κs → Lasts T κs a → O) : Type 0 where
    pub asks_nothing : (κs : Lives) (a : Given κs) → Asked κs a
    pub one : (κs : Lives) (a : Given κs) (y z : Gives κs) (v w : Lasts T κs a) → Learnt κs a y (at_exit T κs a v) → Learnt κs a z (at_exit T κs a w) → (y ≡ z) × (v ≡ w)
    pub does : (κs : Lives) (a : Given κs) (y : Gives κs) (v : Lasts T κs a) → Learnt κs a y (at_exit T κs a v) → came κs a y v ≡ call κs a

-- The arguments stand in the order of the signature: a.0 is the first, a.1.0 the second, and so
-- on; v has a place for each, and in it what is left of an area or a row that was lent to be
-- changed.
pub record Answers : Type 0 where
  pub format : Settled FormatContract.ended Format.Reads.Asked Format.Reads.Learnt
      (λ κs a. left (file_of a.0 a.1.1.1.0.now) (format a.1.0 a.1.1.0))
      (λ κs a y v. leaves in_use y v.1.1.1.0 [])
  pub find : Settled FindContract.ended Find.Reads.Asked Find.Reads.Learnt
      (λ κs a. left (file_of a.0 a.1.0.now) (find a.1.1.0))
      (λ κs a y v. leaves in_use y a.1.0.now [])
  pub put : Settled PutContract.ended Put.Reads.Asked Put.Reads.Learnt
      (λ κs a. left (file_of a.0 a.1.0.now) (put a.1.1.0))
      (λ κs a y v. leaves in_use y v.1.0 [])
  pub remove : Settled RemoveContract.ended Remove.Reads.Asked Remove.Reads.Learnt
      (λ κs a. left (file_of a.0 a.1.0.now) (remove a.1.1.0))
      (λ κs a y v. leaves in_use y v.1.0 [])
  pub grow : Settled GrowContract.ended Grow.Reads.Asked Grow.Reads.Learnt
      (λ κs a. left (file_of a.0 a.1.0.now) (grow a.1.1.0.now))
      (λ κs a y v. leaves in_use y v.1.0 v.1.1.0)
  pub shrink : Settled ShrinkContract.ended Shrink.Reads.Asked Shrink.Reads.Learnt
      (λ κs a. left (file_of a.0 a.1.0.now) shrink)
      (λ κs a y v. leaves in_use y v.1.0 [])
  pub check : Settled CheckContract.ended Check.Reads.Asked Check.Reads.Learnt
      (λ κs a. left (file_of a.0 a.1.0.now) check)
      (λ κs a y v. leaves in_use y a.1.0.now [])
  -- due is asked of the state and the layout alone
  pub due : Settled DueContract.ended Due.Reads.Asked Due.Reads.Learnt
      (λ κs a. left (file_in a.1.0 a.0 []) due)
      (λ κs a y v. record { said = says y; file = file_in a.1.0 a.0 []; row = [] })
