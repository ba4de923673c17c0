-- What is promised of two record sets together, and of records put one by one, holds.
use mathlib.Core.Bool.{Bool}
use Prim.Native.Nat.{ℕ}
use Rattle.two_sets.specs.UnionPromises.{UnionPromises, OneByOnePromises}
use Rattle.two_sets.proofs.Union as Union
use Rattle.two_sets.proofs.Clash as Clash
use Rattle.two_sets.proofs.Rooms as Rooms
use Rattle.two_sets.proofs.OneByOne as OneByOne

pub union_promises : {R : Type 0} (key : R → ℕ) (same : R → R → Bool) → UnionPromises key same
union_promises key same =
    record {
      of_sets = λ xs ys f g. record {
        set = Union.union_set key xs ys f g;
        at = Union.union_at key xs ys g.once;
        sets_alone = λ p q. Union.union-perm key p q f g;
        clash = Clash.lowest_clash_lem key same xs ys f.once g.once;
        no_clash = Clash.no_clash key same xs ys f.once g.once;
        clash_turned = λ sides. Clash.clash_turned key same sides xs ys f.once g.once;
        turned = λ whole n. Union.union_both key xs ys f g (Clash.agreeing key same xs ys f.once g.once whole n);
      };
      empty = λ xs f. (Union.union_none key xs, Clash.clash_none key same xs f.once);
    }

pub one_by_one_promises : {R : Type 0} (key : R → ℕ) (h : ℕ → ℕ) (b : ℕ) → OneByOnePromises key h b
one_by_one_promises key h b =
    record {
      accepted = λ xs s ps f i. OneByOne.accepted key h b xs s ps f i;
      same_pages = λ xs s ps f i a. OneByOne.same_pages key h b xs s ps f i a;
      room_part = λ xs s f w. Rooms.room_part key h b xs s f w;
    }
