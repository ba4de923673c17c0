-- What is promised of the differences between two record sets holds.
use mathlib.Core.Bool.{Bool}
use Prim.Native.Nat.{ℕ}
use Rattle.two_sets.specs.Promises.{TwoSetsPromises}
use Rattle.two_sets.proofs.Differences as Differences
use Rattle.two_sets.proofs.Turning as Turning

pub two_sets_promises : {R : Type 0} (key : R → ℕ) (same : R → R → Bool) → TwoSetsPromises key same
two_sets_promises key same =
    record {
      of_sets = λ xs ys d e. record {
        at = Differences.differences_at key same xs ys d e;
        rises = Differences.differences_rise key same xs ys d e;
        only = λ ds s f. Differences.only_list key same xs ys ds d e s f;
        sets_alone = λ p q. Differences.same_list key same p q d e;
        empty = Differences.empty key same xs ys d e;
        turns = λ sides. Turning.turns key same sides xs ys d e;
      };
    }
