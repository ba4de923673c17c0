-- A merge takes whatever it is given, and its contract allows one answer, one area and one row afterwards.
use mathlib.Core.Path.{◌∙⁻¹◌}
use Rattle.merge_demands.specs.MergeAnswers.{MergeAnswers}

pub merge_answers : MergeAnswers
merge_answers =
    record {
      merge = record {
        asks_nothing = λ κs a. tt;
        one = λ κs a y z v w p q. (p.0 ∙⁻¹ q.0, λ i. (tt, ((p.1.0 ∙⁻¹ q.1.0) i, (tt, (tt, ((p.1.1 ∙⁻¹ q.1.1) i, tt))))));
        does = λ κs a y v p i. record { merge = p.0 i; area = p.1.0 i; row = p.1.1 i };
      };
    }
