-- A comparison takes whatever it is given, and its contract allows one answer and one room afterwards.
use mathlib.Core.Path.{◌∙⁻¹◌}
use Rattle.comparison_demands.specs.ComparisonAnswers.{ComparisonAnswers}

pub comparison_answers : ComparisonAnswers
comparison_answers =
    record {
      compare = record {
        asks_nothing = λ κs a. tt;
        one = λ κs a y z v w p q. (p.0 ∙⁻¹ q.0, λ i. (tt, (tt, (tt, (tt, ((p.1 ∙⁻¹ q.1) i, tt))))));
        does = λ κs a y v p i. record { answer = p.0 i; room = p.1 i };
      };
    }
