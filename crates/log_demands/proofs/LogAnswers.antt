-- Each function of the log takes whatever it is given, and its contract allows one answer, and one
-- state of all that it is lent.
use mathlib.Core.Path.{refl, ◌∙⁻¹◌}
use Rattle.commands.specs.Execute.{site, carries}
use Rattle.log_demands.specs.LogAnswers.{LogAnswers}

pub log_answers : LogAnswers
log_answers =
    record {
      first = record { asks_nothing = λ κs a. tt; one = λ κs a y z v w p q. (p.0 ∙⁻¹ q.0, refl); does = λ κs a y v p. p.0 };
      execute = record {
        asks_nothing = λ κs a. tt;
        one = λ κs a y z v w p q. (p.0 ∙⁻¹ q.0, λ i. (tt, ((p.1.0 ∙⁻¹ q.1.0) i, ((p.1.1 ∙⁻¹ q.1.1) i, (tt, tt)))));
        does = λ κs a y v p i. carries (p.0 i).answer (site (p.0 i).state (p.1.0 i) (p.1.1 i));
      };
      whole_log = record {
        asks_nothing = λ κs a. tt;
        one = λ κs a y z v w p q. (p.0 ∙⁻¹ q.0, λ i. (tt, ((p.1.0 ∙⁻¹ q.1.0) i, ((p.1.1.0 ∙⁻¹ q.1.1.0) i, (tt, (tt, ((p.1.1.1.0 ∙⁻¹ q.1.1.1.0) i, tt)))))));
        does = λ κs a y v p i. record { ran = p.0 i; space = p.1.0 i; row = p.1.1.0 i; replies = p.1.1.1.0 i };
      };
    }
