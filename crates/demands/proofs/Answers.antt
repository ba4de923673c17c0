-- Each call takes whatever it is given, and its contract allows one answer, one state, and one area
-- and one row afterwards.
use mathlib.Core.Path.{refl, ◌∙⁻¹◌}
use mathlib.Core.List.{[]}
use Rattle.layouts.specs.Layout.{in_use}
use Rattle.register.specs.Files.{file_in, says, leaves, left}
use Rattle.demands.specs.Answers.{Answers}

pub answers : Answers
unfolding left
answers =
    record {
      format = record {
        asks_nothing = λ κs a. tt;
        one = λ κs a y z v w p q. (p.0 ∙⁻¹ q.0, λ i. (tt, (tt, (tt, ((p.1 ∙⁻¹ q.1) i, tt)))));
        does = λ κs a y v p i. leaves in_use (p.0 i) (p.1 i) [];
      };
      find = record { asks_nothing = λ κs a. tt; one = λ κs a y z v w p q. (p ∙⁻¹ q, refl); does = λ κs a y v p i. leaves in_use (p i) a.1.0.now [] };
      put = record {
        asks_nothing = λ κs a. tt;
        one = λ κs a y z v w p q. (p.0 ∙⁻¹ q.0, λ i. (tt, ((p.1 ∙⁻¹ q.1) i, (tt, tt))));
        does = λ κs a y v p i. leaves in_use (p.0 i) (p.1 i) [];
      };
      remove = record {
        asks_nothing = λ κs a. tt;
        one = λ κs a y z v w p q. (p.0 ∙⁻¹ q.0, λ i. (tt, ((p.1 ∙⁻¹ q.1) i, (tt, tt))));
        does = λ κs a y v p i. leaves in_use (p.0 i) (p.1 i) [];
      };
      grow = record {
        asks_nothing = λ κs a. tt;
        one = λ κs a y z v w p q. (p.0 ∙⁻¹ q.0, λ i. (tt, ((p.1.0 ∙⁻¹ q.1.0) i, ((p.1.1 ∙⁻¹ q.1.1) i, tt))));
        does = λ κs a y v p i. leaves in_use (p.0 i) (p.1.0 i) (p.1.1 i);
      };
      shrink = record {
        asks_nothing = λ κs a. tt;
        one = λ κs a y z v w p q. (p.0 ∙⁻¹ q.0, λ i. (tt, ((p.1 ∙⁻¹ q.1) i, tt)));
        does = λ κs a y v p i. leaves in_use (p.0 i) (p.1 i) [];
      };
      check = record { asks_nothing = λ κs a. tt; one = λ κs a y z v w p q. (p ∙⁻¹ q, refl); does = λ κs a y v p i. leaves in_use (p i) a.1.0.now [] };
      due = record { asks_nothing = λ κs a. tt; one = λ κs a y z v w p q. (p ∙⁻¹ q, refl); does = λ κs a y v p i. record { said = says (p i); file = file_in a.1.0 a.0 []; row = [] } };
    }
