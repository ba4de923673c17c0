-- A pay run takes whatever it is given, and its contract allows one answer, one area and one room.
use mathlib.Core.Path.{sym, ◌∙⁻¹◌}
use Rattle.register.specs.Files.{file_of}
use Rattle.pay_runs.proofs.Running.{run_layout}
use Rattle.run_demands.specs.RunAnswers.{RunAnswers}

pub run_answers : RunAnswers
run_answers =
    record {
      put_run = record {
        asks_nothing = λ κs a. tt;
        one = λ κs a y z v w p q. (p.0 ∙⁻¹ q.0, λ i. (tt, ((p.1.0 ∙⁻¹ q.1.0) i, (tt, ((p.1.1 ∙⁻¹ q.1.1) i, tt)))));
        does = λ κs a y v p i. record { numbers = (p.0 i).answer; file = record { layout = sym (run_layout (file_of a.0 a.1.0.now) a.1.1.0.now a.1.1.1.0.now) i; state = (p.0 i).state; area = p.1.0 i }; room = p.1.1 i };
      };
    }
