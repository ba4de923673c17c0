-- Each call by slip takes whatever it is given, and its contract allows one number to be returned,
-- and one slip, one area, one row and one room afterwards.
use mathlib.Core.Path.{refl, sym, ◌∙⁻¹◌}
use Rattle.homes.specs.Homes.{params}
use Rattle.pages.specs.Page.{record_with}
use Rattle.register.specs.Files.{format, find, put, remove, grow, shrink, check}
use Rattle.slip_demands.specs.SlipAnswers.{SlipAnswers}
use Rattle.slip_demands.proofs.Looking.{find-area, check-area, call_layout, run_layout, merge_layout}

pub slip_answers : SlipAnswers
slip_answers =
    record {
      format = record {
        asks_nothing = λ κs a. tt;
        one = λ κs a y z v w p q. (p.0 ∙⁻¹ q.0, λ i. ((p.1.0 ∙⁻¹ q.1.0) i, ((p.1.1.0 ∙⁻¹ q.1.1.0) i, (tt, (tt, (tt, (tt, tt)))))));
        does = λ κs a y v p i. record { returned = p.0 i; slip = p.1.0 i; file = record { layout = sym (call_layout a.0.now a.1.0.now (format (params a.1.1.0 a.1.1.1.0 a.1.1.1.1.0 1) a.1.1.1.1.1.0)) i; state = p.1.1.1 i; area = p.1.1.0 i } };
      };
      format_edition = record {
        asks_nothing = λ κs a. tt;
        one = λ κs a y z v w p q. (p.0 ∙⁻¹ q.0, λ i. ((p.1.0 ∙⁻¹ q.1.0) i, ((p.1.1.0 ∙⁻¹ q.1.1.0) i, (tt, (tt, (tt, (tt, (tt, tt))))))));
        does = λ κs a y v p i. record { returned = p.0 i; slip = p.1.0 i; file = record { layout = sym (call_layout a.0.now a.1.0.now (format (params a.1.1.0 a.1.1.1.0 a.1.1.1.1.0 a.1.1.1.1.1.1.0) a.1.1.1.1.1.0)) i; state = p.1.1.1 i; area = p.1.1.0 i } };
      };
      find = record {
        asks_nothing = λ κs a. tt;
        one = λ κs a y z v w p q. (p.0 ∙⁻¹ q.0, λ i. ((p.1.0 ∙⁻¹ q.1.0) i, (tt, (tt, tt))));
        does = λ κs a y v p i. record { returned = p.0 i; slip = p.1.0 i; file = record { layout = sym (call_layout a.0.now a.1.0.now (find a.1.1.0)) i; state = p.1.1 i; area = sym (find-area a.0.now a.1.0.now a.1.1.0) i } };
      };
      put = record {
        asks_nothing = λ κs a. tt;
        one = λ κs a y z v w p q. (p.0 ∙⁻¹ q.0, λ i. ((p.1.0 ∙⁻¹ q.1.0) i, ((p.1.1.0 ∙⁻¹ q.1.1.0) i, (tt, (tt, tt)))));
        does = λ κs a y v p i. record { returned = p.0 i; slip = p.1.0 i; file = record { layout = sym (call_layout a.0.now a.1.0.now (put (record_with a.1.1.0 a.1.1.1.0 0))) i; state = p.1.1.1 i; area = p.1.1.0 i } };
      };
      put_run = record {
        asks_nothing = λ κs a. tt;
        one = λ κs a y z v w p q. (p.0 ∙⁻¹ q.0, λ i. ((p.1.0 ∙⁻¹ q.1.0) i, ((p.1.1.0 ∙⁻¹ q.1.1.0) i, (tt, ((p.1.1.1.0 ∙⁻¹ q.1.1.1.0) i, tt)))));
        does = λ κs a y v p i. (record { returned = p.0 i; slip = p.1.0 i; file = record { layout = sym (run_layout a.0.now a.1.0.now a.1.1.0.now a.1.1.1.0.now) i; state = p.1.1.1.1 i; area = p.1.1.0 i } }, p.1.1.1.0 i);
      };
      remove = record {
        asks_nothing = λ κs a. tt;
        one = λ κs a y z v w p q. (p.0 ∙⁻¹ q.0, λ i. ((p.1.0 ∙⁻¹ q.1.0) i, ((p.1.1.0 ∙⁻¹ q.1.1.0) i, (tt, tt))));
        does = λ κs a y v p i. record { returned = p.0 i; slip = p.1.0 i; file = record { layout = sym (call_layout a.0.now a.1.0.now (remove a.1.1.0)) i; state = p.1.1.1 i; area = p.1.1.0 i } };
      };
      grow = record {
        asks_nothing = λ κs a. tt;
        one = λ κs a y z v w p q. (p.0 ∙⁻¹ q.0, λ i. ((p.1.0 ∙⁻¹ q.1.0) i, ((p.1.1.0 ∙⁻¹ q.1.1.0) i, ((p.1.1.1.0 ∙⁻¹ q.1.1.1.0) i, tt))));
        does = λ κs a y v p i. (record { returned = p.0 i; slip = p.1.0 i; file = record { layout = sym (call_layout a.0.now a.1.0.now (grow a.1.1.0.now)) i; state = p.1.1.1.1 i; area = p.1.1.0 i } }, p.1.1.1.0 i);
      };
      shrink = record {
        asks_nothing = λ κs a. tt;
        one = λ κs a y z v w p q. (p.0 ∙⁻¹ q.0, λ i. ((p.1.0 ∙⁻¹ q.1.0) i, ((p.1.1.0 ∙⁻¹ q.1.1.0) i, tt)));
        does = λ κs a y v p i. record { returned = p.0 i; slip = p.1.0 i; file = record { layout = sym (call_layout a.0.now a.1.0.now shrink) i; state = p.1.1.1 i; area = p.1.1.0 i } };
      };
      check = record {
        asks_nothing = λ κs a. tt;
        one = λ κs a y z v w p q. (p.0 ∙⁻¹ q.0, λ i. ((p.1.0 ∙⁻¹ q.1.0) i, (tt, tt)));
        does = λ κs a y v p i. record { returned = p.0 i; slip = p.1.0 i; file = record { layout = sym (call_layout a.0.now a.1.0.now check) i; state = p.1.1 i; area = sym (check-area a.0.now a.1.0.now) i } };
      };
      compare = record {
        asks_nothing = λ κs a. tt;
        one = λ κs a y z v w p q. (p.0 ∙⁻¹ q.0, λ i. (tt, (tt, (tt, (tt, ((p.1.0 ∙⁻¹ q.1.0) i, ((p.1.1 ∙⁻¹ q.1.1) i, tt)))))));
        does = λ κs a y v p i. record { returned = p.0 i; list = p.1.0 i; comparison = p.1.1 i };
      };
      merge = record {
        asks_nothing = λ κs a. tt;
        one = λ κs a y z v w p q. (p.0 ∙⁻¹ q.0, λ i. ((p.1.0 ∙⁻¹ q.1.0) i, ((p.1.1.0 ∙⁻¹ q.1.1.0) i, (tt, (tt, ((p.1.1.1.0 ∙⁻¹ q.1.1.1.0) i, tt))))));
        does = λ κs a y v p i. record {
          served = record { returned = p.0 i; slip = p.1.0 i; file = record { layout = sym (merge_layout a.0.now a.1.0.now a.1.1.0.now a.1.1.1.0.now a.1.1.1.1.0.now) i; state = p.1.1.1.1 i; area = p.1.1.0 i } };
          row = p.1.1.1.0 i;
        };
      };
      due = record { asks_nothing = λ κs a. tt; one = λ κs a y z v w p q. (p ∙⁻¹ q, refl); does = λ κs a y v p. p };
    }
