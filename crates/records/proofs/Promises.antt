-- What is promised of the log's records is proved.
use mathlib.Core.List.{List}
use mathlib.Core.Logic.{inl, inr}
use native.Mathlib.Omega.{arith}
use Rattle.numbers.specs.Fields.{Field}
use Rattle.numbers.proofs.Records.{Fit}
use Rattle.records.specs.declared.Command.{Command}
use Rattle.records.specs.declared.Command.TheVariants.{Format, Put, Find, Remove, Grow, Check, Shrink}
use Rattle.records.specs.Records.{IsRecord}
use Rattle.records.specs.Promises.{Sized, RecordPromises}
use Rattle.records.proofs.ToTheByte.{reads, read_only}

-- the numbers of a command fit the fields of its records
sized_fit : (c : Command) (w : List Field) → Sized c → IsRecord c w → Fit w
sized_fit (Format q cap) w h (inl is) =
    rw is (omega arith, (omega arith, (h.0, (h.1, (h.2, (h.4, (h.3, tt)))))))
sized_fit (Format q cap) w h (inr is) = rw is.1 (omega arith, (omega arith, (h.0, (h.1, (h.2, (h.4, tt))))))
sized_fit (Put x) w h is = rw is.1 (omega arith, (omega arith, (h.0, (h.1, tt))))
sized_fit (Find k) w h is = rw is (omega arith, (omega arith, (h, tt)))
sized_fit (Remove k) w h is = rw is (omega arith, (omega arith, (h, tt)))
sized_fit Grow w h is = rw is (omega arith, (omega arith, tt))
sized_fit Check w h is = rw is (omega arith, (omega arith, tt))
sized_fit Shrink w h is = rw is (omega arith, (omega arith, tt))

pub record_promises : RecordPromises
record_promises = record { reads = λ c w rest h is. reads c w rest (sized_fit c w h is) is; read_only = read_only }
