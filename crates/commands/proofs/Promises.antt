-- What is promised of the parts that a log comes in is proved.
use Rattle.commands.specs.Promises.{LogPromises}
use Rattle.commands.proofs.Parts.{in_parts, parts_stopped, enough}

pub log_promises : LogPromises
log_promises = record { in_parts = in_parts; parts_stopped = parts_stopped; enough = enough }
