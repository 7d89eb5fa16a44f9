-- The names of refusals of a wire are short: none has more than 16 letters.
use Rattle.std.proofs.Common.{◌≤◌, length, arith}
use Rattle.ec_cycle.specs.declared.error.CycleError.TheVariants as cycle
use Rattle.ec_wire.specs.declared.error.RunError.{RunError}
use Rattle.ec_wire.specs.declared.error.RunError.TheVariants as run
use Rattle.ec_wire.specs.Errors.{run_name}

pub short_run : (error : RunError) → length (run_name error) ≤ 16
short_run (run.Refused cycle.NotReady) = omega arith
short_run (run.Refused cycle.Open) = omega arith
short_run (run.Refused cycle.NotOpen) = omega arith
short_run (run.Refused cycle.NumbersSpent) = omega arith
short_run run.Wire = omega arith
