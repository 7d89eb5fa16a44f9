-- The numbers and the names of the errors.
use Rattle.std.specs.Prelude.{ℕ, List, codes}
use Rattle.ec_cycle.specs.Refusals.{refusal_number, refusal_name}
use Rattle.ec_wire.specs.declared.error.RunError.{RunError}
use Rattle.ec_wire.specs.declared.error.RunError.TheVariants.{Refused, Wire}

abbrev pub run_number : RunError → ℕ
run_number (Refused refusal) = refusal_number refusal
run_number Wire = 37

abbrev pub run_name : RunError → List ℕ
run_name (Refused refusal) = refusal_name refusal
run_name Wire = codes "Wire"
