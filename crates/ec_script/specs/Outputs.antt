-- The outputs of lines: what becomes of a line that is done once (this project's profile).
use Rattle.std.specs.Prelude.{◌&&◌, Bool, true, false, None, Option, Result}
use Rattle.ec_start.specs.declared.error.StartError.{StartError}
use Rattle.ec_script.specs.declared.output.LineOutput.{LineOutput}
use Rattle.ec_script.specs.declared.output.LineOutput.TheVariants.{Nothing, No, Unmet, Byte, Ended, Report, Values, Fault, Value, States}
use Rattle.ec_script.specs.Expecting.{is_failed}

-- all that the line asks for was done
abbrev pub is_done : LineOutput → Bool
is_done Nothing = true
is_done No = false
is_done Unmet = true
is_done Byte = true
is_done Ended = true
is_done Report = true
is_done Values = true
is_done States = true
is_done Fault = false
is_done (Value v x) = true

abbrev pub is_unmet : LineOutput → Bool
is_unmet Unmet = true
is_unmet _ = false

abbrev pub is_no : LineOutput → Bool
is_no No = true
is_no _ = false

-- the output of an expectation, by whether it holds
abbrev pub output_if : Bool → LineOutput
output_if true = Nothing
output_if false = Unmet

-- the output of a step, by that of its action: if the line expects `no`, whether it is that
abbrev pub answer_of : (expects_no : Bool) → LineOutput → LineOutput
answer_of false said = said
answer_of true said = output_if (is_no said)

-- An output counts as unmet if what is expected isn't so. If lines are taken strictly, so does that one can't be done or has failed.
-- `outcome` is how the last start-up ended.
abbrev pub is_counted : (strict : Bool) → (outcome : Option (Result Unit StartError)) → LineOutput → Bool
is_counted strict outcome Unmet = true
is_counted strict outcome No = strict
is_counted strict outcome Fault = strict
is_counted strict outcome Ended = strict && is_failed None outcome
is_counted strict outcome _ = false
