-- What lines print (this project's profile). Numbers are decimal unless they are said to be hex.
use Rattle.std.specs.Prelude.{ℕ, ℤ, List, [], ◌∷◌, ◌++◌, Option, Some, None, slice_get, codes}
use Rattle.std.specs.Fmt.{decimal, signed_decimal}
use Rattle.hex.specs.Hex.{encode_lower}
use Rattle.ec_table.specs.Contents.{Contents}
use Rattle.ec_table.specs.Numbers.{number_at}
use Rattle.ec_table.specs.declared.rows.VariableRow.{VariableRow}
use Rattle.ec_text.specs.PlanText.{newline}
use Rattle.ec_text.specs.InputText.{inputs_text, value_of_variable}
use Rattle.ec_text.specs.ReportText.{outcome_text, report_if}
use Rattle.ec_script.specs.declared.output.LineOutput.{LineOutput}
use Rattle.ec_script.specs.declared.output.LineOutput.TheVariants.{Nothing, No, Unmet, Byte, Ended, Report, Values, Fault, Value, States}
use Rattle.ec_script.specs.States.{states_text}
use Rattle.ec_script.specs.Views.{ViewState}
use Rattle.ec_asking.specs.declared.answer.AlStatus.{AlStatus}

-- two hex digits
abbrev pub byte_text : Option ℕ → List ℕ
byte_text None = []
byte_text (Some byte) = codes "byte " ++ encode_lower (byte ∷ []) ++ newline

-- a variable's name, and the number that its value is
abbrev pub value_text : ℤ → Option VariableRow → List ℕ
value_text number None = []
value_text number (Some row) = row.name ++ codes " " ++ signed_decimal number ++ newline

-- What line n prints for this output, by a master of the table. `states` is what the slaves say of their AL states.
abbrev pub output_text : Contents → ℕ → ViewState → (states : List (Option AlStatus)) → LineOutput → List ℕ
output_text t n view states Nothing = []
output_text t n view states No = codes "no " ++ decimal n ++ newline
output_text t n view states Unmet = codes "unmet " ++ decimal n ++ newline
output_text t n view states Byte = byte_text view.byte
output_text t n view states Ended = outcome_text view.outcome
output_text t n view states Report = report_if t.version view.master.plan.parts view.report
output_text t n view states Values = inputs_text (value_of_variable view.master) t
output_text t n view states States = states_text t states
output_text t n view states Fault = codes "fault 37 Wire" ++ newline
output_text t n view states (Value v x) = value_text (number_at t v x) (slice_get t.variables v)
