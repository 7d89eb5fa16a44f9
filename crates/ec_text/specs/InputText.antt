-- The input variables of a table as text (this project's profile): for each, in file order, its name and its value in decimal, with a sign if it is signed.
use Rattle.std.specs.Prelude.{ℕ, ℤ, List, [], ◌++◌, slice_get, codes}
use Rattle.std.specs.Fmt.{signed_decimal}
use Rattle.ec_table.specs.declared.rows.Direction.{Direction}
use Rattle.ec_table.specs.declared.rows.Direction.TheVariants.{Out, In}
use Rattle.ec_table.specs.declared.rows.VariableRow.{VariableRow}
use Rattle.ec_table.specs.Contents.{Contents}
use Rattle.ec_table.specs.Numbers.{number_at}
use Rattle.ec_cycle.specs.Master.{MasterState, value_at}
use Rattle.ec_text.specs.PlanText.{lines_from, newline}

-- the name of an input variable, and the number that its value is
abbrev pub input_by : Direction → ℤ → List ℕ → List ℕ
input_by Out number name = []
input_by In number name = name ++ codes " " ++ signed_decimal number ++ newline

-- the n-th variable
abbrev pub input_line : Contents → (ℕ → ℕ) → ℕ → VariableRow → List ℕ
input_line t value n row = input_by row.direction (number_at t n (value n)) row.name

abbrev pub inputs_text : (ℕ → ℕ) → Contents → List ℕ
inputs_text value t = lines_from (input_line t value) 0 t.variables

-- the value of the n-th variable of a master
abbrev pub value_of_variable : MasterState → ℕ → ℕ
value_of_variable m n = value_at m (slice_get m.plan.variables n)
