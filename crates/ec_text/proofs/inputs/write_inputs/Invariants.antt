use Rattle.std.proofs.Common.{◌≡◌, ◌++◌, drop, string_bytes}
use Rattle.ec_text.specs.InputText.{input_line, value_of_variable}
use Rattle.ec_text.specs.PlanText.{lines_from}
use Rattle.ec_text.proofs.inputs.write_inputs.Given as goal

-- the lines of those before this place are added
abbrev pub invariant-loop-index : goal.invariant-loop-index
invariant-loop-index l =
    string_bytes l.text ++ lines_from (input_line l.table (value_of_variable l.master)) l.index (drop l.index l.table.variables) ≡ string_bytes l.initial.text ++ lines_from (input_line l.table (value_of_variable l.master)) 0 l.table.variables
