use Rattle.std.proofs.Common.{◌≡◌, ◌++◌, drop, string_bytes}
use Rattle.ec_text.specs.HeaderText.{variable_lines}
use Rattle.ec_text.specs.PlanText.{lines_from}
use Rattle.ec_text.proofs.header.write_variables.Given as goal

abbrev pub invariant-loop-number : goal.invariant-loop-number
invariant-loop-number l = string_bytes l.text ++ lines_from (variable_lines l.prefix l.places) l.number (drop l.number l.variables) ≡ string_bytes l.initial.text ++ lines_from (variable_lines l.prefix l.places) 0 l.variables
