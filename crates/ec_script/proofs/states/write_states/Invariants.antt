use Rattle.std.proofs.Common.{◌≡◌, ◌++◌, drop, string_bytes}
use Rattle.ec_text.specs.PlanText.{lines_from}
use Rattle.ec_script.specs.States.{state_line}
use Rattle.ec_script.proofs.states.write_states.Given as goal

abbrev pub invariant-loop-slave : goal.invariant-loop-slave
invariant-loop-slave l = string_bytes l.text ++ lines_from (state_line l.states) l.slave (drop l.slave l.rows) ≡ string_bytes l.initial.text ++ lines_from (state_line l.states) 0 l.rows
