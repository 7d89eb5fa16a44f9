-- The actions that a master over a wire takes (this project's profile). A line with any other action is bad.
use Rattle.std.specs.Prelude.{List, Bool, true, false, Option, Some, None, slice_get}
use Rattle.ec_table.specs.Contents.{Contents}
use Rattle.ec_table.specs.declared.rows.Direction.{Direction}
use Rattle.ec_table.specs.declared.rows.Direction.TheVariants.{Out, In}
use Rattle.ec_table.specs.declared.rows.VariableRow.{VariableRow}
use Rattle.ec_script.specs.declared.expectation.Expectation.{Expectation}
use Rattle.ec_script.specs.declared.expectation.Expectation.TheVariants as expects
use Rattle.ec_script.specs.declared.line.LineAction.{LineAction}
use Rattle.ec_script.specs.declared.line.LineAction.TheVariants.{Set, Never, Expect, Ready, Cycle, Within, Show, ShowVariable, Report, States, Stop}

-- a variable of the inputs
abbrev pub is_toward_master : Direction → Bool
is_toward_master Out = false
is_toward_master In = true

abbrev pub is_input : Option VariableRow → Bool
is_input None = false
is_input (Some row) = is_toward_master row.direction

-- A master sees its inputs, its report and its start-up, and reads AL states. It doesn't see what slaves publish of its outputs.
abbrev pub is_observable : List VariableRow → Expectation → Bool
is_observable rows (expects.Is v x) = is_input (slice_get rows v)
is_observable rows (expects.Holds v test) = is_input (slice_get rows v)
is_observable rows (expects.Never v) = is_input (slice_get rows v)
is_observable rows (expects.Units taken) = true
is_observable rows (expects.Unit u taken) = true
is_observable rows (expects.State s state code) = true
is_observable rows expects.Ready = true
is_observable rows (expects.Failed number) = true

-- single events but `set`, and `in`, are none of a master's
abbrev pub takes_action : Contents → LineAction → Bool
takes_action t (Set v x) = true
takes_action t (Never v) = true
takes_action t (Expect e) = is_observable t.variables e
takes_action t (Within n e) = is_observable t.variables e
takes_action t Ready = true
takes_action t Cycle = true
takes_action t Show = true
takes_action t (ShowVariable v) = true
takes_action t Report = true
takes_action t States = true
takes_action t Stop = true
takes_action t _ = false
