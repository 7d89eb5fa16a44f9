-- Machines: link tables that the compiler accepts. A machine's plan is `plan_of` its table.
use Rattle.std.specs.Prelude.{◌≡◌, ℕ, List, None, Ok}
use Rattle.ec_table.specs.Contents.{Contents}
use Rattle.ec_table.specs.InOrder.{Fails as TableFails}
use Rattle.ec_table.specs.Reading.{table_of}
use Rattle.ec_link.specs.declared.machine.MachineError.{MachineError}
use Rattle.ec_link.specs.declared.machine.MachineError.TheVariants.{Table, Link}
use Rattle.ec_link.specs.Faults.{Fails, compile_fault}

-- a text states a table, and that has a plan
abbrev pub StatesMachine : List ℕ → Contents → Type 0
StatesMachine text t = (table_of text ≡ Ok t) × (compile_fault t ≡ None)

-- why a text states no machine: its first fault as a table, or the first fault of the table that it states
abbrev pub Refuses : List ℕ → MachineError → Type 0
Refuses text (Table error) = TableFails error (table_of text)
Refuses text (Link error) = (t : Contents) × (table_of text ≡ Ok t) × Fails error (compile_fault t)
