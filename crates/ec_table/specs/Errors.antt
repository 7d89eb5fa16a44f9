-- Why there is no result: memory ran out, or the input has a fault.
use Rattle.std.specs.Prelude.{Option, Some, None}
use Rattle.ec_table.specs.declared.fault.Fault.{Fault}
use Rattle.ec_table.specs.declared.or_memory.OrMemory.{OrMemory}
use Rattle.ec_table.specs.declared.or_memory.OrMemory.TheVariants.{Memory, Refused}

-- what is known of the fault, or this if memory ran out
abbrev pub or_memory : {F A : Type 0} → A → (F → A) → OrMemory F → A
or_memory a f Memory = a
or_memory a f (Refused x) = f x

-- the fault, if there is one
abbrev pub fault_of : {F : Type 0} → OrMemory F → Option F
fault_of Memory = None
fault_of (Refused x) = Some x

-- why no table was read
abbrev pub TableError : Type 0
TableError = OrMemory Fault
