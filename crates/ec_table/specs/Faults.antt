-- The refusals of a link table: their numbers, names and positions.
use Rattle.std.specs.Prelude.{ℕ, List, codes, Option, Some, None}
use Rattle.ec_table.specs.declared.fault.Section.{Section}
use Rattle.ec_table.specs.declared.fault.Section.TheVariants as section
use Rattle.ec_table.specs.declared.fault.Position.{Position}
use Rattle.ec_table.specs.declared.fault.Fault.{Fault}
use Rattle.ec_table.specs.declared.fault.Fault.TheVariants.{Toml, BadKey, BadValue, TwiceNamed, UnknownName}
use Rattle.ec_table.specs.Errors.{TableError, or_memory}

abbrev pub section_number : Section → ℕ
section_number section.Top = 0
section_number section.Type = 1
section_number section.Slave = 2
section_number section.Variable = 3
section_number section.Link = 4

abbrev pub fault_number : Fault → ℕ
fault_number Toml = 11
fault_number (BadKey p) = 12
fault_number (BadValue p) = 13
fault_number (TwiceNamed p) = 14
fault_number (UnknownName p) = 15

abbrev pub fault_name : Fault → List ℕ
fault_name Toml = codes "Toml"
fault_name (BadKey p) = codes "BadKey"
fault_name (BadValue p) = codes "BadValue"
fault_name (TwiceNamed p) = codes "TwiceNamed"
fault_name (UnknownName p) = codes "UnknownName"

abbrev pub fault_position : Fault → Option Position
fault_position Toml = None
fault_position (BadKey p) = Some p
fault_position (BadValue p) = Some p
fault_position (TwiceNamed p) = Some p
fault_position (UnknownName p) = Some p

abbrev pub error_number : TableError → ℕ
error_number e = or_memory 1 fault_number e

abbrev pub error_name : TableError → List ℕ
error_name e = or_memory (codes "Memory") fault_name e

abbrev pub error_position : TableError → Option Position
error_position e = or_memory None fault_position e
