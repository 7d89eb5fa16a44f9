-- What a link table holds.
use Rattle.std.specs.Prelude.{ℕ, Bool, true, false, if◌then◌else◌, List}
use Rattle.ec_device.specs.declared.slave_type.Pdo.{Pdo}
use Rattle.ec_table.specs.declared.rows.Format.{Format}
use Rattle.ec_table.specs.declared.rows.Version.{Version}
use Rattle.ec_table.specs.declared.rows.Direction.{Direction}
use Rattle.ec_table.specs.declared.rows.Direction.TheVariants.{Out, In}
use Rattle.ec_table.specs.declared.rows.TypeRow.{TypeRow}
use Rattle.ec_table.specs.declared.rows.SlaveRow.{SlaveRow}
use Rattle.ec_table.specs.declared.rows.VariableRow.{VariableRow}
use Rattle.ec_table.specs.declared.rows.LinkRow.{LinkRow}

-- the value of a `Table`: its version, whether it is for hardware, each section's rows in file order, and whether its slaves are full
pub record Contents : Type 0 where
  pub version : Version
  -- whether its slaves are real devices, or behave like them: each type then says what it has of them
  pub hardware : Bool
  pub types : List TypeRow
  pub slaves : List SlaveRow
  pub variables : List VariableRow
  pub links : List LinkRow
  -- whether its slaves are full, as common masters expect them; no text states it, so the slaves of a table that was read aren't
  pub full : Bool

-- the format of its text: what its keys go by
abbrev pub format_of : Contents → Format
format_of c = record { version = c.version; hardware = c.hardware }

-- the table with full slaves
abbrev pub advertised_full : Contents → Contents
advertised_full c = record c { full = true }

-- the table with full slaves if `full`
abbrev pub advertised_as : (full : Bool) → Contents → Contents
advertised_as full c = if full then advertised_full c else c

-- the table as its text states it, its slaves not full
abbrev pub as_stated : Contents → Contents
as_stated c = record c { full = false }

-- the process data objects of a type in one direction
abbrev pub pdos_toward : Direction → TypeRow → List Pdo
pdos_toward Out t = t.process.outputs
pdos_toward In t = t.process.inputs

-- the indices of the objects that a slave assigns in one direction
abbrev pub assigned_toward : Direction → SlaveRow → List ℕ
assigned_toward Out s = s.outputs
assigned_toward In s = s.inputs
