-- What a text says of the slaves that were found.
use Rattle.std.specs.Prelude.{◌≡◌, ℕ, List, length, Some, true, slice_get}
use Rattle.ec_table.specs.Contents.{Contents}
use Rattle.ec_table.specs.Objects.{kind_of}
use Rattle.ec_table.specs.declared.rows.SlaveRow.{SlaveRow}
use Rattle.ec_link.specs.Machine.{StatesMachine}
use Rattle.ec_found.specs.declared.found.Found.{Found}

-- a row of a table is of a slave as it was found: its type, its serial number, and the PDOs that it exchanges
pub record IsRowOf (c : Contents) (i : ℕ) (f : Found) : Type 0 where
  pub row : SlaveRow
  pub there : slice_get c.slaves i ≡ Some row
  pub kind : kind_of c i ≡ Some f.kind
  pub serial : row.serial ≡ f.serial
  pub outputs : row.outputs ≡ f.outputs
  pub inputs : row.inputs ≡ f.inputs

-- a table has the slaves that were found, in order, and no others
pub record HasFound (fs : List Found) (c : Contents) : Type 0 where
  pub hardware : c.hardware ≡ true
  pub as_many : length c.slaves ≡ length fs
  pub each : (i : ℕ) (f : Found) → slice_get fs i ≡ Some f → IsRowOf c i f

-- the text states a table with a plan, and that has them
pub record StatesFound (text : List ℕ) (fs : List Found) : Type 0 where
  pub table : Contents
  pub stated : StatesMachine text table
  pub found : HasFound fs table
