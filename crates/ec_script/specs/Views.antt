-- What lines can print and expect of a master.
use Rattle.std.specs.Prelude.{ℕ, Option, Result}
use Rattle.ec_start.specs.declared.error.StartError.{StartError}
use Rattle.ec_cycle.specs.Closing.{ReportState}
use Rattle.ec_cycle.specs.Master.{MasterState}

-- how the last start-up ended, the report on the last cycle that had one, the master, and the byte that an application read last
pub record ViewState : Type 0 where
  pub outcome : Option (Result Unit StartError)
  pub report : Option ReportState
  pub master : MasterState
  pub byte : Option ℕ
