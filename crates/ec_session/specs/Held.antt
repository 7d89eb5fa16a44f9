-- What a session keeps true of its fields.
use Rattle.std.specs.Prelude.{◌≡◌}
use Rattle.ec_table.specs.Contents.{Contents}
use Rattle.ec_link.specs.Plan.{plan_of}
use Rattle.ec_start.specs.Running.{StartState}
use Rattle.ec_start.specs.Feeding.{feeds_of}
use Rattle.ec_cycle.specs.Master.{MasterState}

-- start-up and master are of the table's plan
pub record IsOfTable (t : Contents) (s : StartState) (m : MasterState) : Type 0 where
  pub startup : s.plan ≡ (plan_of t).slaves
  pub feeds : s.feeds ≡ feeds_of (plan_of t)
  pub master : m.plan ≡ plan_of t
