-- A world that starts up, as much of it as a start-up touches.
use Rattle.std.specs.Prelude.{ℕ, ◌<◌, ◌≤◌, ◌≡◌, List, length, get_or, Bool, false, Option}
use Rattle.ec_device.specs.Types.{SlaveKind, plain_kind, device_identity}
use Rattle.ec_frame.specs.Datagram.{Datagram}
use Rattle.ec_slave.specs.State.{SlaveState, power_on}
use Rattle.ec_link.specs.declared.settings.SlavePlan.{SlavePlan}
use Rattle.ec_link.specs.Meaning as meant
use Rattle.ec_start.specs.Running.{StartState}
use Rattle.ec_bringup.specs.Standing.{IsOfKind}

-- a frame on its way, of the one slot that is used while a world starts up
pub record Carried : Type 0 where
  pub number : ℕ
  pub passed : ℕ
  -- its second datagram; its bytes spell `name_datagram number 0` and this one
  pub datagram : Datagram

-- as much of a world as a start-up touches
pub record Starting : Type 0 where
  pub start : StartState
  pub slaves : List SlaveState
  -- whether each had a fault or a reset since the first frame of this start-up was sent
  pub troubles : List Bool
  pub slot : Option Carried

abbrev pub no_slave : SlaveState
no_slave = power_on plain_kind (device_identity plain_kind.device 0)

abbrev pub slave_at : List SlaveState → ℕ → SlaveState
slave_at ss i = get_or ss i no_slave

abbrev pub trouble_at : List Bool → ℕ → Bool
trouble_at ts i = get_or ts i false

abbrev pub no_plan : SlavePlan
no_plan = meant.no_slave

abbrev pub kind_at : List SlavePlan → ℕ → SlaveKind
kind_at ps i = (get_or ps i no_plan).kind

-- as many slaves as the plan has, each of its type
pub record AreSlaves (w : Starting) : Type 0 where
  pub slaves : length w.slaves ≡ length w.start.plan
  pub troubles : length w.troubles ≡ length w.start.plan
  pub few : length w.start.plan ≤ 64
  pub each : (i : ℕ) → i < length w.start.plan → IsOfKind (kind_at w.start.plan i) (slave_at w.slaves i)
