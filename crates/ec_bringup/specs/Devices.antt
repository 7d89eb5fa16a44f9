-- Devices stay devices, whatever happens to them. So a start-up can be begun at any time over slaves that were devices once.
use Rattle.std.specs.Prelude.{ℕ, ◌<◌, ◌≤◌, ◌≡◌, List, length, get_or, set, None, unwrap_or}
use Rattle.ec_device.specs.declared.slave_type.Identity.{Identity}
use Rattle.ec_device.specs.Types.{SlaveKind}
use Rattle.ec_frame.specs.Datagram.{Datagram}
use Rattle.ec_slave.specs.State.{SlaveState, power_on}
use Rattle.ec_slave.specs.Meeting.{slave_met, passes}
use Rattle.ec_slave.specs.Application.{input_put, inputs_put, output_got, output_taken, outputs_taken}
use Rattle.ec_slave.specs.Serving.{served}
use Rattle.ec_slave.specs.Faulting.{faulted}
use Rattle.ec_ring.specs.Rings.{passes_ring}
use Rattle.ec_table.specs.Contents.{Contents}
use Rattle.ec_table.specs.Sound as table
use Rattle.ec_link.specs.Faults.{compile_fault}
use Rattle.ec_link.specs.Plan.{plan_of}
use Rattle.ec_link.specs.declared.settings.SlavePlan.{SlavePlan}
use Rattle.ec_bringup.specs.SwitchedOn.{no_identity, switched_on, AreIdentities, AreSlavesOf}
use Rattle.ec_bringup.specs.Standing.{IsOfKind}
use Rattle.ec_bringup.specs.Undisturbed.{plan_at, slave_of, IsOfType, AreDevices}
use Rattle.ec_bringup.specs.ComesUp.{IsTrue}

-- A device of a type, in any state, whose own identity is the type's too: a reset makes its SII of that again.
pub record IsGenuine (kind : SlaveKind) (s : SlaveState) : Type 0 where
  pub slave : IsOfKind kind s
  pub own : IsTrue kind s

-- A device of a type that was just switched on is one.
abbrev pub SwitchedOnLaw : Type 0
SwitchedOnLaw = (kind : SlaveKind) (identity : Identity) → IsOfType kind identity → IsGenuine kind (power_on kind identity)

-- whatever happens to it
pub record StaysGenuine (kind : SlaveKind) (s : SlaveState) : Type 0 where
  -- any datagram at all, and any frame: those of a start-up, cyclic ones, and those of a hostile master
  pub meets : (d : Datagram) → IsGenuine kind (slave_met s d)
  pub passes : (ds : List Datagram) → IsGenuine kind (passes s ds).slave
  -- a firmware step
  pub serves : IsGenuine kind (served s)
  -- its application writes or reads a byte, or many
  pub puts : (offset byte : ℕ) → IsGenuine kind (unwrap_or (input_put s offset byte) s)
  pub puts_all : (inputs : List ℕ) (count : ℕ) → IsGenuine kind (inputs_put s inputs count)
  pub gets : (offset : ℕ) → IsGenuine kind (output_taken s (output_got s offset))
  pub gets_all : (count : ℕ) → IsGenuine kind (outputs_taken s count)
  -- a fault, a reset
  pub faults : IsGenuine kind (faulted s)
  pub resets : IsGenuine kind (power_on s.kind s.identity)

abbrev pub DevicesLaw : Type 0
DevicesLaw = (kind : SlaveKind) (s : SlaveState) → IsGenuine kind s → StaysGenuine kind s

-- ---- a ring of them

-- as many slaves as the plan has, each a genuine device of its type
pub record AreGenuine (ps : List SlavePlan) (ss : List SlaveState) : Type 0 where
  pub count : length ss ≡ length ps
  pub few : length ps ≤ 64
  pub each : (i : ℕ) → i < length ps → IsGenuine (plan_at ps i).kind (slave_of ss i)

pub record StayGenuine (ps : List SlavePlan) (ss : List SlaveState) : Type 0 where
  -- any frame past all of them
  pub passed : (ds : List Datagram) → AreGenuine ps (passes_ring ss ds).slaves
  -- one of them becomes another device of its type
  pub one : (k : ℕ) (s : SlaveState) → (k < length ps → IsGenuine (plan_at ps k).kind s) → AreGenuine ps (set ss k s)
  -- they are what a start-up asks for
  pub devices : AreDevices ps ss

abbrev pub RingLaw : Type 0
RingLaw = (ps : List SlavePlan) (ss : List SlaveState) → AreGenuine ps ss → StayGenuine ps ss

-- ---- the slaves of a table

-- each identity is that of a device of its slave's type
abbrev pub AreOfTypes : Contents → List Identity → Type 0
AreOfTypes t identities = (k : ℕ) → k < length t.slaves → IsOfType (plan_at (plan_of t).slaves k).kind (get_or identities k no_identity)

-- The identities that a table states are such, if `compile` accepts the table.
abbrev pub IdentitiesLaw : Type 0
IdentitiesLaw = (t : Contents) → table.IsSound t → compile_fault t ≡ None → (identities : List Identity) → AreIdentities t identities → AreOfTypes t identities

-- The slaves that are switched on with such identities are devices of their types.
abbrev pub TypedSlavesLaw : Type 0
TypedSlavesLaw =
    (t : Contents) → table.IsSound t → compile_fault t ≡ None → (identities : List Identity) → length identities ≡ length t.slaves → AreOfTypes t identities
    → AreGenuine (plan_of t).slaves (switched_on (plan_of t).slaves identities)

-- So are the slaves with the identities that the table states.
abbrev pub SlavesOfLaw : Type 0
SlavesOfLaw = (t : Contents) → table.IsSound t → compile_fault t ≡ None → (ss : List SlaveState) → AreSlavesOf t ss → AreGenuine (plan_of t).slaves ss
