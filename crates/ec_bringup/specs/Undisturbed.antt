-- A start-up that nothing disturbs: each frame passes all slaves in order, each slave serves once, and the frame comes back.
use Rattle.std.specs.Prelude.{ℕ, zero, suc, ◌<◌, ◌≤◌, ◌≡◌, List, [], ◌∷◌, length, map, get_or, false, is_some}
use Rattle.ec_device.specs.declared.slave_type.Identity.{Identity}
use Rattle.ec_device.specs.Hardware.{takes_any_revision}
use Rattle.ec_device.specs.Types.{SlaveKind, plain_kind, device_identity}
use Rattle.ec_frame.specs.Datagram.{Datagram, IsDatagram}
use Rattle.ec_slave.specs.State.{SlaveState, power_on}
use Rattle.ec_slave.specs.Meeting.{slave_met, datagram_met}
use Rattle.ec_ring.specs.Rings.{passes_ring}
use Rattle.ec_slave.specs.Serving.{served}
use Rattle.ec_link.specs.declared.settings.SlavePlan.{SlavePlan}
use Rattle.ec_link.specs.Meaning as meant
use Rattle.ec_frame.specs.Names.{name_datagram}
use Rattle.ec_start.specs.Actions.{datagram_of, frame_of}
use Rattle.ec_start.specs.Running.{StartState, action_of, sending, taken, IsStartAnswer}
use Rattle.ec_bringup.specs.Standing.{IsOfKind}
use Rattle.ec_start.specs.declared.action.Feed.{Feed}
use Rattle.ec_start.specs.Planned.{IsStartable}
use Rattle.ec_start.specs.Scripts.{is_hardware}
use Rattle.ec_bringup.specs.Fed.{AreFeedsOf, ArePredicted}
use Rattle.ec_bringup.specs.Complete.{IsComplete}

-- ---- which slaves

-- The identity of a device of a type (ETG.1000.6, "Slave information interface area"): vendor and product are the type's, and so is
-- the revision, but any will do where the type names none. The serial number is free.
pub record IsOfType (kind : SlaveKind) (i : Identity) : Type 0 where
  pub vendor : i.vendor ≡ kind.device.vendor
  pub product : i.product ≡ kind.device.product
  pub revision : takes_any_revision kind.hardware ≡ false → i.revision ≡ kind.device.revision

-- A device of a type, in any state: nothing is asked of its registers, its managers, its messages, its AL state, an error, a
-- request or a read that waits. `IsOfKind` says that in INIT no manager is locked, and that an assignment which can't be written is
-- that of power-on: every event of a slave keeps both.
pub record IsDevice (kind : SlaveKind) (s : SlaveState) : Type 0 where
  pub slave : IsOfKind kind s
  -- the image of its SII spells such an identity
  pub spelled : IsOfType kind s.sii.image.identity

-- ---- one frame

-- the second datagram of a frame after it passed all slaves in order
abbrev pub all_passed : List SlaveState → Datagram → Datagram
all_passed [] d = d
all_passed (s ∷ ss) d = all_passed ss (datagram_met s d)

-- the slaves after it
abbrev pub all_met : List SlaveState → Datagram → List SlaveState
all_met [] d = []
all_met (s ∷ ss) d = slave_met s d ∷ all_met ss (datagram_met s d)

-- a start-up and the slaves of its segment
pub record Rising : Type 0 where
  pub start : StartState
  pub slaves : List SlaveState

abbrev pub frame_at : Rising → Datagram
frame_at r = datagram_of (action_of r.start) r.start.next

-- the next frame is sent, passes all slaves, each slave serves once, and the frame is taken back
abbrev pub turned : Rising → Rising
turned r = record { start = taken (sending r.start) (all_passed r.slaves (frame_at r)); slaves = map served (all_met r.slaves (frame_at r)) }

abbrev pub turns : ℕ → Rising → Rising
turns zero r = r
turns (suc n) r = turns n (turned r)

-- ---- what is promised

abbrev pub unplanned : SlavePlan
unplanned = meant.no_slave

abbrev pub plan_at : List SlavePlan → ℕ → SlavePlan
plan_at ps i = get_or ps i unplanned

abbrev pub slave_of : List SlaveState → ℕ → SlaveState
slave_of ss i = get_or ss i (power_on plain_kind (device_identity plain_kind.device 0))

-- as many slaves as the plan has, each a device of its type
pub record AreDevices (ps : List SlavePlan) (ss : List SlaveState) : Type 0 where
  pub count : length ss ≡ length ps
  pub few : length ps ≤ 64
  pub each : (i : ℕ) → i < length ps → IsDevice (plan_at ps i).kind (slave_of ss i)

-- what `compile` promises of a plan
pub record ArePlans (ps : List SlavePlan) : Type 0 where
  pub planned : (i : ℕ) → i < length ps → IsStartable (plan_at ps i)
  pub complete : (i : ℕ) → i < length ps → IsComplete (plan_at ps i)
  -- all types are of a table with `hardware`, or none is
  pub alike : (i : ℕ) → i < length ps → is_some (plan_at ps i).kind.hardware ≡ is_hardware ps

-- and of the parts that are fed
pub record ArePlansWith (ps : List SlavePlan) (fs : List Feed) : Type 0 where
  pub plans : ArePlans ps
  pub feeds : AreFeedsOf ps fs
  pub predicted : ArePredicted ps fs

-- ---- whole frames

-- A start-up's frame past all slaves is an answer, its second datagram is what it is here, and so are the slaves.
pub record IsRound (s : StartState) (number : ℕ) (ss : List SlaveState) : Type 0 where
  pub datagrams : (passes_ring ss (frame_of (action_of s) number)).datagrams ≡ name_datagram number 0 ∷ all_passed ss (datagram_of (action_of s) number) ∷ []
  pub slaves : (passes_ring ss (frame_of (action_of s) number)).slaves ≡ all_met ss (datagram_of (action_of s) number)
  pub answer : IsStartAnswer s number (passes_ring ss (frame_of (action_of s) number)).datagrams

abbrev pub RoundLaw : Type 0
RoundLaw = (s : StartState) (number : ℕ) (ss : List SlaveState) → IsDatagram (datagram_of (action_of s) number) → IsRound s number ss
