-- The runs of a world that starts up, and what its slaves are when it is ready.
use Rattle.std.specs.Prelude.{ℕ, ◌+◌, ◌<◌, ◌≡◌, ◌≢◌, ◌==◌, ◌&&◌, List, length, set, get_or, replicate, Bool, true, false, if◌then◌else◌, Some, None, is_some, unwrap_or}
use Rattle.ec_frame.specs.Datagram.{Datagram, IsDatagram}
use Rattle.ec_al.specs.declared.state.State.TheVariants.{Op, SafeOp}
use Rattle.ec_slave.specs.State.{SlaveState, power_on, manager_at}
use Rattle.ec_slave.specs.Meeting.{slave_met, datagram_met}
use Rattle.ec_slave.specs.Application.{input_put, output_got, output_taken}
use Rattle.ec_slave.specs.Serving.{served}
use Rattle.ec_slave.specs.Faulting.{faulted}
use Rattle.ec_coe.specs.Objects.{assigned}
use Rattle.ec_link.specs.declared.settings.SlavePlan.{SlavePlan}
use Rattle.ec_start.specs.Actions.{datagram_of}
use Rattle.ec_start.specs.declared.error.StartError.{StartError}
use Rattle.ec_start.specs.declared.error.StartError.TheVariants.{Lost}
use Rattle.ec_start.specs.Running.{StartState, action_of, sending, taken, given_up, begun}
use Rattle.ec_start.specs.declared.action.Feed.{Feed}
use Rattle.ec_start.specs.declared.phase.Phase.{Phase}
use Rattle.ec_start.specs.declared.phase.Phase.TheVariants.{Idle, Sent, Ready, Failed}
use Rattle.ec_start.specs.Planned.{IsStartable}
use Rattle.ec_start.specs.Scripts.{is_hardware}
use Rattle.ec_bringup.specs.Fed.{AreFeedsOf}
use Rattle.ec_bringup.specs.Stages.{end_of, Config}
use Rattle.ec_bringup.specs.Standing.{IsIn, IsConfigured, IsSilent}
use Rattle.ec_bringup.specs.Starting.{Carried, Starting, slave_at, trouble_at, no_plan, AreSlaves}

abbrev pub with_passed : Starting → Carried → Starting
with_passed w c = record {
  start = w.start;
  slaves = set w.slaves c.passed (slave_met (slave_at w.slaves c.passed) c.datagram);
  troubles = w.troubles;
  slot = Some (record { number = c.number; passed = c.passed + 1; datagram = datagram_met (slave_at w.slaves c.passed) c.datagram });
}

abbrev pub with_start : Starting → StartState → Starting
with_start w s = record { start = s; slaves = w.slaves; troubles = w.troubles; slot = None }

abbrev pub with_slave : Starting → ℕ → SlaveState → Bool → Starting
with_slave w k t b = record { start = w.start; slaves = set w.slaves k t; troubles = set w.troubles k b; slot = w.slot }

abbrev pub is_idle : Phase → Bool
is_idle Idle = true
is_idle (Sent number) = false
is_idle Ready = false
is_idle (Failed error) = false

-- it hasn't sent a frame yet: it is at its first action, which is never tried again
abbrev pub is_beginning : StartState → Bool
is_beginning s = is_idle s.phase && (s.place == 0)

-- A start-up is at its beginning when it begins, and no more once a frame was sent or answered, or it was given up.
pub record BeginsOnce (s : StartState) : Type 0 where
  pub begins : (number : ℕ) → is_beginning (begun s.plan s.feeds number) ≡ true
  pub sent : is_beginning (sending s) ≡ false
  pub answered : (d : Datagram) → is_beginning (taken s d) ≡ false
  pub ends : is_beginning (given_up s) ≡ false

abbrev pub BeginningLaw : Type 0
BeginningLaw = (s : StartState) → BeginsOnce s

-- the flags as a frame is sent: the first frame of a start-up clears them
abbrev pub flags_sent : StartState → List Bool → List Bool
flags_sent s flags = if is_beginning s then replicate (length s.plan) false else flags

abbrev pub with_sent : Starting → Starting
with_sent w = record {
  start = sending w.start;
  slaves = w.slaves;
  troubles = flags_sent w.start w.troubles;
  slot = Some (record { number = w.start.next; passed = 0; datagram = datagram_of (action_of w.start) w.start.next });
}

abbrev pub with_begun : Starting → Starting
with_begun w = record { start = begun w.start.plan w.start.feeds w.start.next; slaves = w.slaves; troubles = w.troubles; slot = None }

abbrev pub with_empty : Starting → Starting
with_empty w = record { start = w.start; slaves = w.slaves; troubles = w.troubles; slot = None }

abbrev pub with_lost : Starting → Starting
with_lost w = record { start = record w.start { phase = Failed Lost }; slaves = w.slaves; troubles = w.troubles; slot = w.slot }

-- what `compile` promises of a plan
pub record AreStartable (ps : List SlavePlan) : Type 0 where
  pub each : (i : ℕ) → i < length ps → IsStartable (get_or ps i no_plan)
  -- all types are of a table with `hardware`, or none is
  pub alike : (i : ℕ) → i < length ps → is_some (get_or ps i no_plan).kind.hardware ≡ is_hardware ps

abbrev pub ends_of : List SlavePlan → ℕ → Config
ends_of ps i = end_of (get_or ps i no_plan)

-- one event of a world that starts up
pub data Happens (w v : Starting) : Type 0 where
  Sends : w.start.phase ≡ Idle → IsDatagram (datagram_of (action_of w.start) w.start.next) → v ≡ with_sent w → Happens w v
  Passes : (c : Carried) → w.slot ≡ Some c → c.passed < length w.start.plan → v ≡ with_passed w c → Happens w v
  Loses : (c : Carried) → w.slot ≡ Some c → v ≡ with_empty w → Happens w v
  Returns : (c : Carried) → w.slot ≡ Some c → c.passed ≡ length w.start.plan → w.start.phase ≡ Sent c.number → v ≡ with_start w (taken w.start c.datagram) → Happens w v
  -- the start-up was given up
  Strays : (c : Carried) (f : StartError) → w.slot ≡ Some c → w.start.phase ≡ Failed f → v ≡ with_empty w → Happens w v
  Closes : (number : ℕ) → w.start.phase ≡ Sent number → v ≡ with_lost w → Happens w v
  Serves : (k : ℕ) → k < length w.start.plan → v ≡ with_slave w k (served (slave_at w.slaves k)) (trouble_at w.troubles k) → Happens w v
  Puts : (k place byte : ℕ) → k < length w.start.plan → v ≡ with_slave w k (unwrap_or (input_put (slave_at w.slaves k) place byte) (slave_at w.slaves k)) (trouble_at w.troubles k) → Happens w v
  Gets : (k place : ℕ) → k < length w.start.plan → v ≡ with_slave w k (output_taken (slave_at w.slaves k) (output_got (slave_at w.slaves k) place)) (trouble_at w.troubles k) → Happens w v
  Faults : (k : ℕ) → k < length w.start.plan → (slave_at w.slaves k).al.state ≡ Op → v ≡ with_slave w k (faulted (slave_at w.slaves k)) true → Happens w v
  Resets : (k : ℕ) → k < length w.start.plan → v ≡ with_slave w k (power_on (slave_at w.slaves k).kind (slave_at w.slaves k).identity) true → Happens w v

-- one event after another; after a failure, with no frame on its way, a start-up begins again
pub data Runs : Starting → Starting → Type 0 where
  Stops : (w : Starting) → Runs w w
  Steps : (w u v : Starting) → Happens w u → Runs u v → Runs w v
  Begins : (w v : Starting) (f : StartError) → w.start.phase ≡ Failed f → w.slot ≡ None → Runs (with_begun w) v → Runs w v

-- all that the plan sets; its outputs are zeros
pub record HoldsAll (i : ℕ) (p : SlavePlan) (s : SlaveState) : Type 0 where
  pub configured : IsConfigured i (end_of p) s
  pub silent : IsSilent (end_of p) s
  pub no_read : s.sii.busy ≡ false
  pub outs : assigned s.outs ≡ p.outputs
  pub ins : assigned s.ins ≡ p.inputs

pub record Works (i : ℕ) (p : SlavePlan) (s : SlaveState) : Type 0 where
  pub holds : HoldsAll i p s
  pub in_op : IsIn Op s
  pub unlocked : (n : ℕ) → n < 4 → (manager_at s.managers n).locked ≡ false

pub record HasFault (i : ℕ) (p : SlavePlan) (s : SlaveState) : Type 0 where
  pub holds : HoldsAll i p s
  pub state : s.al.state ≡ SafeOp
  pub error : s.al.error ≡ true
  pub no_request : s.al.requested ≡ false
  pub locked : (manager_at s.managers 2).locked ≡ true
  pub unlocked : (n : ℕ) → n < 4 → n ≢ 2 → (manager_at s.managers n).locked ≡ false

-- it works, or it had a fault or a reset since the first frame of this start-up was sent
pub data SlaveHealth (i : ℕ) (p : SlavePlan) (trouble : Bool) (s : SlaveState) : Type 0 where
  Working : Works i p s → SlaveHealth i p trouble s
  Faulted : trouble ≡ true → HasFault i p s → SlaveHealth i p trouble s
  WasReset : trouble ≡ true → s ≡ power_on s.kind s.identity → SlaveHealth i p trouble s

-- a new segment (`Starting`)
pub record IsNew (ps : List SlavePlan) (fs : List Feed) (w : Starting) : Type 0 where
  pub plan_is : w.start.plan ≡ ps
  pub feeds_are : w.start.feeds ≡ fs
  pub start : w ≡ with_begun w
  pub slaves : AreSlaves w

-- After every run of a new segment (`Starting`) that makes it ready, each slave works as the plan says, or it had a fault or a
-- reset since the first frame of that start-up was sent, and then holds what a fault leaves, or is as the power comes on.
abbrev pub StartUpLaw : Type 0
StartUpLaw =
    (ps : List SlavePlan) (fs : List Feed) → AreStartable ps → AreFeedsOf ps fs → (w v : Starting) → IsNew ps fs w → Runs w v → v.start.phase ≡ Ready → (i : ℕ) → i < length ps
    → SlaveHealth i (get_or ps i no_plan) (trouble_at v.troubles i) (slave_at v.slaves i)
