-- What a slave of a type of real devices does that others don't: its registers go by numbers and by the addresses of its pins, it
-- may lack FMMUs and firmware, want outputs before OP, be slow, and send an emergency.
use Rattle.std.specs.Prelude.{ℕ, ◌+◌, ◌%◌, ◌<◌, ◌≤◌, ◌≡◌, ◌≢◌, ◌&&◌, not, List, length, Bool, true, false, Option, Some, None, is_some}
use Rattle.std.specs.List.{list_any}
use Rattle.ec_device.specs.declared.hardware.Hardware.{Hardware}
use Rattle.ec_device.specs.declared.slave_type.Identity.{Identity}
use Rattle.ec_device.specs.Hardware.{AreNumbered, manager_number, has_firmware, has_emergency}
use Rattle.ec_device.specs.Types.{SlaveKind}
use Rattle.ec_regs.specs.declared.manager.SyncManagerSettings.{SyncManagerSettings}
use Rattle.ec_regs.specs.Managers.{is_mailbox, manager_bytes}
use Rattle.ec_regs.specs.Memory.{al_status, manager_start}
use Rattle.ec_regs.specs.Names.{shown_manager}
use Rattle.ec_frame.specs.Datagram.{Datagram}
use Rattle.ec_al.specs.Al.{waiting}
use Rattle.ec_al.specs.Transitions.{requested_by}
use Rattle.ec_al.specs.declared.state.State.{State}
use Rattle.ec_al.specs.declared.state.State.TheVariants.{Init, PreOp, SafeOp, Op}
use Rattle.ec_al.specs.declared.transition.Requested.TheVariants.{To}
use Rattle.ec_coe.specs.Emergency.{emergency_bytes}
use Rattle.ec_coe.specs.Messages.{message_length}
use Rattle.ec_sync.specs.Governing.{manager_byte}
use Rattle.ec_sync.specs.SyncManager.{SyncManager, may_write, message_put}
use Rattle.ec_sync.specs.Runs.{Operation, RingWrite}
use Rattle.ec_slave.specs.State.{SlaveState, manager_at, power_on}
use Rattle.ec_slave.specs.Physical.{Window, byte_at, as_shown, is_configured, is_missing, settings_written}
use Rattle.ec_slave.specs.Meeting.{slave_met}
use Rattle.ec_slave.specs.Application.{input_put, output_got, output_taken}
use Rattle.ec_slave.specs.Checking.{control_word}
use Rattle.ec_slave.specs.Faulting.{faulted}
use Rattle.ec_slave.specs.Serving.{served, request_decided, with_al, al_decided, has_outputs, is_awaiting, is_served, takes_reply}
use Rattle.ec_slave.specs.Showing.{after_all}
use Rattle.ec_slave.specs.Steps.{Happening, steps_met}

-- ---- names at the border

-- a write of the eight bytes of the manager that has the number of place n, with these settings as registers have them
abbrev pub naming_manager : Option Hardware → ℕ → SyncManagerSettings → Window
naming_manager o n m = record { from = manager_start (manager_number o n); bytes = manager_bytes (shown_manager o m) }

-- What a master writes by a type's numbers and addresses, the slave takes at the role's place, with the address that it has
-- inside, and at no other place; what the registers of that number read is what the manager at the place holds.
pub record TakesNames (s : SlaveState) (n : ℕ) : Type 0 where
  pub taken : (m : SyncManagerSettings) → settings_written s.kind.hardware (naming_manager s.kind.hardware n m) n (manager_at s.managers n) ≡ m
  pub set : (m : SyncManagerSettings) → is_configured s.kind.hardware (naming_manager s.kind.hardware n m) n ≡ true
  pub others : (m : SyncManagerSettings) (k : ℕ) → k < 4 → k ≢ n → is_configured s.kind.hardware (naming_manager s.kind.hardware n m) k ≡ false
  pub read : (k : ℕ) → k < 8 → byte_at s (manager_start (manager_number s.kind.hardware n) + k) ≡ manager_byte (as_shown s.kind.hardware (manager_at s.managers n)) k

abbrev pub SlavesTakeNames : Type 0
SlavesTakeNames = (s : SlaveState) (n : ℕ) → AreNumbered s.kind.hardware → n < 4 → TakesNames s n

-- ---- missing FMMUs

-- Whatever happens to a slave since it was switched on, the registers of FMMUs that it lacks read 0.
abbrev pub MissingFmmusReadZero : Type 0
MissingFmmusReadZero =
    (kind : SlaveKind) (identity : Identity) (happenings : List Happening) (a : ℕ) → is_missing kind.hardware a ≡ true
    → byte_at (after_all (power_on kind identity) happenings) a ≡ 0

-- ---- the AL state machine

-- A device without firmware shows what AL control says, state and acknowledge bit, after the next step: without an error code.
abbrev pub StatusIsCopied : Type 0
StatusIsCopied =
    (s : SlaveState) (wanted : State) → has_firmware s.kind.hardware ≡ false → s.al.requested ≡ true
    → requested_by (control_word s) ≡ To wanted
    → (byte_at (served s) al_status ≡ control_word s % 32) × ((served s).al.code ≡ 0)

-- A device of a type of real devices that has firmware enters OP only if no outputs are awaited.
abbrev pub OutputsComeFirst : Type 0
OutputsComeFirst =
    (s : SlaveState) (h : Hardware) → s.kind.hardware ≡ Some h → h.has_firmware ≡ true → s.al.state ≢ Op → (served s).al.state ≡ Op
    → (manager_at s.managers 2).awaited ≡ false

-- the ring writes the value of a buffered manager as a whole
abbrev pub is_value_written : SyncManager → Operation → Bool
is_value_written m (RingWrite covered value) = covered && (may_write m && not (is_mailbox m.settings))
is_value_written m o = false

-- A datagram does so at manager n: it gets at the first byte of the value and the last, and the manager lets the ring write.
abbrev pub writes_value : SlaveState → Datagram → ℕ → Bool
writes_value s d n = list_any (is_value_written (manager_at s.managers n)) (steps_met d.command s d n)

-- Of all datagrams these alone end a wait, and they do. Others leave what is awaited, also those that set the manager anew.
abbrev pub WritesEndWaits : Type 0
WritesEndWaits =
    (s : SlaveState) (d : Datagram) (n : ℕ)
    → (manager_at (slave_met s d).managers n).awaited ≡ ((manager_at s.managers n).awaited && not (writes_value s d n))

-- A slave is owed its outputs: where some are assigned, it isn't in OP, and in SAFEOP it awaits them.
pub record IsOwedOutputs (s : SlaveState) : Type 0 where
  pub not_in_op : has_outputs s ≡ true → s.al.state ≢ Op
  pub awaited : has_outputs s ≡ true → s.al.state ≡ SafeOp → (manager_at s.managers 2).awaited ≡ true

-- a slave of a type of real devices that has firmware
pub record RunsFirmware (s : SlaveState) (h : Hardware) : Type 0 where
  pub hardware : s.kind.hardware ≡ Some h
  pub firmware : h.has_firmware ≡ true
  pub four : length s.managers ≡ 4

-- It is so from the moment that SAFEOP is entered, by a request or a fault,
pub record IsOwedFromSafeop (s : SlaveState) : Type 0 where
  pub served : s.al.state ≢ SafeOp → (served s).al.state ≡ SafeOp → IsOwedOutputs (served s)
  pub faulted : s.al.state ≡ Op → IsOwedOutputs (faulted s)

abbrev pub OutputsAreOwed : Type 0
OutputsAreOwed = (s : SlaveState) (h : Hardware) → RunsFirmware s h → IsOwedFromSafeop s

-- and whatever happens then it stays so, until a datagram writes the value of manager 2 in SAFEOP: nothing else leads to OP.
pub record StaysOwed (s : SlaveState) : Type 0 where
  pub met : (d : Datagram) → (s.al.state ≡ SafeOp → writes_value s d 2 ≡ false) → IsOwedOutputs (slave_met s d)
  pub served : IsOwedOutputs (served s)
  pub faulted : IsOwedOutputs (faulted s)
  pub put : (i x : ℕ) (t : SlaveState) → input_put s i x ≡ Some t → IsOwedOutputs t
  pub taken : (i : ℕ) → IsOwedOutputs (output_taken s (output_got s i))
  pub reset : IsOwedOutputs (power_on s.kind s.identity)

abbrev pub OutputsStayOwed : Type 0
OutputsStayOwed = (s : SlaveState) (h : Hardware) → RunsFirmware s h → IsOwedOutputs s → StaysOwed s

-- Outputs are awaited outside OP alone, and by firmware of real devices alone.
pub record AwaitsOutsideOp (s : SlaveState) : Type 0 where
  pub in_op : s.al.state ≡ Op → (manager_at s.managers 2).awaited ≡ false
  pub plain : s.kind.hardware ≡ None → (n : ℕ) → (manager_at s.managers n).awaited ≡ false
  pub without_firmware : has_firmware s.kind.hardware ≡ false → (n : ℕ) → (manager_at s.managers n).awaited ≡ false

-- That holds when the power comes on, and stays so, whatever happens.
abbrev pub SwitchedOnAwaitsNothing : Type 0
SwitchedOnAwaitsNothing = (kind : SlaveKind) (identity : Identity) → AwaitsOutsideOp (power_on kind identity)

pub record StaysOutsideOp (s : SlaveState) : Type 0 where
  pub met : (d : Datagram) → AwaitsOutsideOp (slave_met s d)
  pub served : AwaitsOutsideOp (served s)
  pub faulted : AwaitsOutsideOp (faulted s)
  pub put : (i x : ℕ) (t : SlaveState) → input_put s i x ≡ Some t → AwaitsOutsideOp t
  pub taken : (i : ℕ) → AwaitsOutsideOp (output_taken s (output_got s i))

abbrev pub OutputsAreAwaitedOutsideOp : Type 0
OutputsAreAwaitedOutsideOp = (s : SlaveState) → AwaitsOutsideOp s → StaysOutsideOp s

-- ---- slow firmware

-- A request that waits at slow firmware is decided by the step that finds that as many before it let it wait as the type says; until
-- then the slave is as it was, but for the count of these steps.
pub record WaitsLong (s : SlaveState) (h : Hardware) : Type 0 where
  pub waits : s.al.waited < h.slow → request_decided s ≡ record s { al = waiting s.al }
  pub decides : h.slow ≤ s.al.waited → is_awaiting s.kind.hardware s ≡ false → request_decided s ≡ with_al s (al_decided s.kind.hardware s)

abbrev pub RequestsWaitLong : Type 0
RequestsWaitLong =
    (s : SlaveState) (h : Hardware) → s.kind.hardware ≡ Some h → h.has_firmware ≡ true → s.al.requested ≡ true → WaitsLong s h

-- ---- emergencies

-- a slave that sends an emergency as it enters PREOP from INIT, through a mailbox that was empty
pub record Greets (s : SlaveState) : Type 0 where
  pub shouts : has_emergency s.kind.hardware ≡ true
  pub mailbox : is_some s.kind.mailbox ≡ true
  pub four : length s.managers ≡ 4
  pub old : s.al.state ≡ Init
  pub new : (request_decided s).al.state ≡ PreOp
  pub takes : takes_reply (manager_at s.managers 1) ≡ true
  pub room : message_length ≤ (manager_at s.managers 1).settings.length

-- The emergency lies in manager 1 with counter 1, so that no message is taken before it is read; the other managers are as they were.
pub record HasGreeted (s t : SlaveState) : Type 0 where
  pub own : manager_at t.managers 1 ≡ message_put (manager_at s.managers 1) (emergency_bytes 1)
  pub others : (n : ℕ) → n ≢ 1 → manager_at t.managers n ≡ manager_at s.managers n
  pub counter : t.replies ≡ 1
  pub waits : is_served t ≡ false

abbrev pub EmergenciesComeFirst : Type 0
EmergenciesComeFirst = (s : SlaveState) → Greets s → HasGreeted s (request_decided s)
