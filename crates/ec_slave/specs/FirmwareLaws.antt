-- What a firmware step does, and what it does not.
use Rattle.std.specs.Prelude.{ℕ, ◌≡◌, ◌≢◌, ◌≤◌, List, AllPairs, Some, true, false, None, if◌then◌else◌}
use Rattle.ec_al.specs.States.{state_number}
use Rattle.ec_al.specs.Transitions.{requested_number}
use Rattle.ec_al.specs.declared.state.State.{State}
use Rattle.ec_al.specs.declared.state.State.TheVariants.{Init, PreOp, SafeOp, Op}
use Rattle.ec_device.specs.declared.slave_type.Identity.{Identity}
use Rattle.ec_device.specs.declared.slave_type.Pdo.{Pdo}
use Rattle.ec_device.specs.Hardware.{has_firmware, is_fixed}
use Rattle.ec_device.specs.Types.{SlaveKind, pdos_bits}
use Rattle.ec_frame.specs.Datagram.{Datagram}
use Rattle.ec_coe.specs.Transfers.{max_bits}
use Rattle.ec_coe.specs.Laws.{IsAssignment}
use Rattle.ec_slave.specs.State.{SlaveState, manager_at, station_of, fmmus, power_on}
use Rattle.ec_slave.specs.Meeting.{slave_met}
use Rattle.ec_slave.specs.Application.{is_running, input_put, output_got, output_taken}
use Rattle.ec_slave.specs.Faulting.{faulted}
use Rattle.ec_slave.specs.Checking.{checks_of, control_word}
use Rattle.ec_slave.specs.Serving.{served, greets_by, request_decided, reply_counter}

-- no AL request, no read of the SII and no message waits
pub record IsResting (s : SlaveState) : Type 0 where
  pub no_request : s.al.requested ≡ false
  pub no_read : s.sii.busy ≡ false
  pub no_message : (manager_at s.managers 0).mail ≡ None

-- A slave for which nothing waits is unchanged by a firmware step.
abbrev pub RestsQuietly : Type 0
RestsQuietly = (s : SlaveState) → IsResting s → served s ≡ s

-- what a firmware step leaves as it is, whatever waits
pub record KeepsSettings (s t : SlaveState) : Type 0 where
  pub memory : t.memory ≡ s.memory
  pub station : station_of t ≡ station_of s
  pub fmmus : fmmus t ≡ fmmus s
  pub settings : (n : ℕ) → (manager_at t.managers n).settings ≡ (manager_at s.managers n).settings
  pub kind : t.kind ≡ s.kind
  pub identity : t.identity ≡ s.identity
  pub link : t.link ≡ s.link

-- A firmware step changes no byte of the memory, no station address, no FMMU, no manager's settings and no data link register.
abbrev pub ServesKeepSettings : Type 0
ServesKeepSettings = (s : SlaveState) → KeepsSettings s (served s)

-- In SAFEOP and OP a firmware step changes no buffer, as long as it does not leave them.
abbrev pub ServesKeepBuffers : Type 0
ServesKeepBuffers =
    (s : SlaveState) → is_running s.al.state ≡ true → is_running (served s).al.state ≡ true
    → (n : ℕ) → (manager_at (served s).managers n).buffer ≡ (manager_at s.managers n).buffer

-- a request that a firmware step grants
pub record IsGranted (s : SlaveState) (old new : State) : Type 0 where
  pub from : s.al.state ≡ old
  pub waits : s.al.requested ≡ true
  pub asked : requested_number (control_word s) ≡ state_number new

-- By firmware OP is reached only from SAFEOP, by a request for it. A firmware step leads from PREOP to SAFEOP only if managers 2
-- and 3 are as the PDOs that are assigned want them. It leads from INIT to PREOP only if managers 0 and 1 are the type's mailboxes.
abbrev pub StatesAreEntered : Type 0
StatesAreEntered =
    (s : SlaveState) → has_firmware s.kind.hardware ≡ true →
    ((served s).al.state ≡ Op → s.al.state ≢ Op → IsGranted s SafeOp Op)
    × ((served s).al.state ≡ SafeOp → s.al.state ≡ PreOp → ((checks_of s).outputs ≡ true) × ((checks_of s).inputs ≡ true))
    × ((served s).al.state ≡ PreOp → s.al.state ≡ Init → (checks_of s).mailbox ≡ true)

-- If PREOP is entered from INIT, the next reply has number 1, but if an emergency was sent: that has it.
abbrev pub FirstReplyIsOne : Type 0
FirstReplyIsOne =
    (s : SlaveState) → s.al.state ≡ Init → (request_decided s).al.state ≡ PreOp
    → reply_counter (request_decided s).replies ≡ (if greets_by s (request_decided s).al then 2 else 1)

-- what a firmware step does to the PDOs that are assigned
pub record KeepsAssigned (s t : SlaveState) : Type 0 where
  pub elsewhere : t.al.state ≢ PreOp → (t.outs ≡ s.outs) × (t.ins ≡ s.ins)
  pub fixed : is_fixed s.kind.hardware ≡ true → (t.outs ≡ s.outs) × (t.ins ≡ s.ins)
  pub outputs : IsAssignment s.kind.outputs s.outs → IsAssignment s.kind.outputs t.outs
  pub inputs : IsAssignment s.kind.inputs s.ins → IsAssignment s.kind.inputs t.ins

-- An assignment changes only in PREOP, one that is fixed not at all; and it stays a list of the type's own PDOs, with none of them twice and with at most 2048
-- bits.
abbrev pub ServesKeepAssignments : Type 0
ServesKeepAssignments = (s : SlaveState) → KeepsAssigned s (served s)

-- both assignments are lists of the type's own PDOs, with none of them twice and with at most 2048 bits
pub record IsAssigned (s : SlaveState) : Type 0 where
  pub outputs : IsAssignment s.kind.outputs s.outs
  pub inputs : IsAssignment s.kind.inputs s.ins

-- PDOs of a direction that can all be assigned at once: no two with one index, and at most 2048 bits together
pub record FitTogether (ps : List Pdo) : Type 0 where
  pub apart : AllPairs (λ p q. p.index ≢ q.index) ps
  pub bits : pdos_bits ps ≤ max_bits

-- All PDOs are assigned when the power comes on. So the assignments are of that kind if a type's PDOs fit together.
abbrev pub PowerOnAssigns : Type 0
PowerOnAssigns = (kind : SlaveKind) (identity : Identity) → FitTogether kind.outputs → FitTogether kind.inputs → IsAssigned (power_on kind identity)

-- what can happen to a slave between two resets
pub record StaysAssigned (s : SlaveState) : Type 0 where
  pub served : IsAssigned (served s)
  pub met : (d : Datagram) → IsAssigned (slave_met s d)
  pub faulted : IsAssigned (faulted s)
  pub put : (offset byte : ℕ) (t : SlaveState) → input_put s offset byte ≡ Some t → IsAssigned t
  pub taken : (offset : ℕ) → IsAssigned (output_taken s (output_got s offset))

-- Whatever firmware, datagrams and application do, the assignments stay of that kind.
abbrev pub AssignmentsStay : Type 0
AssignmentsStay = (s : SlaveState) → IsAssigned s → StaysAssigned s
