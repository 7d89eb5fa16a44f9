-- That a slave stands at a stage of a start-up.
use Rattle.std.specs.Prelude.{ℕ, ◌+◌, ◌<◌, ◌≤◌, ◌≡◌, ◌≢◌, ◌⊎◌, ◌&&◌, ◌||◌, not, nat_lt, List, [], length, take, slice_index, Bool, true, false, if◌then◌else◌, Option, Some, None, is_some}
use Rattle.std.specs.Option.{ForSome}
use Rattle.ec_regs.specs.Memory.{fmmus, fmmu_start, ram_end}
use Rattle.ec_regs.specs.Words.{al_word}
use Rattle.ec_regs.specs.declared.manager.SyncManagerSettings.{SyncManagerSettings}
use Rattle.ec_regs.specs.Managers.{no_settings, is_set, is_mailbox, is_master_read}
use Rattle.ec_regs.specs.Fmmus.{fmmu_bytes}
use Rattle.ec_regs.specs.Names.{shown_fmmu}
use Rattle.ec_device.specs.Types.{SlaveKind}
use Rattle.ec_device.specs.Hardware.{has_firmware, has_emergency, is_assignable}
use Rattle.ec_sync.specs.Buffer.{Buffer, emptied_buffer}
use Rattle.ec_sync.specs.SyncManager.{SyncManager, buffer_length}
use Rattle.ec_al.specs.declared.state.State.{State}
use Rattle.ec_al.specs.declared.state.State.TheVariants.{Init, SafeOp, Op}
use Rattle.ec_al.specs.States.{state_number}
use Rattle.ec_slave.specs.State.{SlaveState, manager_at, station_of, power_on}
use Rattle.ec_coe.specs.Objects.{Assignment, all_assigned, has_some}
use Rattle.ec_slave.specs.Serving.{is_init, dictionary_of}
use Rattle.ec_slave.specs.Checking.{control_word}
use Rattle.ec_slave.specs.Physical.{is_missing}
use Rattle.ec_coe.specs.Messages.{message_length, message_read}
use Rattle.ec_coe.specs.Replies.{is_aside}
use Rattle.ec_coe.specs.Emergency.{emergency_bytes}
use Rattle.ec_start.specs.Plans.{settings_at, fmmu_at}
use Rattle.ec_start.specs.Actions.{station, filled, request_bytes}
use Rattle.ec_start.specs.declared.action.SdoRequest.{SdoRequest}
use Rattle.ec_start.specs.declared.verdict.Verdict.{Verdict}
use Rattle.ec_start.specs.declared.verdict.Verdict.TheVariants.{Next}
use Rattle.ec_start.specs.Verdicts.{message_verdict, free_verdict}
use Rattle.ec_bringup.specs.Stages.{Rise, Falls, Stays, Climbs, Claim, Talk, Config, Stage, Before, Called, Down, Lowered, Up, answered, IsStepUp, IsEarly}
use Rattle.ec_start.specs.Planned.{AreMailboxes, IsRequest}
use Rattle.ec_bringup.specs.Dictionaries.{Came, sizes_of, sizes_in}

-- ---- at every instant of a world

-- the assignment of a slave without a mailbox, or whose device has it fixed, can't be changed
pub record HasAll (s : SlaveState) : Type 0 where
  pub outs : s.outs ≡ all_assigned s.kind.outputs
  pub ins : s.ins ≡ all_assigned s.kind.inputs

pub record IsOfKind (kind : SlaveKind) (s : SlaveState) : Type 0 where
  pub kind_is : s.kind ≡ kind
  pub room : length s.memory ≡ ram_end
  pub four : length s.managers ≡ 4
  pub outs : length s.outs.slots ≡ length kind.outputs
  pub ins : length s.ins.slots ≡ length kind.inputs
  pub fixed : is_assignable kind.mailbox kind.hardware ≡ false → HasAll s
  -- a value for each parameter, of its size
  pub sizes : sizes_of s.values ≡ sizes_in kind.init
  pub unlocked_in_init : s.al.state ≡ Init → (n : ℕ) → n < 4 → (manager_at s.managers n).locked ≡ false
  -- the registers of FMMUs that it lacks
  pub missing : (a : ℕ) → is_missing kind.hardware a ≡ true → slice_index s.memory a ≡ 0

-- ---- what is known by the actions so far

-- a buffer but for its reader's view
abbrev pub unviewed : Buffer → Buffer
unviewed b = record b { view = None }

-- It holds what its settings left: zeros, and no draft. A reader's view may be open.
abbrev pub HoldsZeros : SyncManager → Type 0
HoldsZeros m = unviewed m.buffer ≡ emptied_buffer (buffer_length m.settings)

-- what was set is held, and the outputs are zeros
pub record IsConfigured (i : ℕ) (c : Config) (s : SlaveState) : Type 0 where
  pub station_is : station_of s ≡ station i
  pub settings : (n : ℕ) → n < 4 → (manager_at s.managers n).settings ≡ settings_at c.managers n
  -- as its registers have them
  pub fmmus : (n k : ℕ) → n < 4 → k < 16 → slice_index s.memory (fmmu_start n + k) ≡ slice_index (fmmu_bytes (shown_fmmu s.kind.hardware (fmmu_at c.fmmus n))) k
  pub idle : c.idle ≡ true → s.sii.busy ≡ false
  pub no_messages : (n : ℕ) → 2 ≤ n → n < 4 → (manager_at s.managers n).mail ≡ None
  pub outputs : HoldsZeros (manager_at s.managers 2)

-- the control word by which phase 1 asks for INIT, with the acknowledgement of errors (ETG.1000.6, "AL control")
abbrev pub init_request : ℕ
init_request = al_word (state_number Init) true

-- in INIT, and without an error if it has firmware; a request that waits can only be phase 1's
pub record IsInInit (s : SlaveState) : Type 0 where
  pub state : s.al.state ≡ Init
  pub no_error : has_firmware s.kind.hardware ≡ true → s.al.error ≡ false
  pub asked : s.al.requested ≡ true → control_word s ≡ init_request

-- In INIT, perhaps with an error. If the slave has firmware, phase 1's request waits then, which acknowledges the error; of a slave
-- without firmware it is the copied acknowledgement.
pub record HasFallen (s : SlaveState) : Type 0 where
  pub state : s.al.state ≡ Init
  pub no_error : has_firmware s.kind.hardware ≡ true → s.al.requested ≡ false → s.al.error ≡ false
  pub asked : s.al.requested ≡ true → control_word s ≡ init_request

-- in a state, without an error or a request
pub record IsIn (state : State) (s : SlaveState) : Type 0 where
  pub state_is : s.al.state ≡ state
  pub no_error : s.al.error ≡ false
  pub no_request : s.al.requested ≡ false

abbrev pub StaysIn : State → SlaveState → Type 0
StaysIn Init s = IsInInit s
StaysIn state s = IsIn state s

-- not decided yet
pub record IsAsked (from : State) (control : ℕ) (s : SlaveState) : Type 0 where
  pub state : s.al.state ≡ from
  pub request : s.al.requested ≡ true
  pub control_is : control_word s ≡ control

-- refused
pub record IsRefused (from : State) (s : SlaveState) : Type 0 where
  pub state : s.al.state ≡ from
  pub error : s.al.error ≡ true
  pub no_request : s.al.requested ≡ false

abbrev pub Rises : Rise → SlaveState → Type 0
Rises Falls s = HasFallen s
Rises (Stays state) s = StaysIn state s
Rises (Climbs from to) s = IsStepUp from to × (IsAsked from (state_number to) s ⊎ (IsIn to s ⊎ IsRefused from s))

pub record Claims (c : Claim) (a : Assignment) : Type 0 where
  pub count_is : ForSome c.count (λ n. a.count ≡ n)
  pub slots_are : take (length c.slots) a.slots ≡ c.slots

pub record IsAssigned (c : Config) (s : SlaveState) : Type 0 where
  pub outs : Claims c.outs s.outs
  pub ins : Claims c.ins s.ins
  -- and the values of its parameters
  pub came : Came s.kind c.done (dictionary_of s)

-- a manager of these settings takes a message with an SDO from its slave, once it is unlocked and empty
abbrev pub takes_messages : SyncManagerSettings → Bool
takes_messages m = is_set m && (is_mailbox m && (is_master_read m && not (nat_lt m.length message_length)))

-- what a slave says as it enters PREOP: the emergency that its type may have
abbrev pub greeting_of : SlaveKind → SyncManagerSettings → Option (List ℕ)
greeting_of kind m =
    if has_emergency kind.hardware && (is_some kind.mailbox && takes_messages m) then Some (filled m.length (emergency_bytes 1)) else None

-- it lies in manager 1 until it is read, before the first reply
abbrev pub left_to_say : Config → SlaveState → Option (List ℕ)
left_to_say c s = if has_some c.done || is_init s.al.state then None else greeting_of s.kind (manager_at s.managers 1).settings

-- the request lies in manager 0, and perhaps what was said before in manager 1
pub record IsSent (t : Talk) (c : Config) (s : SlaveState) : Type 0 where
  pub mailboxes : AreMailboxes t.mailbox c.managers
  pub request : IsRequest t.request
  pub mailbox_message : (manager_at s.managers 0).mail ≡ Some (filled t.mailbox.receive_size (request_bytes t.counter t.request))
  pub no_reply : ((manager_at s.managers 1).mail ≡ None) ⊎ ((manager_at s.managers 1).mail ≡ left_to_say c s)
  pub assigned : IsAssigned c s

-- what a start-up makes of a reply, of a table with `hardware` or without
abbrev pub raw_verdict : (hardware : Bool) → ℕ → SdoRequest → List ℕ → Verdict
raw_verdict false i r raw = message_verdict i r (message_read raw)
raw_verdict true i r raw = free_verdict i r raw

-- the reply lies in manager 1, and is none that is set aside; if it is one that fits, the request was done
pub record IsReplied (i : ℕ) (t : Talk) (c : Config) (s : SlaveState) : Type 0 where
  pub mailboxes : AreMailboxes t.mailbox c.managers
  pub no_message : (manager_at s.managers 0).mail ≡ None
  pub raw : List ℕ
  pub whole : length raw ≡ t.mailbox.send_size
  pub reply : (manager_at s.managers 1).mail ≡ Some raw
  pub plain : is_aside raw ≡ false
  pub done : (hardware : Bool) → raw_verdict hardware i t.request raw ≡ Next → IsAssigned (answered c t.request) s

pub record IsSilent (c : Config) (s : SlaveState) : Type 0 where
  pub no_message : (manager_at s.managers 0).mail ≡ None
  pub no_reply : (manager_at s.managers 1).mail ≡ left_to_say c s
  pub assigned : IsAssigned c s

abbrev pub Talks : ℕ → Config → Option Talk → SlaveState → Type 0
Talks i c None s = IsSilent c s
Talks i c (Some t) s = IsSent t c s ⊎ IsReplied i t c s

abbrev pub IsTop : Rise → Type 0
IsTop (Stays Op) = Unit {0}
IsTop (Climbs SafeOp Op) = Unit {0}
IsTop _ = ⊥

pub record IsUpAt (i : ℕ) (c : Config) (s : SlaveState) : Type 0 where
  pub configured : IsConfigured i c s
  pub unlocked : (n : ℕ) → n < 4 → (manager_at s.managers n).locked ≡ false
  pub rises : Rises c.rise s
  pub talks : Talks i c c.talk s
  -- messages begin in PREOP, and are over before SAFEOP is left
  pub early : IsEarly c.rise → (c.talk ≡ None) × (c.done ≡ [])
  pub quiet : IsTop c.rise → c.talk ≡ None

pub record AreClear (s : SlaveState) : Type 0 where
  pub settings : (n : ℕ) → n < 4 → (manager_at s.managers n).settings ≡ no_settings
  pub no_messages : (n : ℕ) → n < 4 → (manager_at s.managers n).mail ≡ None
  pub outputs : HoldsZeros (manager_at s.managers 2)

pub record IsDownAt (f m : Bool) (s : SlaveState) : Type 0 where
  pub init : IsInInit s
  pub fmmus : f ≡ true → (k : ℕ) → k < 64 → slice_index s.memory (fmmus + k) ≡ 0
  pub managers : m ≡ true → AreClear s

-- the same, perhaps with an error
pub record IsLoweredAt (f m : Bool) (s : SlaveState) : Type 0 where
  pub low : HasFallen s
  pub fmmus : f ≡ true → (k : ℕ) → k < 64 → slice_index s.memory (fmmus + k) ≡ 0
  pub managers : m ≡ true → AreClear s

abbrev pub Reached : ℕ → Stage → SlaveState → Type 0
Reached i Before s = Unit {0}
Reached i Called s = ((s.al.requested ≡ true) × (control_word s ≡ init_request)) ⊎ HasFallen s
Reached i (Down f m) s = IsDownAt f m s
Reached i (Lowered f m) s = IsLoweredAt f m s
Reached i (Up c) s = IsUpAt i c s

-- ---- with faults and resets

-- it was reset since it got its station address
abbrev pub IsGone : Stage → SlaveState → Type 0
IsGone (Up c) s = s ≡ power_on s.kind s.identity
IsGone _ s = ⊥

-- it had a fault in OP
pub record IsFaultedAt (i : ℕ) (c : Config) (s : SlaveState) : Type 0 where
  pub configured : IsConfigured i c s
  pub silent : IsSilent c s
  pub state : s.al.state ≡ SafeOp
  pub error : s.al.error ≡ true
  pub no_request : s.al.requested ≡ false
  pub locked : (manager_at s.managers 2).locked ≡ true
  pub unlocked : (n : ℕ) → n < 4 → n ≢ 2 → (manager_at s.managers n).locked ≡ false

pub record IsFaulted (i : ℕ) (c : Config) (s : SlaveState) : Type 0 where
  pub top : IsTop c.rise
  pub quiet : c.talk ≡ None
  pub faulted : IsFaultedAt i c s

abbrev pub HadFault : ℕ → Stage → SlaveState → Type 0
HadFault i (Up c) s = IsFaulted i c s
HadFault i _ s = ⊥

-- `trouble` is the slave's flag: it had a fault or a reset in this start-up
pub record Stands (kind : SlaveKind) (i : ℕ) (st : Stage) (trouble : Bool) (s : SlaveState) : Type 0 where
  pub slave : IsOfKind kind s
  pub at : Reached i st s ⊎ ((trouble ≡ true) × (IsGone st s ⊎ HadFault i st s))
