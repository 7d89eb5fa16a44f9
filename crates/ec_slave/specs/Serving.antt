-- A firmware step of a slave: the AL request, the SII read and one mailbox message, in this order (ETG.1000.6, "EtherCAT state
-- machine", "Slave information interface" and "Mailbox"; the step and its order are the profile of the simulated slaves).
use Rattle.std.specs.Prelude.{ℕ, ◌+◌, ◌%◌, ◌==◌, ◌&&◌, not, List, map, slice_set, Bool, true, false, if◌then◌else◌, nat_lt, Option, Some, None, is_some, is_none, option_map, option_and_then}
use Rattle.ec_device.specs.declared.hardware.Hardware.{Hardware}
use Rattle.ec_device.specs.Types.{SlaveKind}
use Rattle.ec_device.specs.Hardware.{has_emergency}
use Rattle.ec_device.specs.Objects.{bits_assigned}
use Rattle.ec_sync.specs.SyncManager.{SyncManager, awaiting, empty_manager, is_enabled, message_in, message_taken, message_put, zeros_published}
use Rattle.ec_regs.specs.Managers.{is_mailbox, is_master_read}
use Rattle.ec_al.specs.declared.state.State.{State}
use Rattle.ec_al.specs.declared.state.State.TheVariants.{Init, PreOp, SafeOp, Op}
use Rattle.ec_al.specs.Al.{Al, copied, decided, waiting}
use Rattle.ec_al.specs.States.{state_number}
use Rattle.ec_al.specs.Transitions.{requested_number}
use Rattle.ec_sii.specs.Port as port
use Rattle.ec_coe.specs.declared.message.Message.{Message}
use Rattle.ec_coe.specs.declared.message.Service.{Service}
use Rattle.ec_coe.specs.declared.message.Service.TheVariants.{Request, Response, Other}
use Rattle.ec_coe.specs.Messages.{message_read, message_length}
use Rattle.ec_coe.specs.Objects.{Dictionary, assigned}
use Rattle.ec_coe.specs.Answers.{Answer, answered}
use Rattle.ec_coe.specs.ReplyBytes.{reply_bytes}
use Rattle.ec_coe.specs.Refusals.{refusal_bytes}
use Rattle.ec_coe.specs.Emergency.{emergency_bytes}
use Rattle.ec_slave.specs.State.{SlaveState, manager_at}
use Rattle.ec_slave.specs.Application.{with_manager}
use Rattle.ec_slave.specs.Checking.{checks_of, control_word}

-- ---- states

abbrev pub is_init : State → Bool
is_init Init = true
is_init PreOp = false
is_init SafeOp = false
is_init Op = false

abbrev pub is_preop : State → Bool
is_preop PreOp = true
is_preop Init = false
is_preop SafeOp = false
is_preop Op = false

abbrev pub is_safeop : State → Bool
is_safeop SafeOp = true
is_safeop Init = false
is_safeop PreOp = false
is_safeop Op = false

-- ---- what the slave sends

-- whether messages are answered: in PREOP, SAFEOP and OP, by a type with a mailbox
abbrev pub has_mailbox : SlaveState → Bool
has_mailbox s = not (is_init s.al.state) && is_some s.kind.mailbox

-- manager 1 can take a message: an enabled, empty mailbox that the ring reads
abbrev pub takes_reply : SyncManager → Bool
takes_reply m = is_enabled m && (is_mailbox m.settings && (is_master_read m.settings && is_none m.mail))

-- a message with an SDO fits it
abbrev pub has_room : SyncManager → Bool
has_room m = not (nat_lt m.settings.length message_length)

-- counters of what is sent go 1, 2, .. 7, 1, ..
abbrev pub reply_counter : ℕ → ℕ
reply_counter replies = replies % 7 + 1

-- a message lies in manager 1, and counts
abbrev pub sent : SlaveState → List ℕ → SlaveState
sent s bytes = record s {
  managers = slice_set s.managers 1 (message_put (manager_at s.managers 1) bytes);
  replies = reply_counter s.replies;
}

-- ---- the AL request

abbrev pub unlocked_empty : SyncManager → SyncManager
unlocked_empty m = empty_manager m.settings false

-- The managers as one state is left for another. When INIT is entered they are unlocked and empty. When
-- SAFEOP is entered from PREOP, manager 3 publishes zeros, and an open draft or view stays.
abbrev pub managers_entered : State → State → List SyncManager → List SyncManager
managers_entered old new ms =
    if is_init new && not (is_init old) then map unlocked_empty ms
    else (if is_safeop new && is_preop old then slice_set ms 3 (zeros_published (manager_at ms 3)) else ms)

-- the first reply after PREOP was entered from INIT has counter 1
abbrev pub replies_entered : State → State → ℕ → ℕ
replies_entered old new replies = if is_preop new && is_init old then 0 else replies

-- whether output bits are assigned
abbrev pub has_outputs : SlaveState → Bool
has_outputs s = nat_lt 0 (bits_assigned s.kind.outputs (assigned s.outs))

-- Firmware of real devices wants its outputs before OP (what their firmware stacks do; ETG.1000.6 leaves it to the device): as
-- SAFEOP is entered, manager 2 awaits them, if any are assigned.
abbrev pub outputs_awaited : Option Hardware → Bool → State → State → List SyncManager → List SyncManager
outputs_awaited None outputs old new ms = ms
outputs_awaited (Some h) outputs old new ms =
    if is_safeop new && not (is_safeop old) then slice_set ms 2 (awaiting (manager_at ms 2) (h.has_firmware && outputs)) else ms

-- the same, as what manager 2 awaits from now on; none if that stays as it is
abbrev pub awaited_by : Option Hardware → Bool → State → State → Option Bool
awaited_by None outputs old new = None
awaited_by (Some h) outputs old new = if is_safeop new && not (is_safeop old) then Some (h.has_firmware && outputs) else None

abbrev pub awaited_if : Option Bool → SyncManager → SyncManager
awaited_if None m = m
awaited_if (Some b) m = awaiting m b

-- A slave of a type with `emergency` sends one as it enters PREOP from INIT, before any reply, if it has a mailbox (ETG.1000.6,
-- "Emergency services"). It lies in manager 1, and counts.
abbrev pub greets : SlaveKind → State → State → SyncManager → Bool
greets kind old new m = has_emergency kind.hardware && (is_preop new && (is_init old && (is_some kind.mailbox && (takes_reply m && has_room m))))

abbrev pub emergency_put : Bool → ℕ → List SyncManager → List SyncManager
emergency_put false replies ms = ms
emergency_put true replies ms = slice_set ms 1 (message_put (manager_at ms 1) (emergency_bytes (reply_counter replies)))

abbrev pub emergency_counted : Bool → ℕ → ℕ
emergency_counted false replies = replies
emergency_counted true replies = reply_counter replies

-- managers and counter as a state is entered, before anything is sent
abbrev pub managers_decided : SlaveState → Al → List SyncManager
managers_decided s a = outputs_awaited s.kind.hardware (has_outputs s) s.al.state a.state (managers_entered s.al.state a.state s.managers)

abbrev pub replies_decided : SlaveState → Al → ℕ
replies_decided s a = replies_entered s.al.state a.state s.replies

abbrev pub greets_by : SlaveState → Al → Bool
greets_by s a = greets s.kind s.al.state a.state (manager_at (managers_decided s a) 1)

abbrev pub with_al : SlaveState → Al → SlaveState
with_al s a = record s {
  al = a;
  managers = emergency_put (greets_by s a) (replies_decided s a) (managers_decided s a);
  replies = emergency_counted (greets_by s a) (replies_decided s a);
}

-- Slow firmware lets a request wait for as many steps as the type says; a request that comes meanwhile waits anew.
abbrev pub slow_by : Option Hardware → ℕ → Bool
slow_by None waited = false
slow_by (Some h) waited = h.has_firmware && nat_lt waited h.slow

abbrev pub is_slow : Option Hardware → SlaveState → Bool
is_slow o s = slow_by o s.al.waited

abbrev pub waited_once : SlaveState → SlaveState
waited_once s = record s { al = waiting s.al }

-- Firmware of real devices doesn't decide a request for OP in SAFEOP while outputs are awaited.
abbrev pub awaits_by : Option Hardware → State → ℕ → Bool → Bool
awaits_by None state control awaited = false
awaits_by (Some h) state control awaited = h.has_firmware && (is_safeop state && ((requested_number control == state_number Op) && awaited))

abbrev pub is_awaiting : Option Hardware → SlaveState → Bool
is_awaiting o s = awaits_by o s.al.state (control_word s) (manager_at s.managers 2).awaited

-- the AL state machine after a decision: by the checks, or copied in a device without firmware
abbrev pub al_decided : Option Hardware → SlaveState → Al
al_decided None s = decided s.al (control_word s) (checks_of s)
al_decided (Some h) s = if h.has_firmware then decided s.al (control_word s) (checks_of s) else copied s.al (control_word s)

-- the latest request is decided, by the control word as it now stands, or waits
unfoldable pub request_decided : SlaveState → SlaveState
request_decided s =
    if s.al.requested
    then (if is_slow s.kind.hardware s then waited_once s
    else (if is_awaiting s.kind.hardware s then s
    else with_al s (al_decided s.kind.hardware s)))
    else s

-- ---- the SII read

unfoldable pub read_finished : SlaveState → SlaveState
read_finished s = record s { sii = port.stepped s.sii }

-- ---- one message

-- whether a message is taken now
abbrev pub is_served : SlaveState → Bool
is_served s = has_mailbox s && (takes_reply (manager_at s.managers 1) && is_some (message_in (manager_at s.managers 0)))

abbrev pub is_request : Service → Bool
is_request Request = true
is_request Response = false
is_request (Other number) = false

-- a request that is well-formed, if there is room for the reply
abbrev pub request_for : SyncManager → Option Message → Option Message
request_for m None = None
request_for m (Some r) = if is_request r.service && has_room m then Some r else None

abbrev pub request_in : SlaveState → Option Message
request_in s = request_for (manager_at s.managers 1) (option_and_then message_read (message_in (manager_at s.managers 0)))

abbrev pub dictionary_of : SlaveState → Dictionary
dictionary_of s = record { kind = s.kind; identity = s.identity; outs = s.outs; ins = s.ins; values = s.values }

-- only in PREOP does an assignment change; parameters do in each state
abbrev pub answer_to : SlaveState → Message → Answer
answer_to s r = answered (is_preop s.al.state) (dictionary_of s) r (reply_counter s.replies)

-- the bytes of the answer in manager 1
abbrev pub bytes_to : SlaveState → Message → List ℕ
bytes_to s r = reply_bytes (answer_to s r).dictionary (manager_at s.managers 1).settings.length (answer_to s r).reply

-- the reply lies in manager 1, and counts
abbrev pub replied : SlaveState → Message → SlaveState
replied s r = record s {
  managers = slice_set s.managers 1 (message_put (manager_at s.managers 1) (bytes_to s r));
  kind = (answer_to s r).dictionary.kind;
  identity = (answer_to s r).dictionary.identity;
  outs = (answer_to s r).dictionary.outs;
  ins = (answer_to s r).dictionary.ins;
  values = (answer_to s r).dictionary.values;
  replies = reply_counter s.replies;
}

-- a message that is no request is refused by a full slave, if there is room for that; any other slave drops it
abbrev pub refuses : SlaveState → Bool
refuses s = is_some s.kind.face && has_room (manager_at s.managers 1)

abbrev pub refusal_in : SlaveState → Option (List ℕ)
refusal_in s =
    if refuses s then option_map (λ raw. refusal_bytes raw (reply_counter s.replies)) (message_in (manager_at s.managers 0)) else None

abbrev pub refusal_given : SlaveState → Option (List ℕ) → SlaveState
refusal_given s None = s
refusal_given s (Some bytes) = sent s bytes

abbrev pub reply_given : SlaveState → Option (List ℕ) → Option Message → SlaveState
reply_given s refusal None = refusal_given s refusal
reply_given s refusal (Some r) = replied s r

-- the message is taken out of manager 0, and answered if it is a request, or refused
unfoldable pub message_served : SlaveState → SlaveState
message_served s = if is_served s then reply_given (with_manager s 0 (message_taken (manager_at s.managers 0))) (refusal_in s) (request_in s) else s

-- ---- all of it

unfoldable pub served : SlaveState → SlaveState
served s = message_served (read_finished (request_decided s))
