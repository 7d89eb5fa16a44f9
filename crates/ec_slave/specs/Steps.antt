-- The sync managers of a slave go by the steps of a manager's run, of which the laws over whole runs speak (`ec_sync`,
-- specs/Runs.antt); nothing else happens to one. This file says which steps these are.
use Rattle.std.specs.Prelude.{ℕ, zero, suc, ◌+◌, ◌==◌, ◌&&◌, not, ◌≡◌, ◌≤◌, List, [], ◌∷◌, ◌++◌, length, Bool, true, false, if◌then◌else◌, Option, Some, None, is_some, unwrap_or}
use Rattle.std.specs.List.{All}
use Rattle.ec_device.specs.declared.hardware.Hardware.{Hardware}
use Rattle.ec_al.specs.Al.{Al, is_operational}
use Rattle.ec_al.specs.declared.state.State.{State}
use Rattle.ec_al.specs.declared.state.State.TheVariants.{SafeOp, Op}
use Rattle.ec_coe.specs.declared.message.Message.{Message}
use Rattle.ec_coe.specs.Emergency.{emergency_bytes}
use Rattle.ec_frame.specs.declared.command.Command.{Command}
use Rattle.ec_frame.specs.declared.command.Command.TheVariants.{Nop, Aprd, Apwr, Aprw, Fprd, Fpwr, Fprw, Brd, Bwr, Brw, Lrd, Lwr, Lrw, Armw, Frmw}
use Rattle.ec_frame.specs.Datagram.{Datagram, adp_of}
use Rattle.ec_fmmu.specs.Applied.{touched_by_reading, touched_by_writing}
use Rattle.ec_sync.specs.SyncManager.{SyncManager, message_taken}
use Rattle.ec_sync.specs.Runs.{Operation, Configure, Lock, Empty, PublishZeros, Await, RingWrite, RingRead, AppPut, AppGet, MessageTake, MessagePut, step, run}
use Rattle.ec_slave.specs.Roles.{role_of, is_reading, is_writing}
use Rattle.ec_slave.specs.State.{SlaveState, manager_at, fmmus, power_on, station_of}
use Rattle.ec_slave.specs.Managers.{gets_at, is_written_by, manager_after}
use Rattle.ec_slave.specs.Physical.{touches, is_configured, settings_written}
use Rattle.ec_slave.specs.Logical.{span_of}
use Rattle.ec_slave.specs.AgainstAll.{governs_among, value_among, bits_among}
use Rattle.ec_slave.specs.Meeting.{slave_met, window_of}
use Rattle.ec_slave.specs.Application.{input_put, output_got, output_taken, with_manager}
use Rattle.ec_slave.specs.Serving.{served, is_init, is_preop, is_safeop, reply_counter, al_decided, awaited_by, has_outputs, greets_by, replies_decided, is_slow, is_awaiting, request_decided, read_finished, is_served, request_in, refusal_in, bytes_to}
use Rattle.ec_slave.specs.Faulting.{faulted}

-- One manager after an access is as after one step: what counts as reaching its first and its last byte is that the
-- access gets at it. One that reads and writes does one of the two.
pub record AccessesAreSteps : Type 0 where
  pub writes : (read_touches write_touches own : ℕ → Bool) (value : ℕ → ℕ → List ℕ) (m : SyncManager)
      → manager_after false true read_touches write_touches own value m
      ≡ step m (RingWrite (gets_at write_touches own m) (value m.settings.start m.settings.length))
  pub reads : (read_touches write_touches own : ℕ → Bool) (value : ℕ → ℕ → List ℕ) (m : SyncManager)
      → manager_after true false read_touches write_touches own value m ≡ step m (RingRead (gets_at read_touches own m))
  pub both : (read_touches write_touches own : ℕ → Bool) (value : ℕ → ℕ → List ℕ) (m : SyncManager)
      → manager_after true true read_touches write_touches own value m
      ≡ step m (if is_written_by write_touches own m then RingWrite true (value m.settings.start m.settings.length)
      else RingRead (gets_at read_touches own m))

-- ---- what happens to a slave

-- A datagram meets it; its firmware makes a step; it has a fault; its application puts a byte of the inputs, or gets one
-- of the outputs; it is switched off and on.
pub data Happening : Type 0 where
  Meets : Datagram → Happening
  Serves : Happening
  Faults : Happening
  Puts : (offset byte : ℕ) → Happening
  Gets : (offset : ℕ) → Happening
  Resets : Happening

abbrev pub after_one : SlaveState → Happening → SlaveState
after_one s (Meets d) = slave_met s d
after_one s Serves = served s
after_one s Faults = faulted s
after_one s (Puts offset byte) = unwrap_or (input_put s offset byte) s
after_one s (Gets offset) = output_taken s (output_got s offset)
after_one s Resets = power_on s.kind s.identity

-- ---- the steps that it does to manager n

-- the steps that f gives manager n, if there is one; the first of the list has number k
abbrev pub said_from : ℕ → (ℕ → SyncManager → List Operation) → List SyncManager → ℕ → List Operation
said_from k f [] n = []
said_from k f (m ∷ ms) zero = f k m
said_from k f (m ∷ ms) (suc n) = said_from (k + 1) f ms n

-- these steps to every manager; to manager k alone
abbrev pub to_each : List Operation → List SyncManager → ℕ → List Operation
to_each ops ms n = said_from 0 (λ j m. ops) ms n

abbrev pub to_one : ℕ → List Operation → List SyncManager → ℕ → List Operation
to_one k ops ms n = said_from 0 (λ j m. if j == k then ops else []) ms n

-- An access that writes brings a value to the manager, and counts if it gets at the first byte and the last; one that reads
-- likewise. One that does both reads if it doesn't write.
abbrev pub access_steps : Bool → Bool → (ℕ → Bool) → (ℕ → Bool) → (ℕ → Bool) → (ℕ → ℕ → List ℕ) → SyncManager → List Operation
access_steps true true read_touches write_touches own value m =
    (if is_written_by write_touches own m then RingWrite true (value m.settings.start m.settings.length) else RingRead (gets_at read_touches own m)) ∷ []
access_steps true false read_touches write_touches own value m = RingRead (gets_at read_touches own m) ∷ []
access_steps false true read_touches write_touches own value m = RingWrite (gets_at write_touches own m) (value m.settings.start m.settings.length) ∷ []
access_steps false false read_touches write_touches own value m = []

-- A physical datagram sets a manager whose registers it writes, and accesses any other by the bytes that it touches. The value
-- is what it brings to the bytes that the manager governs.
abbrev pub physical_steps : SlaveState → Datagram → ℕ → List Operation
physical_steps s d n =
    let role = role_of d.command (adp_of d) (station_of s) in
    let w = window_of d in
    said_from 0 (λ k m. if is_writing role && is_configured s.kind.hardware w k then Configure (settings_written s.kind.hardware w k m) ∷ []
    else access_steps (is_reading role) (is_writing role) (touches w) (touches w) (governs_among s.managers k) (value_among s.managers w k) m) s.managers n

-- a logical one likewise, by the bits that FMMUs lead it to
abbrev pub logical_steps : SlaveState → Bool → Bool → Datagram → ℕ → List Operation
logical_steps s reading writing d n =
    said_from 0 (λ k m. access_steps reading writing (touched_by_reading (fmmus s) (span_of d)) (touched_by_writing (fmmus s) (span_of d))
    (governs_among s.managers k) (bits_among s.managers (fmmus s) (span_of d) d.data_bytes k) m) s.managers n

abbrev pub steps_met : Command → SlaveState → Datagram → ℕ → List Operation
steps_met Nop s d n = []
steps_met Aprd s d n = physical_steps s d n
steps_met Apwr s d n = physical_steps s d n
steps_met Aprw s d n = physical_steps s d n
steps_met Fprd s d n = physical_steps s d n
steps_met Fpwr s d n = physical_steps s d n
steps_met Fprw s d n = physical_steps s d n
steps_met Brd s d n = physical_steps s d n
steps_met Bwr s d n = physical_steps s d n
steps_met Brw s d n = physical_steps s d n
steps_met Lrd s d n = logical_steps s true false d n
steps_met Lwr s d n = logical_steps s false true d n
steps_met Lrw s d n = if s.kind.lrw then logical_steps s true true d n else []
steps_met Armw s d n = physical_steps s d n
steps_met Frmw s d n = physical_steps s d n

-- one state is left for another: INIT unlocks and empties all managers, SAFEOP behind PREOP publishes zeros in manager 3, and
-- in manager 2 of a type of real devices it awaits outputs
abbrev pub steps_entered : State → State → List SyncManager → ℕ → List Operation
steps_entered old new ms n =
    if is_init new && not (is_init old) then to_each (Lock false ∷ Empty ∷ []) ms n
    else (if is_safeop new && is_preop old then to_one 3 (PublishZeros ∷ []) ms n else [])

abbrev pub steps_awaited : Option Hardware → Bool → State → State → List SyncManager → ℕ → List Operation
steps_awaited None outputs old new ms n = []
steps_awaited (Some h) outputs old new ms n =
    if is_safeop new && not (is_safeop old) then to_one 2 (Await (h.has_firmware && outputs) ∷ []) ms n else []

-- an emergency is put into manager 1
abbrev pub steps_greeted : Bool → ℕ → List SyncManager → ℕ → List Operation
steps_greeted false replies ms n = []
steps_greeted true replies ms n = to_one 1 (MessagePut (emergency_bytes (reply_counter replies)) ∷ []) ms n

-- what a decision does
abbrev pub steps_to : SlaveState → Al → ℕ → List Operation
steps_to s a n =
    (steps_entered s.al.state a.state s.managers n ++ steps_awaited s.kind.hardware (has_outputs s) s.al.state a.state s.managers n)
    ++ steps_greeted (greets_by s a) (replies_decided s a) s.managers n

abbrev pub steps_decided : SlaveState → ℕ → List Operation
steps_decided s n =
    if s.al.requested
    then (if is_slow s.kind.hardware s then []
    else (if is_awaiting s.kind.hardware s then []
    else steps_to s (al_decided s.kind.hardware s) n))
    else []

-- the bytes that a message is answered by, or refused
abbrev pub bytes_back : SlaveState → Option (List ℕ) → Option Message → Option (List ℕ)
bytes_back s refusal None = refusal
bytes_back s refusal (Some r) = Some (bytes_to s r)

abbrev pub put_back : Option (List ℕ) → List Operation
put_back None = []
put_back (Some bytes) = MessagePut bytes ∷ []

-- a message is taken out of manager 0, and what answers it is put into manager 1
abbrev pub message_steps : Option (List ℕ) → ℕ → SyncManager → List Operation
message_steps back n m = if n == 0 then MessageTake ∷ [] else (if n == 1 then put_back back else [])

abbrev pub steps_answered : SlaveState → ℕ → List Operation
steps_answered s n =
    if is_served s
    then said_from 0 (message_steps (bytes_back (with_manager s 0 (message_taken (manager_at s.managers 0))) (refusal_in s) (request_in s))) s.managers n
    else []

-- what is awaited from now on, if that is said
abbrev pub steps_said : Option Bool → List Operation
steps_said None = []
steps_said (Some b) = Await b ∷ []

-- A fault locks and empties the outputs, which a type of real devices then awaits. A byte that the application may put or get is put or got. A slave that is switched off
-- and on has new managers.
abbrev pub steps_at : SlaveState → Happening → ℕ → List Operation
steps_at s (Meets d) n = steps_met d.command s d n
steps_at s Serves n = steps_decided s n ++ steps_answered (read_finished (request_decided s)) n
steps_at s Faults n = if is_operational s.al.state then to_one 2 (Lock true ∷ Empty ∷ steps_said (awaited_by s.kind.hardware (has_outputs s) Op SafeOp)) s.managers n else []
steps_at s (Puts offset byte) n = if is_some (input_put s offset byte) then to_one 3 (AppPut offset byte ∷ []) s.managers n else []
steps_at s (Gets offset) n = if is_some (output_got s offset) then to_one 2 (AppGet offset ∷ []) s.managers n else []
steps_at s Resets n = []

-- ---- who acts

-- by who acts: a datagram, the slave's firmware, its application
abbrev pub is_of_ring : Operation → Bool
is_of_ring (Configure settings) = true
is_of_ring (RingWrite covered value) = true
is_of_ring (RingRead covered) = true
is_of_ring o = false

abbrev pub is_of_firmware : Operation → Bool
is_of_firmware (Lock locked) = true
is_of_firmware Empty = true
is_of_firmware PublishZeros = true
is_of_firmware (Await awaited) = true
is_of_firmware MessageTake = true
is_of_firmware (MessagePut message) = true
is_of_firmware o = false

abbrev pub is_of_application : Operation → Bool
is_of_application (AppPut i x) = true
is_of_application (AppGet i) = true
is_of_application o = false

-- these steps, at most so many and all of a kind, lead from one manager to the other
pub record IsRunTo (kind : Operation → Bool) (most : ℕ) (operations : List Operation) (m after : SyncManager) : Type 0 where
  pub of_kind : All (λ o. kind o ≡ true) operations
  pub few : length operations ≤ most
  pub leads : run m operations ≡ after

-- and from each manager of a slave to the one of that number
abbrev pub AreRunTo : (Operation → Bool) → ℕ → SlaveState → Happening → Type 0
AreRunTo kind most s h = (n : ℕ) → IsRunTo kind most (steps_at s h n) (manager_at s.managers n) (manager_at (after_one s h).managers n)

-- A datagram does one step to a manager, or none; a firmware step does three: a state is entered, and a message taken or
-- put; a fault does three at most; the application does one with each byte.
pub record ManagersGoByRuns : Type 0 where
  pub met : (s : SlaveState) (d : Datagram) → AreRunTo is_of_ring 1 s (Meets d)
  pub served : (s : SlaveState) → AreRunTo is_of_firmware 3 s Serves
  pub faulted : (s : SlaveState) → AreRunTo is_of_firmware 3 s Faults
  pub put : (s : SlaveState) (offset byte : ℕ) → AreRunTo is_of_application 1 s (Puts offset byte)
  pub taken : (s : SlaveState) (offset : ℕ) → AreRunTo is_of_application 1 s (Gets offset)
