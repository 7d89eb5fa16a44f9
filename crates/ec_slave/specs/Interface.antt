-- What the crates above may know of a slave: the words of it and of its parts, handed on, and laws for each thing that happens
-- to it. Nothing above opens a definition of this crate; what is not said here can change without them.
use Rattle.std.specs.Int.{from_bool, to_le_bytes, w32}
use Rattle.std.specs.Prelude.{ℕ, zero, suc, ◌+◌, ◌-◌, ◌*◌, ◌%◌, ◌^◌, ◌<◌, ◌≤◌, ◌≡◌, ◌≢◌, ◌==◌, ◌⊎◌, List, [], ◌∷◌, length, map, take, slice_index, slice_set, unwrap_or, Bool, true, false, if◌then◌else◌, Option, Some, None}
use Rattle.ec_bits.specs.Bits.{within}
pub use Rattle.ec_frame.specs.Building.{bare_payload}
pub use Rattle.ec_frame.specs.Datagram.{Datagram, adp_of, ado_of, IsDatagram}
pub use Rattle.ec_frame.specs.Fields.{with_adp}
pub use Rattle.ec_frame.specs.Frame.{Payload, IsFrame, with_datagrams}
use Rattle.ec_frame.specs.Walk.{KeepsLength}
pub use Rattle.ec_frame.specs.declared.command.Command.{Command}
pub use Rattle.ec_frame.specs.declared.command.Command.TheVariants.{Nop, Lrd, Lwr, Lrw, Bwr, Fprd, Fpwr, Apwr, Fprw, Brd}
pub use Rattle.ec_device.specs.Objects.{bits_assigned, pdo_at}
pub use Rattle.ec_device.specs.Types.{SlaveKind, device_of, IsEntry, IsMailbox, ArePdos, first_output_index, first_input_index, IsPdo, IsWithinLimits, plain_kind, device_identity}
pub use Rattle.ec_device.specs.declared.hardware.Hardware.{Hardware}
pub use Rattle.ec_device.specs.Hardware.{AreNumbered, fmmu_count, has_emergency, has_firmware, is_assignable, is_fixed, manager_number, manager_place, other_name, slow}
pub use Rattle.ec_device.specs.declared.slave_type.Device.{Device}
pub use Rattle.ec_device.specs.declared.slave_type.Entry.{Entry}
pub use Rattle.ec_device.specs.declared.slave_type.Identity.{Identity}
pub use Rattle.ec_device.specs.declared.slave_type.Mailbox.{Mailbox}
pub use Rattle.ec_device.specs.declared.slave_type.Pdo.{Pdo}
pub use Rattle.ec_regs.specs.Fmmus.{fmmu_bytes, no_fmmu, fmmu_of}
pub use Rattle.ec_regs.specs.Managers.{no_settings, manager_bytes, area_settings, outputs_control, inputs_control, is_mailbox, is_master_written, is_master_read, span, is_buffered, settings_of}
pub use Rattle.ec_regs.specs.Names.{shown_fmmu, shown_manager}
use Rattle.ec_regs.specs.Memory.{station_address, fmmu_start}
pub use Rattle.ec_regs.specs.Memory.{al_control, al_status, sii_control, sii_data, sync_managers, manager_start, ram_start, ram_end, is_stored, takes_writes}
pub use Rattle.ec_regs.specs.Words.{al_flag, sii_error, sii_busy, al_word}
pub use Rattle.ec_regs.specs.declared.fmmu.FmmuSettings.{FmmuSettings}
pub use Rattle.ec_regs.specs.declared.manager.SyncManagerSettings.{SyncManagerSettings}
pub use Rattle.ec_al.specs.Al.{Al, requesting, waiting, decided, answered, copied, status_word}
pub use Rattle.ec_al.specs.States.{state_number, code_number}
pub use Rattle.ec_al.specs.Transitions.{answer, requested_by, acknowledges}
pub use Rattle.ec_al.specs.declared.state.State.{State}
pub use Rattle.ec_al.specs.declared.state.State.TheVariants.{Init, PreOp, SafeOp, Op}
pub use Rattle.ec_al.specs.declared.status_code.StatusCode.{StatusCode}
pub use Rattle.ec_al.specs.declared.status_code.StatusCode.TheVariants.{InvalidMailboxConfiguration, InvalidOutputConfiguration, InvalidInputConfiguration}
pub use Rattle.ec_al.specs.declared.transition.Checks.{Checks}
use Rattle.ec_dl.specs.DataLink.{new_data_link, dl_written}
pub use Rattle.ec_sii.specs.Laws.{read_command}
pub use Rattle.ec_sii.specs.Port.{Sii, byte_for, commanded, addressed, address_written}
pub use Rattle.ec_sii.specs.SiiImage.{image_of, size_of}
pub use Rattle.ec_sii.specs.declared.image.SiiImage.{SiiImage}
pub use Rattle.ec_sync.specs.Buffer.{emptied_buffer, Buffer, Got, view_next, drafted, draft_next, publishing}
pub use Rattle.ec_sync.specs.Governing.{governor, covers, in_first_buffer, governs}
use Rattle.ec_sync.specs.Sound.{IsManager}
pub use Rattle.ec_sync.specs.SyncManager.{SyncManager, no_manager, empty_manager, configured, padded, ring_read, ring_written, awaiting, buffer_length, app_put, may_app_put, may_app_get, app_got, is_enabled, message_in as sync_manager_message_in, may_write, may_read, visible, zeros_published}
pub use Rattle.ec_fmmu.specs.Applied.{LogicalSpan, inside_span}
pub use Rattle.ec_fmmu.specs.Areas.{Area, Spans}
pub use Rattle.ec_fmmu.specs.Sets.{target, source, readers, writers}
pub use Rattle.ec_coe.specs.Answers.{Answer, answer_by, download_answer, upload_answer, reply_to}
pub use Rattle.ec_coe.specs.Emergency.{emergency_bytes}
pub use Rattle.ec_coe.specs.Messages.{message_length, size_number, message_read, message_bytes, message_in, command_of, command_number, service_of, service_number}
pub use Rattle.ec_coe.specs.Objects.{value_of, is_assignment, parameter_of, has_parameters, no_values_if, own_values, all_assigned, assigned, Assignment, indices, byte_value, word_value, output_assignment, input_assignment, has_some, Dictionary, identity_object, entry_number, long_value, assignment_values, pdo_values, device_name_object, face_values_of, send_room}
pub use Rattle.ec_coe.specs.Replies.{reply_of, reply_by, response_in, abort_in, is_aside, is_unsized, sized_command, sized_message, free_reply_of}
pub use Rattle.ec_coe.specs.SwitchedOn.{bare_dictionary, value_size, number_or_zero, first_value, first_values, new_dictionary}
pub use Rattle.ec_coe.specs.ReplyBytes.{reply_bytes}
pub use Rattle.ec_coe.specs.Transfers.{object_written, parameter_written, written_by, kept_value, uploaded_by, contains, distinct, value_or_abort, value_at, takes_value, is_open, with_value, with_outs, with_ins}
pub use Rattle.ec_coe.specs.declared.abort_code.AbortCode.{AbortCode}
pub use Rattle.ec_coe.specs.declared.message.Message.{Message}
pub use Rattle.ec_coe.specs.declared.message.SdoCommand.{SdoCommand}
pub use Rattle.ec_coe.specs.declared.message.SdoCommand.TheVariants.{DownloadRequest, DownloadResponse, UploadRequest, UploadResponse, Abort}
pub use Rattle.ec_coe.specs.declared.message.Service.{Service}
pub use Rattle.ec_coe.specs.declared.message.Service.TheVariants.{Request, Response, Other}
pub use Rattle.ec_coe.specs.declared.reply.Reply.{Reply}
pub use Rattle.ec_coe.specs.declared.reply.Reply.TheVariants.{Downloaded, Uploaded, Aborted, Unexpected}
pub use Rattle.ec_coe.specs.declared.value.SdoValue.{SdoValue}
pub use Rattle.ec_coe.specs.declared.value.ValueSize.{ValueSize}
pub use Rattle.ec_coe.specs.declared.value.ValueSize.TheVariants.{One, Two, Three, Four}
pub use Rattle.ec_slave.specs.Application.{get_size, put_size, input_put, inputs_put, output_got, output_taken, outputs_taken, is_running, with_manager, outputs_shown}
pub use Rattle.ec_slave.specs.Checking.{checks_of, control_word, mailbox_check, process_check, outputs_mode, inputs_mode, is_manager}
use Rattle.ec_slave.specs.Column.{datagram_past}
pub use Rattle.ec_slave.specs.Exchange.{with_outputs, with_published, outputs_from, inputs_into, inputs_of, IsMapped, takes, gives, IsBufferAt}
pub use Rattle.ec_slave.specs.Faulting.{faulted, outputs_lost}
pub use Rattle.ec_slave.specs.Logical.{meets_logically, span_of}
pub use Rattle.ec_slave.specs.LogicalLaws.{Misses}
pub use Rattle.ec_slave.specs.Managers.{reads_under, writes_under, is_ungoverned, is_read_by, is_written_by}
pub use Rattle.ec_slave.specs.Meeting.{window_of, meets, slave_met, datagram_met, passes, Passed, IsPassed}
pub use Rattle.ec_slave.specs.Physical.{Window, touches, byte_at, ram_byte, may_read_byte, may_write_byte, byte_read, updated, memory_written, is_missing, keeps, as_shown, numbered_byte, is_configured, settings_written, physical_value, physical_manager, physical_managers, physical_after, some_byte_read, is_written, some_byte_written}
pub use Rattle.ec_slave.specs.Roles.{role_of, adp_after, is_reading, is_writing, is_joining}
pub use Rattle.ec_slave.specs.Serving.{with_al, request_decided, read_finished, is_served, request_in, answer_to, bytes_to, message_served, served, dictionary_of, is_preop, has_mailbox, takes_reply, request_for, reply_counter, is_init, unlocked_empty, managers_entered, replies_entered, al_decided, is_slow, is_awaiting, outputs_awaited, has_outputs, has_room, sent, greets, greets_by, emergency_put, emergency_counted, managers_decided, replies_decided}
use Rattle.ec_slave.specs.Sound.{IsSlave}
pub use Rattle.ec_slave.specs.State.{SlaveState, manager_at, station_of, power_on, fmmus, Met, with_answer, with_memory, fmmus_of}
use Rattle.ec_al.specs.Al as al
use Rattle.ec_sii.specs.Port as port

-- ---- the power comes on

-- a slave that was just switched on
pub record IsSwitchedOn (kind : SlaveKind) (identity : Identity) (s : SlaveState) : Type 0 where
  pub kind_is : s.kind ≡ kind
  pub identity_is : s.identity ≡ identity
  pub room : length s.memory ≡ ram_end
  pub memory : (a : ℕ) → slice_index s.memory a ≡ 0
  pub managers : s.managers ≡ no_manager ∷ no_manager ∷ no_manager ∷ no_manager ∷ []
  pub al : s.al ≡ al.power_on
  pub sii : s.sii ≡ port.idle_port (image_of kind identity)
  pub link : s.link ≡ new_data_link kind.face
  pub outs : s.outs ≡ all_assigned kind.outputs
  pub ins : s.ins ≡ all_assigned kind.inputs
  pub values : s.values ≡ first_values kind identity

abbrev pub SlavesAreSwitchedOn : Type 0
SlavesAreSwitchedOn = (kind : SlaveKind) (identity : Identity) → IsSwitchedOn kind identity (power_on kind identity)

-- ---- a firmware step

-- what a step settles: no request waits, one at slow firmware aside, and one for OP while outputs are awaited; and the SII isn't busy
pub record Settles (s t : SlaveState) : Type 0 where
  pub al : is_slow s.kind.hardware s ≡ false → is_awaiting s.kind.hardware s ≡ false → t.al ≡ (if s.al.requested then al_decided s.kind.hardware s else s.al)
  pub no_request : is_slow s.kind.hardware s ≡ false → is_awaiting s.kind.hardware s ≡ false → t.al.requested ≡ false
  pub awaits : is_slow s.kind.hardware s ≡ false → is_awaiting s.kind.hardware s ≡ true → t.al ≡ s.al
  pub slow : is_slow s.kind.hardware s ≡ true → t.al ≡ (if s.al.requested then waiting s.al else s.al)
  pub sii : t.sii ≡ port.stepped s.sii
  pub idle : t.sii.busy ≡ false
  pub image : t.sii.image ≡ s.sii.image

abbrev pub StepsSettle : Type 0
StepsSettle = (s : SlaveState) → Settles s (served s)

-- It has three parts, one after the other: the request, the read of the SII, one message.
abbrev pub StepsHaveThreeParts : Type 0
StepsHaveThreeParts = (s : SlaveState) → served s ≡ message_served (read_finished (request_decided s))

-- A request that waits is decided, by the control word as it now stands; without one, and while outputs are awaited, nothing
-- changes. At slow firmware it goes on waiting.
pub record IsDecided (s t : SlaveState) : Type 0 where
  pub rests : s.al.requested ≡ false → t ≡ s
  pub slow : s.al.requested ≡ true → is_slow s.kind.hardware s ≡ true → t ≡ record s { al = waiting s.al }
  pub awaits : is_slow s.kind.hardware s ≡ false → is_awaiting s.kind.hardware s ≡ true → t ≡ s
  pub decides : s.al.requested ≡ true → is_slow s.kind.hardware s ≡ false → is_awaiting s.kind.hardware s ≡ false → t ≡ with_al s (al_decided s.kind.hardware s)

abbrev pub RequestsAreDecided : Type 0
RequestsAreDecided = (s : SlaveState) → IsDecided s (request_decided s)

-- A slave of a type that says nothing of real devices decides each request at once, by its checks, and sends no emergency.
pub record DecidesAtOnce (s : SlaveState) : Type 0 where
  pub decides : al_decided s.kind.hardware s ≡ al.decided s.al (control_word s) (checks_of s)
  pub at_once : is_awaiting s.kind.hardware s ≡ false
  pub quick : is_slow s.kind.hardware s ≡ false
  pub quiet : (a : Al) → greets_by s a ≡ false

abbrev pub PlainTypesDecide : Type 0
PlainTypesDecide = (s : SlaveState) → s.kind.hardware ≡ None → DecidesAtOnce s

-- what the checks look at: managers 0 and 1, and managers 2 and 3 beside the PDOs that are assigned
pub record AreChecks (s : SlaveState) : Type 0 where
  pub mailbox : (checks_of s).mailbox ≡ mailbox_check s.managers s.kind.mailbox
  pub outputs : (checks_of s).outputs ≡ process_check (manager_at s.managers 2) (bits_assigned s.kind.outputs (assigned s.outs)) s.kind.out_start outputs_mode
  pub inputs : (checks_of s).inputs ≡ process_check (manager_at s.managers 3) (bits_assigned s.kind.inputs (assigned s.ins)) s.kind.in_start inputs_mode

abbrev pub ChecksAreOfManagers : Type 0
ChecksAreOfManagers = (s : SlaveState) → AreChecks s

-- The read of the SII changes the port alone, which is idle then; without a read nothing changes.
pub record IsRead (s t : SlaveState) : Type 0 where
  pub is : t ≡ record s { sii = port.stepped s.sii }
  pub idle : t.sii.busy ≡ false
  pub rests : s.sii.busy ≡ false → t ≡ s

abbrev pub ReadsAreFinished : Type 0
ReadsAreFinished = (s : SlaveState) → IsRead s (read_finished s)

-- A message changes the two mailboxes, the assignments, the parameters and the counter of the replies, and nothing else. A parameter
-- keeps its length, and a fixed assignment stays.
pub record KeepsBesideMessages (s t : SlaveState) : Type 0 where
  pub kind : t.kind ≡ s.kind
  pub identity : t.identity ≡ s.identity
  pub memory : t.memory ≡ s.memory
  pub al : t.al ≡ s.al
  pub sii : t.sii ≡ s.sii
  pub link : t.link ≡ s.link
  pub count : length t.managers ≡ length s.managers
  pub settings : (n : ℕ) → (manager_at t.managers n).settings ≡ (manager_at s.managers n).settings
  pub locked : (n : ℕ) → (manager_at t.managers n).locked ≡ (manager_at s.managers n).locked
  pub awaited : (n : ℕ) → (manager_at t.managers n).awaited ≡ (manager_at s.managers n).awaited
  pub others : (n : ℕ) → 2 ≤ n → manager_at t.managers n ≡ manager_at s.managers n
  pub out_slots : length t.outs.slots ≡ length s.outs.slots
  pub in_slots : length t.ins.slots ≡ length s.ins.slots
  pub fixed : is_fixed s.kind.hardware ≡ true → (t.outs ≡ s.outs) × (t.ins ≡ s.ins)
  pub sizes : map (λ (v : SdoValue). size_number v.size) t.values ≡ map (λ (v : SdoValue). size_number v.size) s.values

abbrev pub MessagesKeep : Type 0
MessagesKeep = (s : SlaveState) → KeepsBesideMessages s (message_served s)

-- No message is taken if there is none, in INIT, or by a type without a mailbox.
pub record RestsWithoutMessages (s t : SlaveState) : Type 0 where
  pub waits : is_served s ≡ false → t ≡ s
  pub empty : (manager_at s.managers 0).mail ≡ None → t ≡ s
  pub in_init : s.al.state ≡ Init → t ≡ s
  pub no_mailbox : s.kind.mailbox ≡ None → t ≡ s

abbrev pub MessagesRest : Type 0
MessagesRest = (s : SlaveState) → RestsWithoutMessages s (message_served s)

-- A request is answered: it is taken out of manager 0, its answer lies in manager 1, and assignments and parameters are the answer's.
pub record IsAnswered (s : SlaveState) (r : Message) (t : SlaveState) : Type 0 where
  pub no_message : (manager_at t.managers 0).mail ≡ None
  pub reply : (manager_at t.managers 1).mail ≡ Some (padded (manager_at s.managers 1) (bytes_to s r))
  pub outs : t.outs ≡ (answer_to s r).dictionary.outs
  pub ins : t.ins ≡ (answer_to s r).dictionary.ins
  pub values : t.values ≡ (answer_to s r).dictionary.values
  pub counter : t.replies ≡ reply_counter s.replies

abbrev pub RequestsAreAnswered : Type 0
RequestsAreAnswered =
    (s : SlaveState) (r : Message) → 1 < length s.managers → is_served s ≡ true → request_in s ≡ Some r → message_length ≤ (manager_at s.managers 1).settings.length
    → IsAnswered s r (message_served s)

-- ---- a fault, and the application

-- a manager that was locked and emptied, whether it is awaited or not
pub record IsLost (old new : SyncManager) : Type 0 where
  pub settings : new.settings ≡ old.settings
  pub locked : new.locked ≡ true
  pub buffer : new.buffer ≡ emptied_buffer (buffer_length old.settings)
  pub mail : new.mail ≡ None

-- In OP a fault takes the state back, and empties and locks the outputs; in other states it does nothing.
pub record IsAfterFault (s t : SlaveState) : Type 0 where
  pub in_op : al.is_operational s.al.state ≡ true → t ≡ record s { al = al.faulted s.al; managers = slice_set s.managers 2 (outputs_lost s) }
  pub lost : IsLost (manager_at s.managers 2) (outputs_lost s)
  pub elsewhere : al.is_operational s.al.state ≡ false → t ≡ s

abbrev pub FaultsAreInOp : Type 0
FaultsAreInOp = (s : SlaveState) → IsAfterFault s (faulted s)

-- Inputs are written, and outputs read, byte after byte.
pub record GoByBytes (s : SlaveState) (inputs : List ℕ) : Type 0 where
  pub none_put : inputs_put s inputs zero ≡ s
  pub more_put : (n : ℕ) → inputs_put s inputs (suc n) ≡ unwrap_or (input_put (inputs_put s inputs n) n (slice_index inputs n)) (inputs_put s inputs n)
  pub none_taken : outputs_taken s zero ≡ s
  pub more_taken : (n : ℕ) → outputs_taken s (suc n) ≡ output_taken (outputs_taken s n) (output_got (outputs_taken s n) n)

abbrev pub ApplicationsGoByBytes : Type 0
ApplicationsGoByBytes = (s : SlaveState) (inputs : List ℕ) → GoByBytes s inputs

-- the manager after a read of its outputs has ended
abbrev pub view_closed : SyncManager → SyncManager
view_closed m = record m { buffer = record m.buffer { view = None } }

-- the manager with these inputs published, and without a draft
abbrev pub inputs_published : SyncManager → List ℕ → SyncManager
inputs_published m inputs = record m { buffer = record m.buffer { published = inputs; draft = None } }

-- Whole values. An application that reads all bytes of its outputs, one after the other, sees those that were published last, and
-- closes its view; one that writes all bytes of its inputs publishes them as one value. If it has none, the slave stays.
pub record GoesWhole (s : SlaveState) : Type 0 where
  pub seen : take (get_size s) (outputs_shown s) ≡ (if get_size s == 0 then [] else (manager_at s.managers 2).buffer.published)
  pub taken : outputs_taken s (get_size s) ≡ (if get_size s == 0 then s else with_manager s 2 (view_closed (manager_at s.managers 2)))
  pub put : (inputs : List ℕ) → length inputs ≡ put_size s
      → inputs_put s inputs (length inputs) ≡ (if put_size s == 0 then s else with_manager s 3 (inputs_published (manager_at s.managers 3) inputs))

abbrev pub ApplicationsGoWhole : Type 0
ApplicationsGoWhole = (s : SlaveState) → IsSlave s → GoesWhole s

-- A buffered manager has its length three times in the RAM of 8 kB, so no application writes over 2,730 bytes of inputs.
abbrev pub FewInputs : Type 0
FewInputs = (s : SlaveState) → put_size s ≤ 2730

-- ---- any datagram

-- what no datagram changes: what a slave is, its state, its assignments and its parameters, how much there is of memory and managers, and the
-- registers of FMMUs that it lacks; and it makes no manager await a value
pub record KeepsInside (s t : SlaveState) : Type 0 where
  pub kind : t.kind ≡ s.kind
  pub identity : t.identity ≡ s.identity
  pub room : length t.memory ≡ length s.memory
  pub count : length t.managers ≡ length s.managers
  pub locked : (n : ℕ) → (manager_at t.managers n).locked ≡ (manager_at s.managers n).locked
  pub awaited : (n : ℕ) → (manager_at s.managers n).awaited ≡ false → (manager_at t.managers n).awaited ≡ false
  pub missing : (a : ℕ) → is_missing s.kind.hardware a ≡ true → slice_index t.memory a ≡ slice_index s.memory a
  pub state : t.al.state ≡ s.al.state
  pub image : t.sii.image ≡ s.sii.image
  pub outs : t.outs ≡ s.outs
  pub ins : t.ins ≡ s.ins
  pub values : t.values ≡ s.values

abbrev pub DatagramsKeepTheInside : Type 0
DatagramsKeepTheInside = (s : SlaveState) (d : Datagram) → KeepsInside s (slave_met s d)

-- the values of all managers are as long as their settings say
abbrev pub AreWhole : SlaveState → Type 0
AreWhole s = (n : ℕ) → IsManager (manager_at s.managers n)

-- They are when the power comes on, and they stay so, whatever happens.
pub record StayWhole (s : SlaveState) : Type 0 where
  pub met : (d : Datagram) → AreWhole (slave_met s d)
  pub served : AreWhole (served s)
  pub faulted : AreWhole (faulted s)
  pub put : (i x : ℕ) (t : SlaveState) → input_put s i x ≡ Some t → AreWhole t
  pub taken : (i : ℕ) → AreWhole (output_taken s (output_got s i))

abbrev pub SwitchedOnWhole : Type 0
SwitchedOnWhole = (kind : SlaveKind) (identity : Identity) → AreWhole (power_on kind identity)

abbrev pub ValuesStayWhole : Type 0
ValuesStayWhole = (s : SlaveState) → AreWhole s → StayWhole s

-- ---- a datagram, by its command

-- whatever a datagram does, it goes on with its command, and with the ADP that its command leaves
pub record GoesOn (before after : Datagram) : Type 0 where
  pub command : after.command ≡ before.command
  pub address : after.address ≡ adp_after before.command (adp_of before) + 65536 * ado_of before

abbrev pub DatagramsGoOn : Type 0
DatagramsGoOn = (s : SlaveState) (d : Datagram) → GoesOn d (datagram_met s d)

-- a datagram stays one, of the same length
abbrev pub DatagramsStay : Type 0
DatagramsStay = KeepsLength datagram_met

-- and so it does past slave after slave
abbrev pub DatagramsStayPast : Type 0
DatagramsStayPast = KeepsLength datagram_past

-- the datagram writes at the slave and reads nothing, by its command and the address that it has
pub record OnlyWrites (s : SlaveState) (d : Datagram) : Type 0 where
  pub writes : is_writing (role_of d.command (adp_of d) (station_of s)) ≡ true
  pub reads : is_reading (role_of d.command (adp_of d) (station_of s)) ≡ false

pub record IsWrite (s : SlaveState) (d : Datagram) : Type 0 where
  pub slave : slave_met s d ≡ physical_after s false true (window_of d)
  pub bytes : (datagram_met s d).data_bytes ≡ d.data_bytes
  pub counter : (datagram_met s d).counter ≡ (d.counter + from_bool (is_written s (window_of d))) % 65536

abbrev pub WritesMeet : Type 0
WritesMeet = (s : SlaveState) (d : Datagram) → OnlyWrites s d → IsWrite s d

-- it reads there and writes nothing, and isn't a broadcast
pub record OnlyReads (s : SlaveState) (d : Datagram) : Type 0 where
  pub reads : is_reading (role_of d.command (adp_of d) (station_of s)) ≡ true
  pub writes : is_writing (role_of d.command (adp_of d) (station_of s)) ≡ false
  pub joins : is_joining (role_of d.command (adp_of d) (station_of s)) ≡ false

pub record IsReadOut (s : SlaveState) (d : Datagram) : Type 0 where
  pub slave : slave_met s d ≡ physical_after s true false (window_of d)
  pub bytes : (datagram_met s d).data_bytes ≡ updated d.data_bytes (byte_read s false (window_of d))
  pub counter : (datagram_met s d).counter ≡ (d.counter + from_bool (some_byte_read s.managers (window_of d))) % 65536

abbrev pub ReadsMeet : Type 0
ReadsMeet = (s : SlaveState) (d : Datagram) → OnlyReads s d → IsReadOut s d

-- A NOP, and an LRW at a slave that doesn't know it, do nothing; the other logical commands go through the FMMUs.
pub record IsLogical (s : SlaveState) (d : Datagram) : Type 0 where
  pub nop : d.command ≡ Nop → meets s d ≡ record { slave = s; datagram = d }
  pub lrd : d.command ≡ Lrd → meets s d ≡ meets_logically true false 1 s d
  pub lwr : d.command ≡ Lwr → meets s d ≡ meets_logically false true 1 s d
  pub lrw : d.command ≡ Lrw → s.kind.lrw ≡ true → meets s d ≡ meets_logically true true 2 s d
  pub no_lrw : d.command ≡ Lrw → s.kind.lrw ≡ false → meets s d ≡ record { slave = s; datagram = d }

abbrev pub LogicalCommandsMeet : Type 0
LogicalCommandsMeet = (s : SlaveState) (d : Datagram) → IsLogical s d

-- a list some of whose numbers are replaced: f has the new number at such a place, and none at any other
pub record IsUpdated (xs : List ℕ) (f : ℕ → Option ℕ) : Type 0 where
  pub long : length (updated xs f) ≡ length xs
  pub each : (k : ℕ) → k < length xs → slice_index (updated xs f) k ≡ unwrap_or (f k) (slice_index xs k)

abbrev pub UpdatedByIndex : Type 0
UpdatedByIndex = (xs : List ℕ) (f : ℕ → Option ℕ) → IsUpdated xs f

-- if f has a number at each place, the list is these numbers
abbrev pub UpdatedWhole : Type 0
UpdatedWhole = (xs ys : List ℕ) (f : ℕ → Option ℕ) → length xs ≡ length ys → ((k : ℕ) → k < length ys → f k ≡ Some (slice_index ys k)) → updated xs f ≡ ys

-- a slave that publishes new outputs has them in manager 2, and all other managers as they were
pub record PublishesOutputs (s : SlaveState) (v : List ℕ) : Type 0 where
  pub own : 2 < length s.managers → manager_at (with_outputs s v).managers 2 ≡ with_published (manager_at s.managers 2) v
  pub others : (n : ℕ) → n ≢ 2 → manager_at (with_outputs s v).managers n ≡ manager_at s.managers n

abbrev pub OutputsArePublished : Type 0
OutputsArePublished = (s : SlaveState) (v : List ℕ) → PublishesOutputs s v

-- ---- registers

-- the manager at place n after a write of registers
abbrev pub set_by : Option Hardware → Window → ℕ → SyncManager → SyncManager
set_by o w n m = if is_configured o w n then configured m (settings_written o w n m) else m

-- what a write of registers leaves
pub record Wrote (w : Window) (s t : SlaveState) : Type 0 where
  pub kind : t.kind ≡ s.kind
  pub room : length t.memory ≡ length s.memory
  pub untouched : (a : ℕ) → a < length s.memory → touches w a ≡ false → slice_index t.memory a ≡ slice_index s.memory a
  pub missing : (a : ℕ) → is_missing s.kind.hardware a ≡ true → slice_index t.memory a ≡ slice_index s.memory a
  pub taken : (a : ℕ) → a < length s.memory → a < ram_start → touches w a ≡ true → keeps s.kind.hardware a ≡ true → within sync_managers 32 a ≡ false → slice_index t.memory a ≡ slice_index w.bytes (a - w.from)
  pub count : length t.managers ≡ length s.managers
  pub managers : (n : ℕ) → n < length s.managers → manager_at t.managers n ≡ set_by s.kind.hardware w n (manager_at s.managers n)
  pub al : t.al ≡ (if touches w al_control then al.requesting s.al else s.al)
  pub sii : t.sii ≡ port.written s.sii w.from w.bytes
  pub link : t.link ≡ dl_written s.link w.from w.bytes
  pub outs : t.outs ≡ s.outs
  pub ins : t.ins ≡ s.ins
  pub values : t.values ≡ s.values

abbrev pub RegistersAreWritten : Type 0
RegistersAreWritten = (s : SlaveState) (w : Window) → w.from + length w.bytes ≤ ram_start → Wrote w s (physical_after s false true w)

-- a read of registers changes nothing
abbrev pub RegistersAreRead : Type 0
RegistersAreRead = (s : SlaveState) (w : Window) → w.from + length w.bytes ≤ ram_start → physical_after s true false w ≡ s

-- a write that touches no byte of a manager's eight sets nothing of it
abbrev pub ManagersAside : Type 0
ManagersAside =
    (o : Option Hardware) (w : Window) (n : ℕ) → let start : ℕ = manager_start (manager_number o n) in
    (w.from + length w.bytes ≤ start) ⊎ (start + 8 ≤ w.from) → is_configured o w n ≡ false

-- Zeros over the registers of all managers clear each of them, whatever its number.
abbrev pub ManagersAreCleared : Type 0
ManagersAreCleared =
    (o : Option Hardware) (bytes : List ℕ) (n : ℕ) (m : SyncManager) → AreNumbered o → 32 ≤ length bytes → ((k : ℕ) → k < length bytes → slice_index bytes k ≡ 0) → n < 4
    → set_by o (record { from = sync_managers; bytes = bytes }) n m ≡ configured m no_settings

-- A write of 0x0500, by which a master takes the SII or leaves it to the device, changes nothing of a slave that isn't full.
abbrev pub SiiConfigurationIsLeft : Type 0
SiiConfigurationIsLeft =
    (s : SlaveState) (x : ℕ) → s.link.visible ≡ false → s.sii.address < 2 ^ 32
    → physical_after s false true (record { from = 0x0500; bytes = x ∷ [] }) ≡ s

-- So it leaves one that was just switched on.
abbrev pub FreshSlavesAreLeft : Type 0
FreshSlavesAreLeft =
    (kind : SlaveKind) (identity : Identity) (x : ℕ) → kind.face ≡ None
    → physical_after (power_on kind identity) false true (record { from = 0x0500; bytes = x ∷ [] }) ≡ power_on kind identity

-- every register may be read, and written as its row in the table of registers says
pub record AreOpen (ms : List SyncManager) (touched : ℕ → Bool) (a : ℕ) : Type 0 where
  pub reads : may_read_byte ms touched a ≡ true
  pub writes : (busy : Bool) → may_write_byte ms busy touched a ≡ takes_writes busy a

abbrev pub RegistersAreOpen : Type 0
RegistersAreOpen = (ms : List SyncManager) (touched : ℕ → Bool) (a : ℕ) → a < ram_start → AreOpen ms touched a

-- what the registers of the AL status and of the SII read; station address and FMMUs read as they were stored
pub record ShowsItself (s : SlaveState) : Type 0 where
  pub status : byte_at s al_status ≡ al.status_word s.al
  pub status_high : byte_at s (al_status + 1) ≡ 0
  pub sii_low : byte_at s sii_control ≡ 0
  pub sii_high : byte_at s port.command_address ≡ from_bool s.sii.busy + 32 * from_bool s.sii.error + 128 * from_bool s.sii.busy
  pub sii_found : (k : ℕ) → k < 4 → byte_at s (sii_data + k) ≡ slice_index (to_le_bytes w32 s.sii.found) k
  pub station : (k : ℕ) → k < 2 → byte_at s (station_address + k) ≡ slice_index s.memory (station_address + k)
  pub mappings : (n k : ℕ) → n < 4 → k < 16 → byte_at s (fmmu_start n + k) ≡ slice_index s.memory (fmmu_start n + k)

abbrev pub SlavesShowThemselves : Type 0
SlavesShowThemselves = (s : SlaveState) → ShowsItself s

-- ---- the RAM, and the managers that govern it

-- a byte of the RAM may be read, and written, if its governor lets it, and reads what that shows
pub record IsRam (s : SlaveState) (a : ℕ) : Type 0 where
  pub reads : (touched : ℕ → Bool) → may_read_byte s.managers touched a ≡ reads_under s.managers touched a (governor s.managers a)
  pub writes : (busy : Bool) (touched : ℕ → Bool) → may_write_byte s.managers busy touched a ≡ writes_under s.managers touched a (governor s.managers a)
  pub shows : byte_at s a ≡ ram_byte s.memory s.managers a (governor s.managers a)

abbrev pub RamIsGoverned : Type 0
RamIsGoverned = (s : SlaveState) (a : ℕ) → ram_start ≤ a → a < ram_end → IsRam s a

-- one manager under a read, or under a write that sets nothing of it: it is read or written if the access gets at it and may be
pub record IsAccessed (o : Option Hardware) (lower : List SyncManager) (w : Window) (n : ℕ) (m : SyncManager) : Type 0 where
  pub read : physical_manager o lower true false w n m ≡ (if is_read_by (touches w) (is_ungoverned lower) m then ring_read m else m)
  pub written : is_configured o w n ≡ false
      → physical_manager o lower false true w n m ≡ (if is_written_by (touches w) (is_ungoverned lower) m then ring_written m (physical_value lower w m.settings.start m.settings.length) else m)

abbrev pub ManagersAreAccessed : Type 0
ManagersAreAccessed = (o : Option Hardware) (lower : List SyncManager) (w : Window) (n : ℕ) (m : SyncManager) → IsAccessed o lower w n m

-- a write over exactly the bytes of a manager that no lower one reaches into brings it its data
abbrev pub WholeValuesAreTheData : Type 0
WholeValuesAreTheData = (w : Window) → physical_value [] w w.from (length w.bytes) ≡ w.bytes

-- a read changes managers alone; a write the memory, the managers, the AL request, the SII port and the data link registers
pub record AccessLeaves (s : SlaveState) (w : Window) : Type 0 where
  pub read : physical_after s true false w ≡ record s { managers = physical_managers s.kind.hardware [] true false w 0 s.managers }
  pub written : physical_after s false true w
      ≡ record s {
        memory = memory_written s.kind.hardware s.managers w s.memory;
        managers = physical_managers s.kind.hardware [] false true w 0 s.managers;
        al = if touches w al_control then al.requesting s.al else s.al;
        sii = port.written s.sii w.from w.bytes;
        link = dl_written s.link w.from w.bytes;
      }

abbrev pub AccessesLeave : Type 0
AccessesLeave = (s : SlaveState) (w : Window) → AccessLeaves s w
