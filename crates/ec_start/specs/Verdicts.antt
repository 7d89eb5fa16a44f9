-- What the returned datagram of an action says: the action is done, it is tried again, or the start-up has failed and why.
use Rattle.std.specs.Prelude.{ℕ, ◌+◌, ◌*◌, ◌%◌, ◌==◌, ◌&&◌, ◌||◌, not, List, length, Bool, if◌then◌else◌, nat_le, slice_index, Option, Some, None}
use Rattle.ec_device.specs.declared.slave_type.Device.{Device}
use Rattle.ec_regs.specs.Words.{al_flag, sii_error, sii_busy}
use Rattle.ec_frame.specs.Datagram.{Datagram}
use Rattle.ec_al.specs.declared.state.State.{State}
use Rattle.ec_al.specs.States.{state_number}
use Rattle.ec_coe.specs.declared.value.ValueSize.{ValueSize}
use Rattle.ec_coe.specs.declared.value.SdoValue.{SdoValue}
use Rattle.ec_coe.specs.declared.message.Message.{Message}
use Rattle.ec_coe.specs.declared.reply.Reply.{Reply}
use Rattle.ec_coe.specs.declared.reply.Reply.TheVariants.{Downloaded, Uploaded, Aborted, Unexpected}
use Rattle.ec_coe.specs.Messages.{size_number, message_length, message_read}
use Rattle.ec_coe.specs.Refusals.{type_in, service_in, coe_type}
use Rattle.ec_coe.specs.Emergency.{emergency_service}
use Rattle.ec_coe.specs.Replies.{reply_of, is_aside, free_reply_of}
use Rattle.ec_start.specs.declared.action.Transfer.{Transfer}
use Rattle.ec_start.specs.declared.action.Transfer.TheVariants.{Download, Upload}
use Rattle.ec_start.specs.declared.action.SdoRequest.{SdoRequest}
use Rattle.ec_start.specs.declared.action.Action.{Action}
use Rattle.ec_start.specs.declared.action.Action.TheVariants.{CountSlaves, AskInit, AwaitInit, ClearFmmus, ClearManagers, ClearStations, NameSlave, AskWord, AwaitWord, SetManager, SetFmmu, AskState, AwaitState, SendRequest, AwaitReply, AwaitFreeReply, AwaitInitState, ClearAllFmmus, ClearAllManagers, AssignSii, ClearSiiError, AwaitCleanInit, FeedPart}
use Rattle.ec_start.specs.declared.error.StartError.TheVariants.{BadMailbox, Count, Identity, Counter, AlError, Abort, Mapping}
use Rattle.ec_start.specs.declared.aside.Emergency.{Emergency}
use Rattle.ec_start.specs.declared.aside.Heard.{Heard}
use Rattle.ec_start.specs.declared.verdict.WantedDevice.{WantedDevice}
use Rattle.ec_start.specs.declared.verdict.Verdict.{Verdict}
use Rattle.ec_start.specs.declared.verdict.Verdict.TheVariants.{Next, Word, Fed, Again, Aside, Fails}

-- ---- numbers in the data, little-endian

abbrev pub word_at : List ℕ → ℕ → ℕ
word_at bytes k = slice_index bytes k + 256 * slice_index bytes (k + 1)

abbrev pub long_at : List ℕ → ℕ → ℕ
long_at bytes k = slice_index bytes k + 256 * slice_index bytes (k + 1) + 65536 * slice_index bytes (k + 2) + 16777216 * slice_index bytes (k + 3)

-- ---- the identity: the words that were read so far, 0 for each other

abbrev pub nothing_read : Device
nothing_read = record { vendor = 0; product = 0; revision = 0 }

-- word 0 is of another slave than the words before it, so it clears them
abbrev pub with_word : Device → ℕ → ℕ → Device
with_word s which value =
    if which == 0 then record { vendor = value; product = 0; revision = 0 }
    else (if which == 1 then record { vendor = s.vendor; product = value; revision = 0 }
    else record { vendor = s.vendor; product = s.product; revision = value })

-- the words that were read from this slave before the word `which`
abbrev pub read_before : Device → ℕ → Device
read_before s which =
    if which == 0 then nothing_read else (if which == 1 then record { vendor = s.vendor; product = 0; revision = 0 } else record { vendor = s.vendor; product = s.product; revision = 0 })

abbrev pub differs : ℕ → Device → Verdict
differs i s = Fails (Identity i s)

-- of a type without a revision each revision fits
abbrev pub is_device : WantedDevice → Device → Bool
is_device t s = (t.device.vendor == s.vendor) && ((t.device.product == s.product) && (t.any_revision || (t.device.revision == s.revision)))

-- the SII's control and status word, the word address, and at 6 the data: an error ends the start-up at once, busy means one
-- more poll, and after the third word the identity is compared with the type's
abbrev pub word_verdict : WantedDevice → Device → ℕ → ℕ → List ℕ → Verdict
word_verdict t s i which bytes =
    if sii_error (word_at bytes 0) then differs i (read_before s which)
    else (if sii_busy (word_at bytes 0) then Again
    else (if (which == 2) && not (is_device t (with_word s which (long_at bytes 6))) then differs i (with_word s which (long_at bytes 6))
    else Word (long_at bytes 6)))

-- ---- states: the AL status, and at 4 its code; the error flag ends the start-up, and it waits for the state without error

abbrev pub state_verdict : ℕ → State → List ℕ → Verdict
state_verdict i state bytes =
    if al_flag (slice_index bytes 0) then Fails (AlError i (word_at bytes 4))
    else (if slice_index bytes 0 % 32 == state_number state then Next else Again)

-- the state of all slaves in one byte, by OR: INIT is 1 of its four bits. What else it has may be errors, or the copied
-- acknowledgement of a device without firmware.
abbrev pub init_state_verdict : List ℕ → Verdict
init_state_verdict bytes = if slice_index bytes 0 % 16 == 1 then Next else Again

-- in INIT without an error; an error is awaited until it is acknowledged
abbrev pub clean_init_verdict : List ℕ → Verdict
clean_init_verdict bytes = if slice_index bytes 0 % 32 == 1 then Next else Again

-- ---- replies

-- the value that the type has
abbrev pub value_verdict : ℕ → SdoRequest → SdoValue → SdoValue → Verdict
value_verdict i r expected seen = if seen.number == expected.number then Next else Fails (Mapping i r.index r.subindex seen.number)

-- of the size that was asked for
abbrev pub upload_verdict : ℕ → SdoRequest → SdoValue → SdoValue → Verdict
upload_verdict i r expected seen = if not (size_number seen.size == size_number expected.size) then Fails (BadMailbox i) else value_verdict i r expected seen

abbrev pub reply_verdict : ℕ → SdoRequest → Transfer → Reply → Verdict
reply_verdict i r (Download value) Downloaded = Next
reply_verdict i r (Download value) (Uploaded seen) = Fails (BadMailbox i)
reply_verdict i r (Download value) (Aborted code) = Fails (Abort i code)
reply_verdict i r (Download value) Unexpected = Fails (BadMailbox i)
reply_verdict i r (Upload value) Downloaded = Fails (BadMailbox i)
reply_verdict i r (Upload value) (Uploaded seen) = upload_verdict i r value seen
reply_verdict i r (Upload value) (Aborted code) = Fails (Abort i code)
reply_verdict i r (Upload value) Unexpected = Fails (BadMailbox i)

-- the verdict on a mailbox's message as the reply to a request
abbrev pub message_verdict : ℕ → SdoRequest → Option Message → Verdict
message_verdict i r m = reply_verdict i r r.transfer (reply_of r.index r.subindex m)

-- ---- replies of real devices

-- An emergency has a CoE service of its own; behind the CoE header stand its error code and the error register (ETG.1000.4, "Mailbox
-- structure"; ETG.1000.6, "CoE header", "Emergency").
abbrev pub is_emergency : List ℕ → Bool
is_emergency bytes = nat_le message_length (length bytes) && ((type_in bytes == coe_type) && (service_in bytes == emergency_service))

abbrev pub emergency_in : List ℕ → Option Emergency
emergency_in bytes = if is_emergency bytes then Some (record { code = word_at bytes 8; register = slice_index bytes 10 }) else None

-- what a slave says by a message that is set aside
abbrev pub heard_in : ℕ → List ℕ → Heard
heard_in i bytes = record { slave = i; emergency = emergency_in bytes }

-- a value of any size; one without a size has as many bytes as was asked for
abbrev pub free_reply_verdict : ℕ → SdoRequest → Transfer → Reply → Verdict
free_reply_verdict i r (Upload value) (Uploaded seen) = value_verdict i r value seen
free_reply_verdict i r transfer reply = reply_verdict i r transfer reply

abbrev pub size_asked : Transfer → ValueSize
size_asked (Download value) = value.size
size_asked (Upload value) = value.size

abbrev pub free_message_verdict : ℕ → SdoRequest → Option Message → Verdict
free_message_verdict i r m = free_reply_verdict i r r.transfer (free_reply_of r.index r.subindex (size_asked r.transfer) m)

-- a message that is no SDO is set aside: the wait goes on
abbrev pub free_verdict : ℕ → SdoRequest → List ℕ → Verdict
free_verdict i r bytes = if is_aside bytes then Aside (heard_in i bytes) else free_message_verdict i r (message_read bytes)

-- ---- all actions

abbrev pub counted : ℕ → ℕ → ℕ → Verdict → Verdict
counted seen expected step v = if seen == expected then v else Fails (Counter step)

-- `n` slaves, step number `step`, what was seen of the identity, the device that the slave that is asked must be; in the waits
-- for a reply a counter of 0 says that there is none yet
abbrev pub verdict : ℕ → ℕ → Device → (ℕ → WantedDevice) → Action → Datagram → Verdict
verdict n step s types CountSlaves d = if d.counter == n then Next else Fails (Count d.counter)
verdict n step s types AskInit d = counted d.counter n step Next
verdict n step s types AwaitInit d = counted d.counter n step (if word_at d.data_bytes 0 == 1 then Next else Again)
verdict n step s types ClearFmmus d = counted d.counter n step Next
verdict n step s types ClearManagers d = counted d.counter n step Next
verdict n step s types ClearStations d = counted d.counter n step Next
verdict n step s types (NameSlave i) d = counted d.counter 1 step Next
verdict n step s types (AskWord i which) d = counted d.counter 1 step Next
verdict n step s types (AwaitWord i which) d = counted d.counter 1 step (word_verdict (types i) s i which d.data_bytes)
verdict n step s types (SetManager i k m r) d = counted d.counter 1 step Next
verdict n step s types (SetFmmu i k f start) d = counted d.counter 1 step Next
verdict n step s types (AskState i state) d = counted d.counter 1 step Next
verdict n step s types (AwaitState i state) d = counted d.counter 1 step (state_verdict i state d.data_bytes)
verdict n step s types (SendRequest i before b r) d = counted d.counter 1 step Next
verdict n step s types (AwaitReply i b r) d = if d.counter == 0 then Again else counted d.counter 1 step (message_verdict i r (message_read d.data_bytes))
-- ---- of a table with `hardware`; which registers a device has is its own, so not every clear is counted
verdict n step s types (AwaitFreeReply i b r) d = if d.counter == 0 then Again else counted d.counter 1 step (free_verdict i r d.data_bytes)
verdict n step s types AwaitInitState d = counted d.counter n step (init_state_verdict d.data_bytes)
verdict n step s types ClearAllFmmus d = Next
verdict n step s types ClearAllManagers d = Next
verdict n step s types (AssignSii access) d = Next
verdict n step s types ClearSiiError d = Next
verdict n step s types (AwaitCleanInit i) d = counted d.counter 1 step (clean_init_verdict d.data_bytes)
verdict n step s types (FeedPart f) d = counted d.counter f.counter step Fed
