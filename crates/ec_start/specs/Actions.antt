-- What a start-up does, action by action, and the datagram of each (ETG.1000.4, "Register description"; ETG.1000.6, "AL
-- state machine", "SDO services"; which init commands come is this project's profile). One action is one step: a wait is one
-- with all its polls.
use Rattle.std.specs.Prelude.{ℕ, ◌+◌, ◌-◌, ◌*◌, ◌/◌, ◌%◌, List, [], ◌∷◌, ◌++◌, length, if◌then◌else◌, Option, Some, None}
use Rattle.ec_bits.specs.Bits.{zeros}
use Rattle.ec_regs.specs.Memory.{station_address, al_control, al_status, sii_configuration, sii_control, fmmus, fmmu_start, sync_managers, manager_start}
use Rattle.ec_regs.specs.Managers.{manager_bytes}
use Rattle.ec_regs.specs.Fmmus.{fmmu_bytes}
use Rattle.ec_frame.specs.declared.command.Command.{Command}
use Rattle.ec_frame.specs.declared.command.Command.TheVariants.{Apwr, Fprd, Fpwr, Brd, Bwr, Lwr, Lrw}
use Rattle.ec_frame.specs.Datagram.{Datagram}
use Rattle.ec_frame.specs.Building.{new_datagram}
use Rattle.ec_frame.specs.Names.{name_datagram}
use Rattle.ec_al.specs.States.{state_number}
use Rattle.ec_sii.specs.Laws.{read_command}
use Rattle.ec_coe.specs.declared.message.Service.TheVariants.{Request as RequestService}
use Rattle.ec_coe.specs.declared.message.SdoCommand.{SdoCommand}
use Rattle.ec_coe.specs.declared.message.SdoCommand.TheVariants.{DownloadRequest, UploadRequest}
use Rattle.ec_coe.specs.declared.message.Message.{Message}
use Rattle.ec_coe.specs.Messages.{message_bytes}
use Rattle.ec_start.specs.declared.action.Transfer.{Transfer}
use Rattle.ec_start.specs.declared.action.Transfer.TheVariants.{Download, Upload}
use Rattle.ec_start.specs.declared.action.SdoRequest.{SdoRequest}
use Rattle.ec_start.specs.declared.action.SiiAccess.{SiiAccess}
use Rattle.ec_start.specs.declared.action.SiiAccess.TheVariants.{Master, Device, Forced}
use Rattle.ec_start.specs.declared.action.Action.{Action}
use Rattle.ec_start.specs.declared.action.Action.TheVariants.{CountSlaves, AskInit, AwaitInit, ClearFmmus, ClearManagers, ClearStations, NameSlave, AskWord, AwaitWord, SetManager, SetFmmu, AskState, AwaitState, SendRequest, AwaitReply, AwaitFreeReply, AwaitInitState, ClearAllFmmus, ClearAllManagers, AssignSii, ClearSiiError, AwaitCleanInit, FeedPart}

-- the slave that an action is for; none if it is for all slaves
abbrev pub slave_of_action : Action → Option ℕ
slave_of_action (NameSlave i) = Some i
slave_of_action (AwaitCleanInit i) = Some i
slave_of_action (AskWord i which) = Some i
slave_of_action (AwaitWord i which) = Some i
slave_of_action (SetManager i n m r) = Some i
slave_of_action (SetFmmu i n f start) = Some i
slave_of_action (AskState i state) = Some i
slave_of_action (AwaitState i state) = Some i
slave_of_action (SendRequest i before b r) = Some i
slave_of_action (AwaitReply i b r) = Some i
slave_of_action (AwaitFreeReply i b r) = Some i
slave_of_action _ = None

-- the station address of slave i
abbrev pub station : ℕ → ℕ
station i = 0x1001 + i

-- an ADP and an ADO
abbrev pub at : ℕ → ℕ → ℕ
at adp ado = adp % 65536 + 65536 * ado

-- SII words, two of them each: those of the identity are 0x08 the vendor, 0x0A the product, 0x0C the revision
abbrev pub word_address_of : ℕ → ℕ
word_address_of which = 0x08 + 2 * which

-- who has the SII, as its configuration register says (ETG.1000.4, "SII configuration")
abbrev pub access_number : SiiAccess → ℕ
access_number Master = 0
access_number Device = 1
access_number Forced = 2

-- ---- mailbox messages

abbrev pub request_command : Transfer → SdoCommand
request_command (Download value) = DownloadRequest value.size
request_command (Upload value) = UploadRequest

abbrev pub request_value : Transfer → ℕ
request_value (Download value) = value.number
request_value (Upload value) = 0

-- the message of a request before which so many were sent to the slave: its counter goes from 1 to 7 and begins at 1 again
abbrev pub request_message : ℕ → SdoRequest → Message
request_message before r = record { counter = before % 7 + 1; service = RequestService; command = request_command r.transfer; index = r.index; subindex = r.subindex; value = request_value r.transfer }

abbrev pub request_bytes : ℕ → SdoRequest → List ℕ
request_bytes before r = message_bytes (request_message before r)

-- a whole mailbox with a message at its front
abbrev pub filled : ℕ → List ℕ → List ℕ
filled size bytes = bytes ++ zeros (size - length bytes)

-- ---- datagrams

abbrev pub sent : Command → ℕ → ℕ → List ℕ → ℕ → Datagram
sent c adp ado bytes number = new_datagram c (number % 256) (at adp ado) bytes

-- the datagram of an action, in the frame of a number
abbrev pub datagram_of : Action → ℕ → Datagram
datagram_of CountSlaves number = sent Brd 0 al_status (zeros 2) number
-- INIT, with the acknowledgement of errors
datagram_of AskInit number = sent Bwr 0 al_control (0x11 ∷ 0 ∷ []) number
datagram_of AwaitInit number = sent Brd 0 al_status (zeros 2) number
datagram_of ClearFmmus number = sent Bwr 0 fmmus (zeros 64) number
datagram_of ClearManagers number = sent Bwr 0 sync_managers (zeros 32) number
datagram_of ClearStations number = sent Bwr 0 station_address (zeros 2) number
-- the slave at position i sees the ADP 0: each of the i slaves before it has added 1
datagram_of (NameSlave i) number = sent Apwr (65536 - i) station_address (station i % 256 ∷ station i / 256 ∷ []) number
datagram_of (AskWord i which) number = sent Fpwr (station i) sii_control (read_command (word_address_of which)) number
datagram_of (AwaitWord i which) number = sent Fprd (station i) sii_control (zeros 10) number
-- the registers go by the number and by the address that the device has: without `hardware` both are the plan's
datagram_of (SetManager i n m r) number = sent Fpwr (station i) (manager_start r.number) (manager_bytes (record m { start = r.start })) number
datagram_of (SetFmmu i n f start) number = sent Fpwr (station i) (fmmu_start n) (fmmu_bytes (record f { physical_start = start })) number
datagram_of (AskState i state) number = sent Fpwr (station i) al_control (state_number state ∷ 0 ∷ []) number
-- status, and behind it the status code
datagram_of (AwaitState i state) number = sent Fprd (station i) al_status (zeros 6) number
datagram_of (SendRequest i before b r) number = sent Fpwr (station i) b.receive_start (filled b.receive_size (request_bytes before r)) number
datagram_of (AwaitReply i b r) number = sent Fprd (station i) b.send_start (zeros b.send_size) number
-- ---- of a table with `hardware`
datagram_of (AwaitFreeReply i b r) number = sent Fprd (station i) b.send_start (zeros b.send_size) number
datagram_of AwaitInitState number = sent Brd 0 al_status (zeros 2) number
-- as many FMMUs and sync managers as a controller can have: 16
datagram_of ClearAllFmmus number = sent Bwr 0 fmmus (zeros 256) number
datagram_of ClearAllManagers number = sent Bwr 0 sync_managers (zeros 128) number
datagram_of (AssignSii access) number = sent Bwr 0 sii_configuration (access_number access ∷ []) number
datagram_of ClearSiiError number = sent Bwr 0 sii_control (zeros 2) number
datagram_of (AwaitCleanInit i) number = sent Fprd (station i) al_status (zeros 6) number
-- zeros over a part of the process data
datagram_of (FeedPart f) number = new_datagram (if f.split then Lwr else Lrw) (number % 256) f.address (zeros f.bytes)

-- its name and the action's datagram
abbrev pub frame_of : Action → ℕ → List Datagram
frame_of a number = name_datagram number 0 ∷ datagram_of a number ∷ []
