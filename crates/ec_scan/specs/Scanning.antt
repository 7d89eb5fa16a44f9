-- What a scan may send: some of a start-up's actions. It looks, and changes no more than looking takes: station addresses, who has the
-- SII, the mailboxes' sync managers, INIT and PREOP.
use Rattle.std.specs.Prelude.{ℕ, ◌+◌, ◌-◌, ◌%◌, ◌≡◌, ◌≤◌, ◌<◌, ◌&&◌, ◌++◌, List, length, slice_index, Bool, true, false}
use Rattle.ec_bits.specs.Bits.{within}
use Rattle.ec_al.specs.declared.state.State.{State}
use Rattle.ec_al.specs.declared.state.State.TheVariants.{Init, PreOp, SafeOp, Op}
use Rattle.ec_coe.specs.declared.message.SdoCommand.TheVariants.{UploadRequest}
use Rattle.ec_coe.specs.declared.message.Message.{Message}
use Rattle.ec_coe.specs.Messages.{message_bytes}
use Rattle.ec_frame.specs.declared.command.Command.{Command}
use Rattle.ec_frame.specs.declared.command.Command.TheVariants.{Apwr, Aprw, Fpwr, Fprw, Bwr, Brw, Lrd, Lwr, Lrw, Armw, Frmw}
use Rattle.ec_frame.specs.Building.{bare_payload}
use Rattle.ec_frame.specs.Datagram.{Datagram, ado_of}
use Rattle.ec_frame.specs.Frame.{IsFrame}
use Rattle.ec_start.specs.declared.action.Transfer.{Transfer}
use Rattle.ec_start.specs.declared.action.Transfer.TheVariants.{Download, Upload}
use Rattle.ec_start.specs.declared.action.Action.{Action}
use Rattle.ec_start.specs.declared.action.Action.TheVariants.{CountSlaves, AskInit, AwaitInit, ClearFmmus, ClearManagers, ClearStations, NameSlave, AskWord, AwaitWord, SetManager, SetFmmu, AskState, AwaitState, SendRequest, AwaitReply, AwaitFreeReply, AwaitInitState, ClearAllFmmus, ClearAllManagers, AssignSii, ClearSiiError, AwaitCleanInit, FeedPart}
use Rattle.ec_start.specs.Actions.{frame_of}
use Rattle.ec_start.specs.Doable.{IsDoable}

-- ---- its actions

-- the states that it asks for
abbrev pub is_low : State → Bool
is_low Init = true
is_low PreOp = true
is_low SafeOp = false
is_low Op = false

abbrev pub is_upload : Transfer → Bool
is_upload (Download value) = false
is_upload (Upload value) = true

-- The RAM begins there, behind the registers (ETG.1000.4, "Register description"). Slaves say where their mailboxes are: if they name a
-- register, the scan must not write to it.
abbrev pub ram : ℕ
ram = 0x1000

abbrev pub IsOfScan : Action → Type 0
IsOfScan CountSlaves = Unit {0}
IsOfScan AskInit = Unit {0}
IsOfScan AwaitInit = ⊥
IsOfScan ClearFmmus = ⊥
IsOfScan ClearManagers = ⊥
IsOfScan ClearStations = Unit {0}
IsOfScan (NameSlave i) = Unit {0}
IsOfScan (AskWord i which) = Unit {0}
IsOfScan (AwaitWord i which) = Unit {0}
-- a mailbox's manager alone
IsOfScan (SetManager i place m r) = r.number < 2
IsOfScan (SetFmmu i n f start) = ⊥
IsOfScan (AskState i state) = is_low state ≡ true
IsOfScan (AwaitState i state) = is_low state ≡ true
-- a mailbox that lies in the RAM
IsOfScan (SendRequest i before b r) = (is_upload r.transfer ≡ true) × (ram ≤ b.receive_start) × (b.receive_start + b.receive_size ≤ 65536)
IsOfScan (AwaitReply i b r) = Unit {0}
IsOfScan (AwaitFreeReply i b r) = Unit {0}
IsOfScan AwaitInitState = Unit {0}
IsOfScan ClearAllFmmus = Unit {0}
IsOfScan ClearAllManagers = Unit {0}
IsOfScan (AssignSii access) = Unit {0}
IsOfScan ClearSiiError = Unit {0}
IsOfScan (AwaitCleanInit i) = Unit {0}
IsOfScan (FeedPart f) = ⊥

-- the payload is the frame of such an action
pub record IsScanFrame (payload : List ℕ) : Type 0 where
  pub action : Action
  pub number : ℕ
  pub of_scan : IsOfScan action
  pub doable : IsDoable action
  pub spelled : IsFrame payload (bare_payload (frame_of action number))

-- ---- what its frames can't do, in the datagram's words

abbrev pub is_write : Command → Bool
is_write Apwr = true
is_write Aprw = true
is_write Fpwr = true
is_write Fprw = true
is_write Bwr = true
is_write Brw = true
is_write Armw = true
is_write Frmw = true
is_write Lwr = true
is_write Lrw = true
is_write _ = false

abbrev pub is_logical : Command → Bool
is_logical Lrd = true
is_logical Lwr = true
is_logical Lrw = true
is_logical _ = false

-- it writes a byte of a slave, and this is what it writes there
abbrev pub writes : Datagram → ℕ → Bool
writes d a = is_write d.command && within (ado_of d) (length d.data_bytes) a

abbrev pub written_at : Datagram → ℕ → ℕ
written_at d a = slice_index d.data_bytes (a - ado_of d)

-- AL control, and the byte that has the command of the SII (ETG.1000.4, "Register description")
abbrev pub al_control : ℕ
al_control = 0x0120

abbrev pub sii_command : ℕ
sii_command = 0x0503

-- a mailbox with a message at its front that asks for an upload (ETG.1000.6, "SDO services")
pub record IsRequest (bytes : List ℕ) : Type 0 where
  pub message : Message
  pub rest : List ℕ
  pub spelled : bytes ≡ message_bytes message ++ rest
  pub upload : message.command ≡ UploadRequest

pub record IsHarmless (d : Datagram) : Type 0 where
  -- no process data
  pub physical : is_logical d.command ≡ false
  -- of AL control it asks for INIT (1) or PREOP (2)
  pub low : writes d al_control ≡ true → written_at d al_control % 16 ≤ 2
  -- an SII is read (1), or its error is cleared (0): never written
  pub reads_sii : writes d sii_command ≡ true → written_at d sii_command ≤ 1
  -- what it writes to the RAM is a message that asks for an upload
  pub uploads : (a : ℕ) → ram ≤ a → writes d a ≡ true → IsRequest d.data_bytes
  -- FMMUs are cleared, not set
  pub clears : (a : ℕ) → 0x0600 ≤ a → a < 0x0700 → writes d a ≡ true → written_at d a ≡ 0
  -- and so are the sync managers of process data: those from number 2 on
  pub unset : (a : ℕ) → 0x0810 ≤ a → a < ram → writes d a ≡ true → written_at d a ≡ 0
