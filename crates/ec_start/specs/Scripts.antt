-- The script of a start-up: all its actions in order. Lay `phases` beside the table of phases: each line of it is
-- one phase of the table for all slaves, slave after slave.
--
-- | Phase | Action for each slave | Here |
-- |---|---|---|
-- | 0 | the slaves are counted, by all | CountSlaves |
-- | 1 to 3 | INIT for all; FMMUs, managers and station addresses are cleared; with `hardware` more, and the SII is taken | opened |
-- | 4 | it gets its station address; with `hardware` it is awaited without an error, if it has firmware | named, settled |
-- | 5 | vendor, product and revision are read from its SII; with `hardware` the SII is given back, by all | identified, closed |
-- | 6 | its mailboxes are set | mailbox_set |
-- | 7 | it is led to PREOP | raised PreOp |
-- | 8 | parameters are written, mappings are read back, then assignments are written, or read back where they are fixed | talked |
-- | 9 | its process data managers and its FMMUs are set | mapped |
-- | 10 | it is led to SAFEOP | raised SafeOp |
-- | 11 | it is led to OP | raised Op |
use Rattle.std.specs.Prelude.{ℕ, ◌+◌, ◌==◌, List, [], ◌∷◌, ◌++◌, length, Bool, true, false, if◌then◌else◌, Option, Some, None, is_some}
use Rattle.std.specs.List.{flat_map}
use Rattle.ec_device.specs.declared.slave_type.Entry.{Entry}
use Rattle.ec_device.specs.declared.slave_type.Pdo.{Pdo}
use Rattle.ec_device.specs.declared.slave_type.Mailbox.{Mailbox}
use Rattle.ec_device.specs.declared.hardware.Hardware.{Hardware}
use Rattle.ec_device.specs.declared.parameter.Parameter.{Parameter}
use Rattle.ec_device.specs.Hardware.{manager_number, other_name, is_fixed}
use Rattle.ec_device.specs.Types.{SlaveKind}
use Rattle.ec_regs.specs.declared.manager.SyncManagerSettings.{SyncManagerSettings}
use Rattle.ec_al.specs.declared.state.State.{State}
use Rattle.ec_al.specs.declared.state.State.TheVariants.{PreOp, SafeOp, Op}
use Rattle.ec_device.specs.Objects.{pdo_at}
use Rattle.ec_coe.specs.declared.value.SdoValue.{SdoValue}
use Rattle.ec_coe.specs.Objects.{byte_value, word_value, long_value, entry_number, output_assignment, input_assignment, has_some}
use Rattle.ec_coe.specs.SwitchedOn.{value_size}
use Rattle.ec_start.specs.Plans.{settings_at, fmmu_at}
use Rattle.ec_link.specs.declared.settings.SlavePlan.{SlavePlan}
use Rattle.ec_start.specs.declared.action.Transfer.TheVariants.{Download, Upload}
use Rattle.ec_start.specs.declared.action.SdoRequest.{SdoRequest}
use Rattle.ec_start.specs.declared.action.ManagerRegister.{ManagerRegister}
use Rattle.ec_start.specs.declared.action.Action.{Action}
use Rattle.ec_start.specs.declared.action.Action.TheVariants.{CountSlaves, AskInit, AwaitInit, ClearFmmus, ClearManagers, ClearStations, NameSlave, AskWord, AwaitWord, SetManager, SetFmmu, AskState, AwaitState, SendRequest, AwaitReply, AwaitFreeReply, AwaitInitState, ClearAllFmmus, ClearAllManagers, AssignSii, ClearSiiError, AwaitCleanInit}
use Rattle.ec_start.specs.declared.action.SiiAccess.TheVariants.{Master, Device, Forced}

-- whether the plan is one of a table with `hardware`: then each of its types says what its devices are like, and else none does
abbrev pub is_hardware : List SlavePlan → Bool
is_hardware [] = false
is_hardware (p ∷ ps) = is_some p.kind.hardware

-- ---- the requests to one slave: downloads of its parameters, uploads of each PDO that the plan assigns, then both assignments: downloads,
-- or uploads where the device has them fixed

abbrev pub downloads : (index subindex : ℕ) → SdoValue → SdoRequest
downloads index subindex value = record { index = index; subindex = subindex; transfer = Download value }

abbrev pub uploads : (index subindex : ℕ) → SdoValue → SdoRequest
uploads index subindex value = record { index = index; subindex = subindex; transfer = Upload value }

-- a parameter has 1, 2 or 4 bytes (ETG.1000.6, "SDO download expedited")
abbrev pub parameter_value : Parameter → SdoValue
parameter_value q = record { size = value_size q.size; number = q.value }

-- the parameters of a slave, in order: those of its type, then its own
abbrev pub parameters_written : List Parameter → List SdoRequest
parameters_written [] = []
parameters_written (q ∷ qs) = downloads q.index q.subindex (parameter_value q) ∷ parameters_written qs

-- the entries of a PDO, the first with subindex k
abbrev pub entries_read : ℕ → ℕ → List Entry → List SdoRequest
entries_read index k [] = []
entries_read index k (e ∷ es) = uploads index k (long_value (entry_number e)) ∷ entries_read index (k + 1) es

-- the number of entries of a PDO, and each of them
abbrev pub pdo_read : Option Pdo → List SdoRequest
pdo_read None = []
pdo_read (Some p) = uploads p.index 0 (byte_value (length p.entries)) ∷ entries_read p.index 1 p.entries

-- the indices of an assignment, the first with subindex k
abbrev pub slots_written : ℕ → ℕ → List ℕ → List SdoRequest
slots_written object k [] = []
slots_written object k (p ∷ ps) = downloads object k (word_value p) ∷ slots_written object (k + 1) ps

abbrev pub count_written : ℕ → List ℕ → List SdoRequest
count_written object [] = []
count_written object (p ∷ ps) = slots_written object 1 (p ∷ ps) ++ downloads object 0 (byte_value (length (p ∷ ps))) ∷ []

-- count 0, then each index, then the count; nothing if the type has no PDO of the direction
abbrev pub assignment_written : ℕ → List ℕ → Bool → List SdoRequest
assignment_written object indices false = []
assignment_written object indices true = downloads object 0 (byte_value 0) ∷ count_written object indices

abbrev pub slots_read : ℕ → ℕ → List ℕ → List SdoRequest
slots_read object k [] = []
slots_read object k (p ∷ ps) = uploads object k (word_value p) ∷ slots_read object (k + 1) ps

-- the count, then each index; nothing if the type has no PDO of the direction
abbrev pub assignment_read : ℕ → List ℕ → Bool → List SdoRequest
assignment_read object indices false = []
assignment_read object indices true = uploads object 0 (byte_value (length indices)) ∷ slots_read object 1 indices

-- an assignment that the device has fixed is read back and compared, any other is written
abbrev pub assignment_of : (fixed : Bool) → ℕ → List ℕ → Bool → List SdoRequest
assignment_of false = assignment_written
assignment_of true = assignment_read

-- the requests about its PDOs
abbrev pub pdo_requests : SlavePlan → List SdoRequest
pdo_requests p =
    flat_map (λ index. pdo_read (pdo_at p.kind.outputs index)) p.outputs
    ++ (flat_map (λ index. pdo_read (pdo_at p.kind.inputs index)) p.inputs
    ++ (assignment_of (is_fixed p.kind.hardware) output_assignment p.outputs (has_some p.kind.outputs)
    ++ assignment_of (is_fixed p.kind.hardware) input_assignment p.inputs (has_some p.kind.inputs)))

abbrev pub requests : SlavePlan → List SdoRequest
requests p = parameters_written p.kind.init ++ pdo_requests p

-- ---- the actions of one slave, phase by phase

abbrev pub named : ℕ → SlavePlan → List Action
named i p = NameSlave i ∷ []

-- a slave without firmware may show an error that isn't one: its AL status is a copy of AL control
abbrev pub settled_by : ℕ → Option Hardware → List Action
settled_by i None = []
settled_by i (Some h) = if h.has_firmware then AwaitCleanInit i ∷ [] else []

abbrev pub settled : ℕ → SlavePlan → List Action
settled i p = settled_by i p.kind.hardware

abbrev pub identified : ℕ → SlavePlan → List Action
identified i p = AskWord i 0 ∷ AwaitWord i 0 ∷ AskWord i 1 ∷ AwaitWord i 1 ∷ AskWord i 2 ∷ AwaitWord i 2 ∷ []

-- the register of the manager of a role, as a device of the type has it
abbrev pub register_of : SlaveKind → (place : ℕ) → SyncManagerSettings → ManagerRegister
register_of kind place m = record { number = manager_number kind.hardware place; start = other_name kind.hardware m.start }

abbrev pub set_manager : ℕ → SlavePlan → ℕ → Action
set_manager i p n = SetManager i n (settings_at p.managers n) (register_of p.kind n (settings_at p.managers n))

abbrev pub set_fmmu : ℕ → SlavePlan → ℕ → Action
set_fmmu i p n = SetFmmu i n (fmmu_at p.fmmus n) (other_name p.kind.hardware (fmmu_at p.fmmus n).physical_start)

abbrev pub mailbox_set : ℕ → SlavePlan → Option Mailbox → List Action
mailbox_set i p None = []
mailbox_set i p (Some b) = set_manager i p 0 ∷ set_manager i p 1 ∷ []

abbrev pub raised : State → ℕ → SlavePlan → List Action
raised state i p = AskState i state ∷ AwaitState i state ∷ []

-- real devices also send other messages, and uploads of any size
abbrev pub reply_awaited : (hardware : Bool) → ℕ → Mailbox → SdoRequest → Action
reply_awaited false i b r = AwaitReply i b r
reply_awaited true i b r = AwaitFreeReply i b r

abbrev pub exchanged : (hardware : Bool) → ℕ → Mailbox → ℕ → List SdoRequest → List Action
exchanged hardware i b before [] = []
exchanged hardware i b before (r ∷ rs) = SendRequest i before b r ∷ reply_awaited hardware i b r ∷ exchanged hardware i b (before + 1) rs

abbrev pub talked : ℕ → SlavePlan → Option Mailbox → List Action
talked i p None = []
talked i p (Some b) = exchanged (is_some p.kind.hardware) i b 0 (requests p)

abbrev pub manager_set : ℕ → SlavePlan → ℕ → List Action
manager_set i p n = if (settings_at p.managers n).activate == 0 then [] else set_manager i p n ∷ []

abbrev pub fmmu_set : ℕ → SlavePlan → ℕ → Bool → List Action
fmmu_set i p n true = set_fmmu i p n ∷ []
fmmu_set i p n false = []

abbrev pub mapped : ℕ → SlavePlan → List Action
mapped i p =
    manager_set i p 2 ++ (manager_set i p 3
    ++ (fmmu_set i p 0 (fmmu_at p.fmmus 0).active ++ fmmu_set i p 1 (fmmu_at p.fmmus 1).active))

-- ---- all of it

abbrev pub each_slave : (ℕ → SlavePlan → List Action) → ℕ → List SlavePlan → List Action
each_slave f i [] = []
each_slave f i (p ∷ ps) = f i p ++ each_slave f (i + 1) ps

abbrev pub cleared : List Action
cleared = AskInit ∷ AwaitInit ∷ ClearFmmus ∷ ClearManagers ∷ ClearStations ∷ []

-- all registers that a device may have are cleared, the SII goes to the master, and the error of a former read is cleared
abbrev pub all_cleared : List Action
all_cleared =
    AskInit ∷ AwaitInitState ∷ ClearAllFmmus ∷ ClearAllManagers ∷ ClearStations ∷ AssignSii Forced ∷ AssignSii Master ∷ ClearSiiError ∷ []

abbrev pub opened : Bool → List Action
opened hardware = if hardware then all_cleared else cleared

-- the SII goes to the devices: some read it on their way to PREOP
abbrev pub closed : Bool → List Action
closed hardware = if hardware then AssignSii Device ∷ [] else []

abbrev pub phases : List SlavePlan → List Action
phases ps =
    opened (is_hardware ps)
    ++ (each_slave named 0 ps
    ++ (each_slave settled 0 ps
    ++ (each_slave identified 0 ps
    ++ (closed (is_hardware ps)
    ++ (each_slave (λ i p. mailbox_set i p p.kind.mailbox) 0 ps
    ++ (each_slave (raised PreOp) 0 ps
    ++ (each_slave (λ i p. talked i p p.kind.mailbox) 0 ps
    ++ (each_slave mapped 0 ps
    ++ (each_slave (raised SafeOp) 0 ps
    ++ each_slave (raised Op) 0 ps)))))))))

-- without slaves the first action is all
abbrev pub script : List SlavePlan → List Action
script [] = CountSlaves ∷ []
script (p ∷ ps) = CountSlaves ∷ phases (p ∷ ps)
