-- The categories in the SII of a full slave, which stand behind its first 64 words (ETG.1000.6, "Slave information
-- interface area", tables of the categories). The standard counts their bytes; two of them stand in a word. What this
-- profile doesn't know of a slave is 0: groups, images, data types, currents, names but the slave's own.
use Rattle.std.specs.Prelude.{ℕ, ◌+◌, ◌*◌, ◌==◌, List, [], ◌∷◌, ◌++◌, length, replicate, Bool, true, false, if◌then◌else◌, Option, Some, None}
use Rattle.std.specs.List.{flat_map}
use Rattle.ec_bits.specs.Bits.{bytes_of_bits}
use Rattle.ec_device.specs.declared.slave_type.Entry.{Entry}
use Rattle.ec_device.specs.declared.slave_type.Pdo.{Pdo}
use Rattle.ec_device.specs.declared.slave_type.Mailbox.{Mailbox}
use Rattle.ec_regs.specs.declared.manager.SyncManagerSettings.{SyncManagerSettings}
use Rattle.ec_regs.specs.Managers.{no_settings, area_settings, mailbox_out_control, mailbox_in_control, outputs_control, inputs_control}
use Rattle.ec_device.specs.Types.{SlaveKind, pdos_bits}
use Rattle.ec_sii.specs.declared.categories.SiiManager.{SiiManager}

-- ---- words and categories

-- two bytes in a word, the low one first
abbrev pub pair : ℕ → ℕ → ℕ
pair low high = low + 256 * high

-- bytes in words; if their number is odd, a byte 0 follows the last
abbrev pub words_of : List ℕ → List ℕ
words_of [] = []
words_of (last ∷ []) = pair last 0 ∷ []
words_of (low ∷ high ∷ bytes) = pair low high ∷ words_of bytes

-- a category: its type, its length in words, its words
abbrev pub category : ℕ → List ℕ → List ℕ
category number words = number ∷ length words ∷ words

-- the types of the categories
abbrev pub strings_type : ℕ
strings_type = 10

abbrev pub general_type : ℕ
general_type = 30

abbrev pub fmmus_type : ℕ
fmmus_type = 40

abbrev pub managers_type : ℕ
managers_type = 41

-- TxPDO: those that the slave sends, its inputs
abbrev pub input_pdos_type : ℕ
input_pdos_type = 50

-- RxPDO: those that the slave receives, its outputs
abbrev pub output_pdos_type : ℕ
output_pdos_type = 51

-- ---- strings (type 10): how many there are, and of each its length and its letters; string 1 is the slave's name

abbrev pub strings_words : List ℕ → List ℕ
strings_words name = words_of (1 ∷ length name ∷ name)

-- ---- general (type 30), 32 bytes

-- byte 5, the CoE details: bit 0, SDO, and bit 2, PDO assignment, if there is a mailbox
abbrev pub coe_details : Option Mailbox → ℕ
coe_details None = 0
coe_details (Some m) = 0x05

-- byte 11, the flags: bit 1, no LRW, if the type takes no part in it
abbrev pub general_flags : Bool → ℕ
general_flags true = 0
general_flags false = 0x02

-- bytes 16 and 17, the physical ports, four bits each: ports 0 and 1 are MII (1), and the others aren't there
abbrev pub mii_ports : ℕ
mii_ports = 0x0011

-- bytes 2 and 3 name the order and the slave by the number of a string, here 1 for both
abbrev pub general_words : SlaveKind → List ℕ
general_words kind =
    pair 0 0 ∷ pair 1 1 ∷ pair 0 (coe_details kind.mailbox) ∷ pair 0 0 ∷ pair 0 0 ∷ pair 0 (general_flags kind.lrw)
    ∷ pair 0 0 ∷ pair 0 0 ∷ mii_ports ∷ replicate 7 0

-- ---- FMMUs (type 40): what each of the four is for, a byte each

abbrev pub for_outputs : List Pdo → ℕ
for_outputs [] = 0
for_outputs (p ∷ ps) = 1

abbrev pub for_inputs : List Pdo → ℕ
for_inputs [] = 0
for_inputs (p ∷ ps) = 2

abbrev pub fmmus_words : SlaveKind → List ℕ
fmmus_words kind = pair (for_outputs kind.outputs) (for_inputs kind.inputs) ∷ pair 0 0 ∷ []

-- ---- sync managers (type 41), eight bytes each: the settings that a master gives them, and what they are used for. The
-- usages 1 and 2 are the mailboxes that a master writes and reads, 3 and 4 the process data, outputs and inputs.

-- managers 0 and 1, if there are mailboxes
abbrev pub mailbox_managers : Option Mailbox → List SiiManager
mailbox_managers None =
    record { settings = no_settings; usage = 0 } ∷ record { settings = no_settings; usage = 0 } ∷ []
mailbox_managers (Some m) =
    record { settings = area_settings m.receive_start m.receive_size mailbox_out_control; usage = 1 }
    ∷ record { settings = area_settings m.send_start m.send_size mailbox_in_control; usage = 2 } ∷ []

-- the settings of the process data of a direction with so many bits; without any the manager isn't activated
abbrev pub data_settings : (start bits control : ℕ) → SyncManagerSettings
data_settings start bits control =
    record { start = start; length = bytes_of_bits bits; control = control; activate = if bits == 0 then 0 else 1 }

-- managers 2 and 3
abbrev pub data_managers : SlaveKind → List SiiManager
data_managers kind =
    record { settings = data_settings kind.out_start (pdos_bits kind.outputs) outputs_control; usage = 3 }
    ∷ record { settings = data_settings kind.in_start (pdos_bits kind.inputs) inputs_control; usage = 4 } ∷ []

-- the four
abbrev pub sii_managers : SlaveKind → List SiiManager
sii_managers kind = mailbox_managers kind.mailbox ++ data_managers kind

-- start and length, control and status, activate and usage
abbrev pub manager_words : SiiManager → List ℕ
manager_words m =
    m.settings.start ∷ m.settings.length ∷ pair m.settings.control 0 ∷ pair m.settings.activate m.usage ∷ []

abbrev pub managers_words : SlaveKind → List ℕ
managers_words kind = flat_map manager_words (sii_managers kind)

-- ---- PDOs (types 50 and 51), eight bytes for each and eight for each of its entries

-- index and subindex, name, data type and bits, flags
abbrev pub entry_words : Entry → List ℕ
entry_words e = e.index ∷ pair e.subindex 0 ∷ pair 0 e.bits ∷ 0 ∷ []

-- index, number of entries and sync manager, synchronization and name, flags; then the entries
abbrev pub pdo_words : ℕ → Pdo → List ℕ
pdo_words manager p =
    (p.index ∷ pair (length p.entries) manager ∷ pair 0 0 ∷ 0 ∷ []) ++ flat_map entry_words p.entries

-- the category of a direction, which is left out if it has no PDOs
abbrev pub pdos_category : (number manager : ℕ) → List Pdo → List ℕ
pdos_category number manager [] = []
pdos_category number manager (p ∷ ps) = category number (flat_map (pdo_words manager) (p ∷ ps))

-- ---- all of them

-- the categories of a slave with this name, one after another
unfoldable pub categories_of : SlaveKind → List ℕ → List ℕ
categories_of kind name =
    category strings_type (strings_words name)
    ++ category general_type (general_words kind)
    ++ category fmmus_type (fmmus_words kind)
    ++ category managers_type (managers_words kind)
    ++ pdos_category input_pdos_type 3 kind.inputs
    ++ pdos_category output_pdos_type 2 kind.outputs
