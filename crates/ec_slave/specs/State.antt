-- What a slave is at an instant (ETG.1000.3 and .5; the memory is this project's profile).
use Rattle.std.specs.Prelude.{ℕ, ◌+◌, ◌*◌, ◌%◌, List, [], ◌∷◌, map, slice_index, Option}
use Rattle.ec_bits.specs.Bits.{zeros}
use Rattle.ec_device.specs.declared.hardware.Hardware.{Hardware}
use Rattle.ec_device.specs.declared.slave_type.Identity.{Identity}
use Rattle.ec_regs.specs.declared.fmmu.FmmuSettings.{FmmuSettings}
use Rattle.ec_device.specs.Types.{SlaveKind}
use Rattle.ec_regs.specs.Memory.{station_address, fmmu_start, ram_end}
use Rattle.ec_regs.specs.Fmmus.{fmmu_of}
use Rattle.ec_regs.specs.Names.{shown_fmmu}
use Rattle.ec_frame.specs.Datagram.{Datagram}
use Rattle.ec_sync.specs.SyncManager.{SyncManager, no_manager}
pub use Rattle.ec_exchange.specs.Values.{manager_at}
use Rattle.ec_al.specs.Al.{Al}
use Rattle.ec_al.specs.Al as al
use Rattle.ec_dl.specs.DataLink.{DataLink, new_data_link}
use Rattle.ec_sii.specs.SiiImage.{image_of}
use Rattle.ec_sii.specs.Port.{Sii, idle_port}
use Rattle.ec_coe.specs.declared.value.SdoValue.{SdoValue}
use Rattle.ec_coe.specs.Objects.{Assignment, all_assigned}
use Rattle.ec_coe.specs.SwitchedOn.{first_values}

pub record SlaveState : Type 0 where
  -- the type that it is of
  pub kind : SlaveKind
  pub identity : Identity
  -- One byte for each address: below `ram_start` what datagrams stored, the sync managers' registers and the SII port
  -- aside; at `ram_start` and above, the RAM as it is if no manager governs it.
  pub memory : List ℕ
  -- the four sync managers in the order of their roles: mailbox out, mailbox in, outputs, inputs. Only the registers go by
  -- their numbers, and by the addresses that a type's outputs have there.
  pub managers : List SyncManager
  -- the AL state machine
  pub al : Al
  -- the SII port
  pub sii : Sii
  -- the data link registers that a full slave has besides
  pub link : DataLink
  -- the PDOs that are assigned, 0x1C12 (outputs) and 0x1C13 (inputs)
  pub outs : Assignment
  pub ins : Assignment
  -- the values of the parameters: one for each download of the type, the first to an object holding the object's
  pub values : List SdoValue
  -- the counter of its last mailbox reply, 0 before the first
  pub replies : ℕ

-- with other memory and managers
abbrev pub with_memory : SlaveState → List ℕ → List SyncManager → SlaveState
with_memory s memory managers = record s { memory = memory; managers = managers }

-- the station address, two registers, the low byte first (ETG.1000.4, "Station address")
abbrev pub station_of : SlaveState → ℕ
station_of s = slice_index s.memory station_address + 256 * slice_index s.memory (station_address + 1)

-- the four FMMUs, as their registers say; one that the slave lacks has registers of zeros
abbrev pub fmmus_of : Option Hardware → List ℕ → List FmmuSettings
fmmus_of o memory = map (λ n. shown_fmmu o (fmmu_of (λ k. slice_index memory (fmmu_start n + k)))) (0 ∷ 1 ∷ 2 ∷ 3 ∷ [])

abbrev pub fmmus : SlaveState → List FmmuSettings
fmmus s = fmmus_of s.kind.hardware s.memory

-- how many addresses there are: the RAM ends there
unfoldable pub memory_length : ℕ
memory_length = ram_end

-- A slave that was just switched on: every register that a datagram can write, and the RAM, are 0, the managers are empty,
-- the state is INIT without an error, all PDOs of the type are assigned in order, and each parameter has the value that its object
-- has without one.
unfoldable pub power_on : SlaveKind → Identity → SlaveState
power_on kind identity = record {
  kind = kind;
  identity = identity;
  memory = zeros memory_length;
  managers = no_manager ∷ no_manager ∷ no_manager ∷ no_manager ∷ [];
  al = al.power_on;
  sii = idle_port (image_of kind identity);
  link = new_data_link kind.face;
  outs = all_assigned kind.outputs;
  ins = all_assigned kind.inputs;
  values = first_values kind identity;
  replies = 0;
}

-- a slave and the bytes of a datagram after they met, and what the working counter grows by
pub record MetBytes : Type 0 where
  pub slave : SlaveState
  pub bytes : List ℕ
  pub added : ℕ

-- a slave and a datagram after they met
pub record Met : Type 0 where
  pub slave : SlaveState
  pub datagram : Datagram

-- the datagram that leaves, with its address and its data, and the working counter grown, modulo 65536; all else is as it came
abbrev pub with_answer : Datagram → ℕ → List ℕ → ℕ → Datagram
with_answer d address bytes added = record d { address = address; data_bytes = bytes; counter = (d.counter + added) % 65536 }
