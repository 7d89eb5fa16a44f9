-- A datagram and its spelling in bytes (ETG.1000.4, "EtherCAT datagram"). Numbers of several bytes are little-endian.
use Rattle.std.specs.Prelude.{◌≡◌, ℕ, ◌+◌, ◌*◌, ◌/◌, ◌%◌, ◌^◌, ◌<◌, Bool, true, false, if◌then◌else◌, List, [], ◌∷◌, ◌++◌, length, drop}
use Rattle.std.specs.List.{flat_map}
use Rattle.byteorder.specs.Endian.{little_bytes, little_number}
use Rattle.ec_frame.specs.declared.command.Command.{Command}
use Rattle.ec_frame.specs.Commands.{number_of}

pub record Datagram : Type 0 where
  pub command : Command
  pub index : ℕ
  -- the four address bytes as one number: ADP its low half and ADO its high half, or a logical address
  pub address : ℕ
  pub reserved : ℕ
  pub circulating : Bool
  pub irq : ℕ
  pub data_bytes : List ℕ
  pub counter : ℕ

abbrev pub adp_of : Datagram → ℕ
adp_of d = d.address % 65536

abbrev pub ado_of : Datagram → ℕ
ado_of d = d.address / 65536

-- the word of flags: bits 0 to 10 the data length, 11 to 13 reserved, 14 circulating, 15 more datagrams follow
abbrev pub flags : Bool → Datagram → ℕ
flags more d = length d.data_bytes + 2048 * d.reserved + (if d.circulating then 16384 else 0) + (if more then 32768 else 0)

-- the ten bytes before the data
abbrev pub heading : Bool → Datagram → List ℕ
heading more d = number_of d.command ∷ d.index ∷ little_bytes 4 d.address ++ little_bytes 2 (flags more d) ++ little_bytes 2 d.irq

abbrev pub spelling : Bool → Datagram → List ℕ
spelling more d = heading more d ++ (d.data_bytes ++ little_bytes 2 d.counter)

-- Each field fits its bits. This doesn't say that the data are bytes: `IsFrame` says it of the whole payload.
pub record IsDatagram (d : Datagram) : Type 0 where
  pub index : d.index < 256
  pub address : d.address < 2 ^ 32
  pub reserved : d.reserved < 8
  pub irq : d.irq < 65536
  pub data_bytes : length d.data_bytes < 2048
  pub counter : d.counter < 65536

-- the bytes spell one datagram
abbrev pub IsSpelling : List ℕ → Type 0
IsSpelling bytes = (more : Bool) × (d : Datagram) × IsDatagram d × (bytes ≡ spelling more d)

abbrev pub is_followed : List Datagram → Bool
is_followed [] = false
is_followed (d ∷ ds) = true

-- the spellings one after the other, the more bit set in all but the last
abbrev pub joined : List Datagram → List ℕ
joined [] = []
joined (d ∷ ds) = spelling (is_followed ds) d ++ joined ds

-- the spellings of datagrams that others follow
abbrev pub opened : List Datagram → List ℕ
opened ds = flat_map (spelling true) ds

-- the length of the data that the bytes of a datagram say
abbrev pub data_length : List ℕ → ℕ
data_length bytes = little_number 2 (drop 6 bytes) % 2048
