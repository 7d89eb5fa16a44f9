-- Which payloads are frames (ETG.1000.4, "EtherCAT frame structure").
use Rattle.std.specs.Prelude.{◌≡◌, ℕ, ◌+◌, ◌/◌, ◌%◌, ◌<◌, ◌≤◌, Bool, if◌then◌else◌, List, ◌++◌, length, take, drop}
use Rattle.std.specs.List.{AllByRecursion}
use Rattle.byteorder.specs.Endian.{little_bytes, little_number}
use Rattle.ec_frame.specs.Datagram.{Datagram, IsDatagram, joined}

-- ---- the header: bits 0 to 10 the length of the datagrams, bit 11 reserved, bits 12 to 15 the type

abbrev pub length_field : List ℕ → ℕ
length_field payload = little_number 2 payload % 2048

abbrev pub type_field : List ℕ → ℕ
type_field payload = little_number 2 payload / 4096

-- the bytes of datagrams: as many as the header says, behind its two bytes
abbrev pub area : List ℕ → List ℕ
area payload = take (length_field payload) (drop 2 payload)

-- ---- a frame

abbrev pub IsByte : ℕ → Type 0
IsByte b = b < 256

-- what a payload says: bit 11 of its header, its datagrams, and the bytes after them
pub record Payload : Type 0 where
  pub reserved : Bool
  pub datagrams : List Datagram
  pub rest : List ℕ

-- The payload is a frame that says this: bytes, the header's length and type 1, the spellings of the datagrams joined, and the rest.
pub record IsFrame (payload : List ℕ) (p : Payload) : Type 0 where
  pub bytes : AllByRecursion IsByte payload
  pub some : 0 < length p.datagrams
  pub each : AllByRecursion IsDatagram p.datagrams
  pub most : length (joined p.datagrams) ≤ 1470
  pub parts : payload ≡ little_bytes 2 (length (joined p.datagrams) + (if p.reserved then 2048 else 0) + 4096) ++ (joined p.datagrams ++ p.rest)

abbrev pub with_datagrams : Payload → List Datagram → Payload
with_datagrams p ds = record p { datagrams = ds }
