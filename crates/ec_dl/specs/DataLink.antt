-- The data link registers that a full slave has beside those of every slave (ETG.1000.4, "DL information", "DL control",
-- "DL status", "PDI control" and "SII access"). A slave that isn't full has none of them: they read 0 and take no write.
use Rattle.std.specs.Prelude.{ℕ, ◌+◌, ◌-◌, ◌*◌, ◌==◌, ◌&&◌, not, List, [], ◌∷◌, length, Bool, true, false, if◌then◌else◌, slice_index, Option, Some, None, is_some}
use Rattle.std.specs.Int.{from_bool, to_le_bytes, w16}
use Rattle.std.specs.List.{list_any}
use Rattle.std.specs.Option.{option_map_or}
use Rattle.ec_bits.specs.Bits.{within, zeros}
use Rattle.ec_device.specs.declared.slave_type.Face.{Face}

pub record DataLink : Type 0 where
  -- whether the slave is full
  pub visible : Bool
  -- whether a slave follows it on the ring
  pub next : Bool
  -- what datagrams wrote to the registers that store it, in the order of `stored_registers`
  pub stored : List ℕ

-- ---- what they read

-- the type of the slave controller, one byte: 0x11 is an ET1100; its revision and build, 0x0001 to 0x0003, read 0
abbrev pub controller_type : ℕ
controller_type = 0x0000

-- the port descriptors, one byte, two bits a port: ports 0 and 1 are MII, the others aren't there
abbrev pub port_descriptors : ℕ
port_descriptors = 0x0007

-- DL status, two bytes
abbrev pub dl_status : ℕ
dl_status = 0x0110

-- DL control's four bytes, PDI control and SII access: they keep what is written, which has no effect
abbrev pub stored_registers : List ℕ
stored_registers = 0x0100 ∷ 0x0101 ∷ 0x0102 ∷ 0x0103 ∷ 0x0140 ∷ 0x0500 ∷ []

-- the two bits of a port in DL status: its loop is closed (1), or there is communication (2)
abbrev pub port_state : Bool → ℕ
port_state connected = if connected then 2 else 1

-- DL status if a slave follows or not: the PDI is operational (bit 0); there is a link at port 0 (bit 4), and at port 1 (bit 5)
-- if a slave follows; bits 8 and above are the states of the four ports
abbrev pub status_word : Bool → ℕ
status_word next =
    1 + 16 + 32 * from_bool next
    + 256 * (port_state true + 4 * port_state next + 16 * port_state false + 64 * port_state false)

-- the place of a register among them
abbrev pub stored_index : ℕ → Option ℕ
stored_index a =
    if within 0x0100 4 a then Some (a - 0x0100)
    else (if a == 0x0140 then Some 4
    else (if a == 0x0500 then Some 5 else None))

-- whether an address keeps what is written
abbrev pub dl_stores : DataLink → ℕ → Bool
dl_stores d a = d.visible && is_some (stored_index a)

-- the byte that an address reads
unfoldable pub dl_byte : DataLink → ℕ → ℕ
dl_byte d a =
    if not d.visible then 0
    else (if a == controller_type then 0x11
    else (if a == port_descriptors then 0x0F
    else (if within dl_status 2 a then slice_index (to_le_bytes w16 (status_word d.next)) (a - dl_status)
    else option_map_or (slice_index d.stored) (stored_index a) 0)))

-- ---- what they take

-- whether a datagram over `count` bytes that begin at an address writes one of them
unfoldable pub dl_takes : DataLink → ℕ → ℕ → Bool
dl_takes d from count = d.visible && list_any (λ a. within from count a) stored_registers

-- a byte that an address keeps, after a datagram whose bytes begin at `from`
abbrev pub byte_stored : ℕ → List ℕ → ℕ → ℕ → ℕ
byte_stored from bytes a old = if within from (length bytes) a then slice_index bytes (a - from) else old

abbrev pub bytes_stored : ℕ → List ℕ → List ℕ → List ℕ
bytes_stored from bytes old =
    byte_stored from bytes 0x0100 (slice_index old 0) ∷ byte_stored from bytes 0x0101 (slice_index old 1)
    ∷ byte_stored from bytes 0x0102 (slice_index old 2) ∷ byte_stored from bytes 0x0103 (slice_index old 3)
    ∷ byte_stored from bytes 0x0140 (slice_index old 4) ∷ byte_stored from bytes 0x0500 (slice_index old 5) ∷ []

-- the registers after a datagram that writes bytes which begin at an address
unfoldable pub dl_written : DataLink → ℕ → List ℕ → DataLink
dl_written d from bytes = if dl_takes d from (length bytes) then record d { stored = bytes_stored from bytes d.stored } else d

-- ---- the power comes on

-- those of a full slave, which has a face, and of any other
abbrev pub new_data_link : Option Face → DataLink
new_data_link None = record { visible = false; next = false; stored = zeros 6 }
new_data_link (Some face) = record { visible = true; next = not face.is_last; stored = zeros 6 }
