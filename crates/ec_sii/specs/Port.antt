-- The registers by which datagrams read the slave information interface (ETG.1000.4, "Slave information interface"):
-- control and status, the word address, and the data that were read last.
use Rattle.std.specs.Prelude.{ℕ, ◌+◌, ◌-◌, ◌*◌, ◌/◌, ◌%◌, ◌==◌, List, [], ◌∷◌, length, Bool, true, false, if◌then◌else◌, nat_le, slice_index, Option, Some, None, unwrap_or}
use Rattle.std.specs.Int.{from_bool, to_le_bytes, from_le_bytes, w32}
use Rattle.ec_bits.specs.Bits.{within}
use Rattle.ec_regs.specs.Memory.{sii_control, sii_address, sii_data}
use Rattle.ec_regs.specs.Words.{sii_word}
use Rattle.ec_sii.specs.SiiImage.{word_at, size_of}
use Rattle.ec_sii.specs.declared.image.SiiImage.{SiiImage}

-- the high byte of the control and status word, which has the command
abbrev pub command_address : ℕ
command_address = sii_control + 1

pub record Sii : Type 0 where
  pub image : SiiImage
  -- the word address that was written last
  pub address : ℕ
  -- a read was commanded and isn't finished
  pub busy : Bool
  -- a command or a word address was not possible
  pub error : Bool
  -- the two words that were read last
  pub found : ℕ

abbrev pub idle_port : SiiImage → Sii
idle_port image = record { image = image; address = 0; busy = false; error = false; found = 0 }

-- ---- what datagrams read

-- the control and status word: the command under way (1, a read, or none), the error, busy
abbrev pub status_word : Sii → ℕ
status_word p = sii_word (from_bool p.busy) p.error p.busy

-- its high byte; the low one is 0
abbrev pub status_byte : Sii → ℕ
status_byte p = status_word p / 256

-- the byte that an address of the port reads
unfoldable pub sii_byte : Sii → ℕ → ℕ
sii_byte p address =
    if address == command_address then status_byte p
    else (if within sii_address 4 address then slice_index (to_le_bytes w32 p.address) (address - sii_address)
    else (if within sii_data 4 address then slice_index (to_le_bytes w32 p.found) (address - sii_data) else 0))

-- ---- what datagrams write

-- the byte that a datagram, whose bytes begin at `from`, has for an address
abbrev pub byte_for : ℕ → List ℕ → ℕ → Option ℕ
byte_for from bytes address = if within from (length bytes) address then Some (slice_index bytes (address - from)) else None

-- byte k of the word address, after the datagram
abbrev pub address_byte : ℕ → ℕ → List ℕ → ℕ → ℕ
address_byte old from bytes k = unwrap_or (byte_for from bytes (sii_address + k)) (slice_index (to_le_bytes w32 old) k)

abbrev pub address_written : ℕ → ℕ → List ℕ → ℕ
address_written old from bytes =
    from_le_bytes w32 (address_byte old from bytes 0 ∷ address_byte old from bytes 1 ∷ address_byte old from bytes 2 ∷ address_byte old from bytes 3 ∷ [])

-- What the high byte of the control word commands by its bits 0 to 2, the word's command bits: 0 clears the error, 1 begins
-- a read, and any other is an error (this project's profile). Its other bits are ignored.
abbrev pub commanded : Sii → Option ℕ → Sii
commanded p None = p
commanded p (Some control) =
    if control % 8 == 0 then record { image = p.image; address = p.address; busy = p.busy; error = false; found = p.found }
    else (if control % 8 == 1 then record { image = p.image; address = p.address; busy = true; error = false; found = p.found }
    else record { image = p.image; address = p.address; busy = p.busy; error = true; found = p.found })

abbrev pub addressed : Sii → ℕ → Sii
addressed p address = record { image = p.image; address = address; busy = p.busy; error = p.error; found = p.found }

-- A datagram is written to the port: first its bytes are stored, then the command counts. While it is busy the port
-- takes no write.
unfoldable pub written : Sii → ℕ → List ℕ → Sii
written p from bytes =
    if p.busy then p
    else commanded (addressed p (address_written p.address from bytes)) (byte_for from bytes command_address)

-- ---- the firmware

-- the last word address at which two words stand in the image, whose size is in kibibits of 64 words
abbrev pub last_address : SiiImage → ℕ
last_address image = 64 * size_of image.categories - 2

-- two words as they stand in the data register
abbrev pub two_words : SiiImage → ℕ → ℕ
two_words image address = word_at image address + 65536 * word_at image (address + 1)

-- a firmware step finishes the read under way: it shows two words, or an error and the data as they were
unfoldable pub stepped : Sii → Sii
stepped p =
    if p.busy
    then (if nat_le p.address (last_address p.image)
    then record { image = p.image; address = p.address; busy = false; error = p.error; found = two_words p.image p.address }
    else record { image = p.image; address = p.address; busy = false; error = true; found = p.found })
    else p
