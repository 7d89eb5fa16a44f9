-- A capture of EtherCAT frames, how it stands in a file, and what is read of a file. It has interfaces by name, and packets that were
-- seen there, as Ethernet frames of type 0x88A4 (ETG.1000.4, "EtherCAT frame").
use Rattle.std.specs.Prelude.{ℕ, ◌+◌, ◌*◌, ◌/◌, ◌%◌, ◌^◌, ◌<◌, ◌≤◌, ◌==◌, List, [], ◌∷◌, ◌++◌, length, map, take, drop, slice_index, All, Bool, true, false, Option, None, Some, unwrap_or, option_map, if◌then◌else◌}
use Rattle.std.specs.List.{filter_map}
use Rattle.ec_capture.specs.Blocks.{Block, blocks_bytes, blocks_in, half, number, number_at, option_in, options_bytes, padded, padding}
use Rattle.ec_capture.specs.declared.packet.Packet.{Packet}

-- ---- what it is

-- A payload that was captured: its interface, its time in microseconds, whether it had passed a slave, and a comment if there is one.
pub record Captured : Type 0 where
  pub interface : ℕ
  pub time : ℕ
  pub passed : Bool
  pub payload : List ℕ
  pub comment : Option (List ℕ)

-- the interfaces by their names, and what was seen there, in order
pub record Capture : Type 0 where
  pub names : List (List ℕ)
  pub packets : List Captured

-- ---- how it stands in a file

-- the broadcast address; and the sender's, whose first byte has bit 1 set if the frame has passed a slave
abbrev pub everyone : List ℕ
everyone = 255 ∷ 255 ∷ 255 ∷ 255 ∷ 255 ∷ 255 ∷ []

abbrev pub sender : Bool → List ℕ
sender false = 0x00 ∷ 0x00 ∷ 0x00 ∷ 0x45 ∷ 0x43 ∷ 0x01 ∷ []
sender true = 0x02 ∷ 0x00 ∷ 0x00 ∷ 0x45 ∷ 0x43 ∷ 0x01 ∷ []

-- the Ethernet frame of a payload: to all, from the sender, of type 0x88A4, not padded
unfoldable pub ethernet_head : Bool → List ℕ
ethernet_head passed = everyone ++ (sender passed ++ (0x88 ∷ 0xA4 ∷ []))

abbrev pub ethernet : Bool → List ℕ → List ℕ
ethernet passed payload = ethernet_head passed ++ payload

-- how many bytes that frame has
abbrev pub ethernet_size : List ℕ → ℕ
ethernet_size payload = 14 + length payload

-- the section header: the byte order, version 1.0, and an unknown length
abbrev pub section_block : Block
section_block = record { kind = 0x0A0D0D0A; body = number 0x1A2B3C4D ++ (half 1 ++ (half 0 ++ (number 0xFFFFFFFF ++ number 0xFFFFFFFF))) }

-- an interface: Ethernet (link type 1), frames of up to 65535 bytes, and its name (option 2)
abbrev pub interface_block : List ℕ → Block
interface_block name = record { kind = 1; body = half 1 ++ (half 0 ++ (number 65535 ++ options_bytes 2 name)) }

-- a comment (option 1), if there is one
abbrev pub comment_bytes : Option (List ℕ) → List ℕ
comment_bytes None = []
comment_bytes (Some text) = options_bytes 1 text

-- a packet: its interface, the two halves of its time, how many bytes are kept and how many there were, the frame, and the
-- comment
abbrev pub packet_body : Captured → List ℕ
packet_body s =
    number s.interface ++ (number (s.time / 2 ^ 32) ++ (number (s.time % 2 ^ 32) ++ (number (ethernet_size s.payload) ++ (number (ethernet_size s.payload)
    ++ (padded (ethernet s.passed s.payload) ++ comment_bytes s.comment)))))

abbrev pub packet_block : Captured → Block
packet_block s = record { kind = 6; body = packet_body s }

abbrev pub blocks_of : Capture → List Block
blocks_of c = section_block ∷ (map interface_block c.names ++ map packet_block c.packets)

-- the file of a capture
abbrev pub file_of : Capture → List ℕ
file_of c = blocks_bytes (blocks_of c)

-- ---- what can stand there

-- a text fits into an option
abbrev pub IsText : List ℕ → Type 0
IsText text = length text < 2 ^ 16

-- a comment, if there is one, fits into an option
abbrev pub IsComment : Option (List ℕ) → Type 0
IsComment None = Unit {0}
IsComment (Some text) = IsText text

pub record IsCaptured (s : Captured) : Type 0 where
  pub interface : s.interface < 2 ^ 32
  pub time : s.time < 2 ^ 64
  -- the payload of an Ethernet frame
  pub payload : length s.payload ≤ 1500
  pub comment : IsComment s.comment

pub record IsCapture (c : Capture) : Type 0 where
  pub names : All IsText c.names
  pub packets : All IsCaptured c.packets

-- ---- what is read of a file

-- the name of an interface
abbrev pub name_in : List ℕ → List ℕ
name_in body = unwrap_or (option_in 2 (drop 8 body)) []

abbrev pub name_of : Block → Option (List ℕ)
name_of b = if b.kind == 1 then Some (name_in b.body) else None

-- the bytes that are kept of a packet
abbrev pub kept_in : List ℕ → List ℕ
kept_in body = take (number_at 12 body) (drop 20 body)

abbrev pub captured_in : List ℕ → Captured
captured_in body = record {
  interface = number_at 0 body;
  time = 2 ^ 32 * number_at 4 body + number_at 8 body;
  passed = slice_index (kept_in body) 6 / 2 % 2 == 1;
  payload = drop 14 (kept_in body);
  comment = option_in 1 (drop (20 + (number_at 12 body + padding (number_at 12 body))) body);
}

abbrev pub captured_of : Block → Option Captured
captured_of b = if b.kind == 6 then Some (captured_in b.body) else None

-- the capture that a file holds: its interfaces and its packets, in order; other blocks are skipped
abbrev pub capture_in : List ℕ → Capture
capture_in file = record { names = filter_map name_of (blocks_in file); packets = filter_map captured_of (blocks_in file) }

-- ---- a packet of the program

abbrev pub captured_as : Packet → Captured
captured_as p = record { interface = p.interface; time = p.time; passed = p.passed; payload = p.payload.now; comment = option_map (λ t. t.now) p.comment }
