-- What the definitions say together.
use Rattle.std.specs.Prelude.{◌≡◌, [], ◌∷◌, ◌++◌}
use Rattle.ec_capture.specs.Blocks.{block_bytes}
use Rattle.ec_capture.specs.Captures.{Capture, IsCapture, Captured, capture_in, file_of, packet_block}

-- Reading back the file of a capture gives the capture: its interfaces and its packets in order. Each packet has its interface, its
-- time, whether it had passed a slave, its payload and its comment.
abbrev pub CapturesReadBack : Type 0
CapturesReadBack = (c : Capture) → IsCapture c → capture_in (file_of c) ≡ c

-- The file of a capture, and a packet's block behind it, is the file of the capture with that packet.
abbrev pub CapturesGrow : Type 0
CapturesGrow = (c : Capture) (s : Captured) → file_of c ++ block_bytes (packet_block s) ≡ file_of (record c { packets = c.packets ++ s ∷ [] })
