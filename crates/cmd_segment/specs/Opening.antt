-- A segment's wire, and what is told once it is open (this project's profile).
use Rattle.std.specs.Prelude.{◌≡◌, ℕ, List, ◌∷◌, [], ◌++◌, Option, None, Some, codes}
use Rattle.std.specs.Fmt.{decimal}
use Rattle.std.specs.Net.Text.{ipv4_text}
use Rattle.ec_wire.specs.Wires.{WireState, silent}
use Rattle.ec_console.specs.Printing.{IsEprinted, OutputState}
use Rattle.cmd_segment.specs.declared.opened.SegmentWire.{SegmentWire}
use Rattle.cmd_segment.specs.declared.opened.SegmentWire.TheVariants.{Card, Port}

-- nothing is known of what a socket carried
abbrev pub state_of : SegmentWire → WireState
state_of (Port socket) = silent socket.failed
state_of (Card wire) = wire

-- the line that says where a segment listens, by the four octets of its address
abbrev pub listening_line : (octets : List ℕ) → (port : ℕ) → List ℕ
listening_line octets port = codes "ecat: listening on " ++ (ipv4_text octets ++ (codes ":" ++ (decimal port ++ 10 ∷ [])))

-- the fault stream says that it listens there; with port 0 the system picks one
abbrev pub TellsPort : (octets : List ℕ) → (asked : ℕ) → (quiet told : OutputState) → Type 0
TellsPort octets asked quiet told = (port : ℕ) × ((asked ≡ 0 → ⊥) → port ≡ asked) × IsEprinted (listening_line octets port) quiet told

-- what is told of a wire: where it listens, or nothing if it is a card's
abbrev pub TellsOpened : (descriptor : Option ℕ) → (octets : List ℕ) → (asked : ℕ) → (quiet told : OutputState) → Type 0
TellsOpened None octets asked quiet told = TellsPort octets asked quiet told
TellsOpened (Some descriptor) octets asked quiet told = told ≡ quiet
