-- The datagrams that a master sends, and the frame that a builder makes of them.
use Rattle.std.specs.Prelude.{ℕ, false, List, []}
use Rattle.ec_frame.specs.declared.command.Command.{Command}
use Rattle.ec_frame.specs.Datagram.{Datagram}
use Rattle.ec_frame.specs.Frame.{Payload}

-- a datagram as a master sends it: counter 0, and every bit that isn't named here 0
abbrev pub new_datagram : Command → ℕ → ℕ → List ℕ → Datagram
new_datagram command index address bytes = record {
  command = command;
  index = index;
  address = address;
  reserved = 0;
  circulating = false;
  irq = 0;
  data_bytes = bytes;
  counter = 0;
}

-- a payload of datagrams alone, with the reserved bit of its header 0
abbrev pub bare_payload : List Datagram → Payload
bare_payload ds = record { reserved = false; datagrams = ds; rest = [] }
