-- A datagram's header as the code holds it, and a datagram with one field changed.
use Rattle.std.specs.Prelude.{ℕ, ◌+◌, ◌*◌, ◌/◌, Bool, List, length}
use Rattle.ec_frame.specs.declared.command.Command.{Command}
use Rattle.ec_frame.specs.declared.datagram.Header.{Header}
use Rattle.ec_frame.specs.Datagram.{Datagram}

abbrev pub header_of : Bool → Datagram → Header
header_of m d = record {
  command = d.command;
  index = d.index;
  address = d.address;
  data_length = length d.data_bytes;
  reserved = d.reserved;
  circulating = d.circulating;
  more = m;
  irq = d.irq;
}

abbrev pub with_command : Datagram → Command → Datagram
with_command d c = record d { command = c }

abbrev pub with_index : Datagram → ℕ → Datagram
with_index d n = record d { index = n }

abbrev pub with_address : Datagram → ℕ → Datagram
with_address d n = record d { address = n }

-- ADP is the low half of the address, and ADO stays
abbrev pub with_adp : Datagram → ℕ → Datagram
with_adp d n = record d { address = n + 65536 * (d.address / 65536) }

abbrev pub with_irq : Datagram → ℕ → Datagram
with_irq d n = record d { irq = n }

abbrev pub with_data : Datagram → List ℕ → Datagram
with_data d bytes = record d { data_bytes = bytes }

abbrev pub with_counter : Datagram → ℕ → Datagram
with_counter d n = record d { counter = n }
