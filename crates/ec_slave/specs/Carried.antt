-- What a datagram carries from slave to slave, as private code holds it: command, address, working counter and data. No
-- slave reads the other fields.
use Rattle.std.specs.Prelude.{ℕ, Bool, true, false, List}
use Rattle.ec_frame.specs.declared.command.Command.{Command}
use Rattle.ec_frame.specs.declared.command.Command.TheVariants.{Nop, Aprd, Apwr, Aprw, Fprd, Fpwr, Fprw, Brd, Bwr, Brw, Lrd, Lwr, Lrw, Armw, Frmw}
use Rattle.ec_frame.specs.Datagram.{Datagram}
use Rattle.ec_slave.specs.declared.column.Carried.{Carried}

-- a datagram that carries this, and has 0 in every other field
abbrev pub carrying : Command → Carried → List ℕ → Datagram
carrying command x bytes = record {
  command = command;
  index = 0;
  address = x.address;
  reserved = 0;
  circulating = false;
  irq = 0;
  data_bytes = bytes;
  counter = x.counter;
}

-- the logical commands go through the FMMUs
abbrev pub is_mapped : Command → Bool
is_mapped Nop = false
is_mapped Aprd = false
is_mapped Apwr = false
is_mapped Aprw = false
is_mapped Fprd = false
is_mapped Fpwr = false
is_mapped Fprw = false
is_mapped Brd = false
is_mapped Bwr = false
is_mapped Brw = false
is_mapped Lrd = true
is_mapped Lwr = true
is_mapped Lrw = true
is_mapped Armw = false
is_mapped Frmw = false
