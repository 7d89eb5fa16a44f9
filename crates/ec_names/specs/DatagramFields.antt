-- What remarks are made of: the command, the address, the data and the counter of a datagram.
use Rattle.std.specs.Prelude.{◌≡◌, ℕ, ◌+◌, ◌&&◌, nat_le, Bool, List, length, get_or}
use Rattle.ec_frame.specs.Datagram.{Datagram, data_length}
use Rattle.ec_names.specs.declared.datagram.DatagramFields.{DatagramFields}

-- The bytes begin with a whole datagram, with its heading, its data and its counter. Its command is one of those
-- that there are (ETG.1000.4, "EtherCAT datagram" and "Commands").
abbrev pub begins_a_datagram : List ℕ → Bool
begins_a_datagram bytes =
    nat_le 12 (length bytes) && nat_le (12 + data_length bytes) (length bytes) && nat_le (get_or bytes 0 0) 14

pub record HasFields (s : DatagramFields) (d : Datagram) : Type 0 where
  pub command : s.command ≡ d.command
  pub address : s.address ≡ d.address
  pub bytes : s.content.now ≡ d.data_bytes
  pub counter : s.counter ≡ d.counter
