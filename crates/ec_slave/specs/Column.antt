-- One datagram and the slaves that it passes, one after the other.
use Rattle.std.specs.Prelude.{List, [], ◌∷◌}
use Rattle.ec_frame.specs.Datagram.{Datagram}
use Rattle.ec_slave.specs.State.{SlaveState}
use Rattle.ec_slave.specs.Meeting.{slave_met, datagram_met}

-- each slave after it
abbrev pub slaves_met : List SlaveState → Datagram → List SlaveState
slaves_met [] d = []
slaves_met (s ∷ ss) d = slave_met s d ∷ slaves_met ss (datagram_met s d)

-- the datagram as it leaves the last
abbrev pub datagram_past : List SlaveState → Datagram → Datagram
datagram_past [] d = d
datagram_past (s ∷ ss) d = datagram_past ss (datagram_met s d)
