use Rattle.std.proofs.Common.{rules}
use Rattle.ec_wire.proofs.udp.UdpWire.bind_at.Goals as goal

pub returns : goal.returns
returns g c = search rules
