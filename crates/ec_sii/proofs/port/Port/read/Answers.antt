use Rattle.std.proofs.Common.{rules}
use Rattle.ec_sii.specs.Port.{sii_byte}
use Rattle.ec_sii.proofs.port.Port.read.Goals as goal

pub returns-in-1288-to-1291 : goal.returns-in-1288-to-1291
unfolding sii_byte
returns-in-1288-to-1291 c = search rules
