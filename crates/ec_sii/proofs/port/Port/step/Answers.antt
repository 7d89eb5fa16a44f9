use Rattle.std.proofs.Common.{rules}
use Rattle.ec_sii.specs.Port.{stepped}
use Rattle.ec_sii.proofs.port.Port.step.Goals as goal

pub returns-else-address-last_address : goal.returns-else-address-last_address
unfolding stepped
returns-else-address-last_address c = search rules
