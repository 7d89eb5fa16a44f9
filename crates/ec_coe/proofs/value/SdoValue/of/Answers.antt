use Rattle.std.proofs.Common.{rules}
use Rattle.ec_coe.proofs.value.SdoValue.of.Goals as goal

pub returns-in-One : goal.returns-in-One
returns-in-One c = search rules
