use Rattle.std.proofs.Common.{rules}
use Rattle.ec_start.proofs.action.SdoRequest.message.Goals as goal

pub returns : goal.returns
returns c = search rules
