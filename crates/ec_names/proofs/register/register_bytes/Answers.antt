use Rattle.std.proofs.Common.{rules}
use Rattle.ec_names.proofs.register.register_bytes.Goals as goal

pub returns : goal.returns
returns c = search rules
