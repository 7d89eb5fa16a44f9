use Rattle.std.proofs.Common.{rules}
use Rattle.ec_names.proofs.register.Register.has_address.Goals as goal

pub returns-then-place-address : goal.returns-then-place-address
returns-then-place-address c = search rules
