use Rattle.std.proofs.Common.{rules}
use Rattle.ec_console.proofs.form.advertise_in.Goals as goal

pub returns-in-Full : goal.returns-in-Full
returns-in-Full c = search rules
