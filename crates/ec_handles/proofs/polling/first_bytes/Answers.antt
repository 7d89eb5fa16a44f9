use Rattle.ec_handles.proofs.Taking.{first_bytes}
use Rattle.ec_handles.proofs.polling.first_bytes.Goals as goal

pub returns-clause-first : goal.returns-clause-first
returns-clause-first c = first_bytes c.args.bytes.now c.min-size.result c.min-size.ensures
