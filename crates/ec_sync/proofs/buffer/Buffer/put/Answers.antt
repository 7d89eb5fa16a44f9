use Rattle.std.proofs.Common.{rules}
use Rattle.ec_sync.specs.Buffer.{app_written}
use Rattle.ec_sync.proofs.buffer.Buffer.put.Goals as goal

pub returns-clause-after : goal.returns-clause-after
unfolding app_written
returns-clause-after c = search rules
