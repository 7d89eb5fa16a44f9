use Rattle.std.proofs.Common.{arith}
use Rattle.std.proofs.lemmas.Grind.{common_steps}
use Rattle.ec_sync.specs.Buffer.{app_read}
use Rattle.ec_sync.proofs.buffer.Buffer.get.Goals as goal

pub returns-clause-byte : goal.returns-clause-byte
unfolding app_read
returns-clause-byte c = grind (arith, common_steps)
