use Rattle.std.proofs.Common.{rules}
use Rattle.ec_sync.proofs.buffer.Buffer.published.Goals as goal

pub returns-clause-value : goal.returns-clause-value
returns-clause-value c = search rules
