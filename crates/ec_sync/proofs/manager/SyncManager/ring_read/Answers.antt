use Rattle.std.proofs.Common.{rules}
use Rattle.ec_sync.proofs.manager.SyncManager.ring_read.Goals as goal

pub returns-clause-after : goal.returns-clause-after
returns-clause-after g c = search rules
