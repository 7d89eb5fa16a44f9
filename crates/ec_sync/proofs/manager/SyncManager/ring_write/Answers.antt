use Rattle.std.proofs.Common.{rules}
use Rattle.ec_sync.proofs.manager.SyncManager.ring_write.Goals as goal

pub store-requires-clause-allowed : goal.store-requires-clause-allowed
store-requires-clause-allowed g c = search rules

pub returns-clause-granted : goal.returns-clause-granted
returns-clause-granted g c = search rules

pub returns-clause-after : goal.returns-clause-after
returns-clause-after g c = search rules
