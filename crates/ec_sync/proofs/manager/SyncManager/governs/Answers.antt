use Rattle.std.proofs.Common.{rules}
use Rattle.ec_sync.proofs.manager.SyncManager.governs.Goals as goal

pub returns-then-self-address : goal.returns-then-self-address
returns-then-self-address c = search rules
