use Rattle.std.proofs.Common.{rules}
use Rattle.ec_sync.proofs.manager.SyncManager.mailbox_put.Goals as goal

pub returns-clause-after : goal.returns-clause-after
returns-clause-after c = search rules
