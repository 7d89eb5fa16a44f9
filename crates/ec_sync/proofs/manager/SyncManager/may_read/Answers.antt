use Rattle.std.proofs.Common.{rules}
use Rattle.ec_sync.proofs.manager.SyncManager.may_read.Goals as goal

pub returns-else-not-is_mailbox-clause-value : goal.returns-else-not-is_mailbox-clause-value
returns-else-not-is_mailbox-clause-value c = search rules
