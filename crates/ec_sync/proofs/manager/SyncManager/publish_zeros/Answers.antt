use Rattle.std.proofs.Common.{rules}
use Rattle.ec_sync.proofs.manager.SyncManager.publish_zeros.Goals as goal

pub returns : goal.returns
returns c = search rules
