use Rattle.std.proofs.Common.{rules}
use Rattle.ec_sync.proofs.manager.SyncManager.app_put.Goals as goal

pub returns-then-not-may_app_put-clause-after : goal.returns-then-not-may_app_put-clause-after
returns-then-not-may_app_put-clause-after c = search rules
